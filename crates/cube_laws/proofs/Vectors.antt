-- Vectors of draws that make lists equal.
pub use Rattle.counting_laws.proofs.Chains.{Vector, vectors, heads, length-vector, chain_bound}
use Rattle.std.proofs.Common.{◌≡◌, ℕ, ◌+◌, ◌-◌, ◌*◌, ◌^◌, ◌<◌, List, [], ◌∷◌, ◌++◌, length, Bool, true, false, refl, sym, ◌∙◌, ap, arith}
use Rattle.std.proofs.lemmas.Nat.{pow-add}
use Rattle.counting_laws.specs.Counting.{AtMost}
use Rattle.counting_laws.specs.Multiset.{same_tuple}
use Rattle.counting_laws.proofs.Bounds.{at_most_weaker}
use Rattle.counting_laws.proofs.Removal.{tuples}
use Rattle.cube_laws.specs.Extension.{fold_low, fold_all}
use Rattle.cube_laws.proofs.Coordinates.{fold_all-last, length-fold_all}
use Rattle.cube_laws.proofs.Draws.{coordinate}

differ : (xs ys : List ℕ) → (xs ≡ ys → ⊥) → same_tuple xs ys ≡ false
differ xs ys ne = go (same_tuple xs ys) refl
  where
    go : (b : Bool) → same_tuple xs ys ≡ b → b ≡ false
    go true e = absurd (ne (tuples.same xs ys e))
    go false e = refl

-- after any draws lists that differ are made equal by at most one more
one_more : (q k : ℕ) (xs ys v : List ℕ) → length xs ≡ 2 ^ k → length ys ≡ 2 ^ k → length v < k → same_tuple (fold_all v xs) (fold_all v ys) ≡ false
    → AtMost 1 (λ r. same_tuple (fold_all (v ++ r ∷ []) xs) (fold_all (v ++ r ∷ []) ys) ≡ true)
one_more q k xs ys v l m h f =
    let p : 2 ^ k ≡ 2 ^ (k - length v) * 2 ^ length v = let e : k ≡ (k - length v) + length v = omega arith in ap (λ n. 2 ^ n) e ∙ pow-add 2 (k - length v) (length v) in
    at_most_weaker (λ r. same_tuple (fold_all (v ++ r ∷ []) xs) (fold_all (v ++ r ∷ []) ys) ≡ true) (λ r. fold_low r (fold_all v xs) ≡ fold_low r (fold_all v ys)) 1 1
    (λ r e. sym (fold_all-last v xs r) ∙ tuples.same (fold_all (v ++ r ∷ []) xs) (fold_all (v ++ r ∷ []) ys) e ∙ fold_all-last v ys r) (omega arith)
    (coordinate (fold_all v xs) (fold_all v ys) (length-fold_all (2 ^ (k - length v)) v xs (l ∙ p) ∙ sym (length-fold_all (2 ^ (k - length v)) v ys (m ∙ p)))
    (λ e. let t = sym (ap (same_tuple (fold_all v xs)) e) ∙ tuples.at (fold_all v xs) in absurd (false_true (sym f ∙ t))))
  where
    false_true : false ≡ true → ⊥
    false_true e = cc

-- of two lists of 2 ^ k numbers that differ, at most k q ^ (k - 1) vectors of k numbers below q make them equal
pub vector_bound : (q k : ℕ) (xs ys : List ℕ) → length xs ≡ 2 ^ k → length ys ≡ 2 ^ k → (xs ≡ ys → ⊥)
    → AtMost (k * q ^ (k - 1)) (λ v. Vector q k v × (fold_all v xs ≡ fold_all v ys))
vector_bound q k xs ys l m ne =
    at_most_weaker (λ v. Vector q k v × (fold_all v xs ≡ fold_all v ys)) (λ v. Vector q k v × (same_tuple (fold_all v xs) (fold_all v ys) ≡ true)) (k * q ^ (k - 1)) (k * q ^ (k - 1))
    (λ v h. (h.0, sym (ap (same_tuple (fold_all v xs)) h.1) ∙ tuples.at (fold_all v xs))) (omega arith)
    (chain_bound q k (λ v. same_tuple (fold_all v xs) (fold_all v ys)) (differ xs ys ne) (λ v h f. one_more q k xs ys v l m h f))
