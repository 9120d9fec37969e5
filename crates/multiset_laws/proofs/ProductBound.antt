-- Products over unequal multisets of numbers.
use Rattle.std.proofs.Common.{◌≡◌, ◌≢◌, ℕ, suc, ◌+◌, ◌≤◌, ◌<◌, max, List, [], ◌∷◌, length, bit_xor, Bool, true, false, not, cond, eqb, ◌⊎◌, inl, inr, refl, sym, ◌∙◌, arith}
use Rattle.std.proofs.lemmas.Bool.{eqb-true, eqb-false, cases_lt, not-true}
use Rattle.tower_laws.specs.Tower.{mul}
use Rattle.poly_laws.specs.Polynomial.{horner}
use Rattle.tower_laws.proofs.Rules.{equal_from}
use Rattle.tower_laws.proofs.Field.{identity, from_one, field_terms}
use Rattle.tower_laws.proofs.Inverses.{zero_product}
use Rattle.std.specs.List.{AllByRecursion}
use Rattle.counting_laws.specs.Counting.{Distinct, AtMost}
use Rattle.counting_laws.specs.Multiset.{count, Same, product_by}
use Rattle.counting_laws.proofs.Bounds.{AllByRecursion-weaker, at_most_split, at_most_weaker, at_most_one, at_most_from}
use Rattle.counting_laws.proofs.Removal.{Out, take_out, same_with, numbers}
use Rattle.poly_laws.proofs.Products.{monic, horner-monic, length-monic, agree_everywhere}

one_not_zero : (a : ℕ) → 1 ≡ a → a ≡ 0 → ⊥
one_not_zero a e f = omega arith

-- where a product of differences is 0, the number is a member
root_is_member : (a : ℕ) (bs : List ℕ) → product_by (bit_xor a) bs ≡ 0 → 0 < count eqb a bs
root_is_member a [] h = absurd (one_not_zero _ refl h)
root_is_member a (b ∷ bs) h = go (eqb a b) refl (root_is_member a bs)
  where
    go : (t : Bool) → eqb a b ≡ t → (product_by (bit_xor a) bs ≡ 0 → 0 < count eqb a bs) → 0 < cond t (suc (count eqb a bs)) (count eqb a bs)
    go true q ih = omega arith
    go false q ih = ih (zero_product (bit_xor a b) (product_by (bit_xor a) bs) h (λ (p : bit_xor a b ≡ 0). eqb-false a b q (equal_from a b p)))

own_root : (a p : ℕ) → mul (bit_xor a a) p ≡ 0
own_root a p = identity (a ∷ p ∷ []) (search field_terms depth 60 fits 20000) refl

cancel : (c p q : ℕ) → c ≢ 0 → mul c p ≡ mul c q → p ≡ q
cancel c p q ne h = equal_from p q (zero_product c (bit_xor p q) (from_one 1 h (identity (c ∷ p ∷ q ∷ []) (search field_terms depth 60 fits 20000) refl)) ne)

abbrev pub Agree : List ℕ → List ℕ → ℕ → Type 0
Agree ls bs g = product_by (bit_xor g) ls ≡ product_by (bit_xor g) bs

-- products that agree at more places than either list is long agree everywhere
pub products_everywhere : (ls bs gs : List ℕ) → Distinct gs → AllByRecursion (Agree ls bs) gs → max (length ls) (length bs) < length gs → (x : ℕ) → Agree ls bs x
products_everywhere ls bs gs d h l x =
    let p = length-monic ls in
    let q = length-monic bs in
    sym (horner-monic ls x)
    ∙ agree_everywhere (monic ls) (monic bs) gs d
    (AllByRecursion-weaker (Agree ls bs) (λ g. horner (monic ls) g ≡ horner (monic bs) g) (λ g e. horner-monic ls g ∙ e ∙ sym (horner-monic bs g)) gs h) (omega arith) x
    ∙ horner-monic bs x

gamma_apart : (a : ℕ) (ls bs : List ℕ) → (0 < count eqb a bs → ⊥) → AtMost (max (suc (length ls)) (length bs)) (Agree (a ∷ ls) bs)
gamma_apart a ls bs unlike =
    at_most_from (Agree (a ∷ ls) bs) (max (suc (length ls)) (length bs))
    (λ gs d h l. unlike (root_is_member a bs (sym (products_everywhere (a ∷ ls) bs gs d h l a) ∙ own_root a (product_by (bit_xor a) ls))))

gamma_nil : (b : ℕ) (bs : List ℕ) → AtMost (suc (length bs)) (Agree [] (b ∷ bs))
gamma_nil b bs =
    at_most_from (Agree [] (b ∷ bs)) (suc (length bs))
    (λ gs d h l. one_not_zero _ (products_everywhere [] (b ∷ bs) gs d h (omega arith) b) (own_root b (product_by (bit_xor b) bs)))

off_root : (a x : ℕ) (ls bs cs : List ℕ) → ((f : ℕ → ℕ) → product_by f bs ≡ mul (f a) (product_by f cs)) → Agree (a ∷ ls) bs x × (not (eqb x a) ≡ true) → Agree ls cs x
off_root a x ls bs cs p h =
    cancel (bit_xor x a) (product_by (bit_xor x) ls) (product_by (bit_xor x) cs)
    (λ (z : bit_xor x a ≡ 0). eqb-false x a (not-true (eqb x a) h.1) (equal_from x a z)) (h.0 ∙ p (bit_xor x))

gamma_shared : (a : ℕ) (ls bs : List ℕ) (o : Out eqb a bs) → AtMost (max (length ls) (length o.rest)) (Agree ls o.rest) → AtMost (max (suc (length ls)) (length bs)) (Agree (a ∷ ls) bs)
gamma_shared a ls bs o h =
    let n = max (length ls) (length o.rest) in
    let e = o.size in
    at_most_weaker (Agree (a ∷ ls) bs) (Agree (a ∷ ls) bs) (1 + max (length ls) (length o.rest)) (max (suc (length ls)) (length bs)) (λ x r. r) (omega arith)
    (at_most_split (λ x. eqb x a) (Agree (a ∷ ls) bs) 1 (max (length ls) (length o.rest))
    (at_most_one (λ x. Agree (a ∷ ls) bs x × (eqb x a ≡ true)) a (λ x r. eqb-true x a r.1))
    (at_most_weaker (λ x. Agree (a ∷ ls) bs x × (not (eqb x a) ≡ true)) (Agree ls o.rest) (max (length ls) (length o.rest)) (max (length ls) (length o.rest)) (λ x r. off_root a x ls bs o.rest o.products r) (omega arith) h))

-- of unequal multisets the products of g + a agree at no more g than the longer list has members
pub products_apart : (ls bs : List ℕ) → (Same eqb ls bs → ⊥) → AtMost (max (length ls) (length bs)) (λ g. product_by (bit_xor g) ls ≡ product_by (bit_xor g) bs)
products_apart [] [] unlike = absurd (unlike (λ x. refl))
products_apart [] (b ∷ bs) unlike = at_most_weaker (Agree [] (b ∷ bs)) (Agree [] (b ∷ bs)) (suc (length bs)) (max 0 (suc (length bs))) (λ x r. r) (omega arith) (gamma_nil b bs)
products_apart (a ∷ ls) bs unlike = go (cases_lt 0 (count eqb a bs)) (products_apart ls)
  where
    go : (0 < count eqb a bs) ⊎ (count eqb a bs ≤ 0) → ((cs : List ℕ) → (Same eqb ls cs → ⊥) → AtMost (max (length ls) (length cs)) (Agree ls cs)) → AtMost (max (suc (length ls)) (length bs)) (Agree (a ∷ ls) bs)
    go (inl l) ih =
        let o = take_out eqb numbers a bs l in
        gamma_shared a ls bs o (ih o.rest (λ (s : Same eqb ls o.rest). unlike (same_with eqb a ls bs o.rest o.counts s)))
    go (inr l) ih = gamma_apart a ls bs (λ k. omega arith)
