-- What the prover of folds keeps from fold to fold.
use Rattle.std.proofs.Common.{◌≡◌, ℕ, suc, ◌+◌, ◌-◌, ◌*◌, ◌/◌, ◌^◌, ◌<◌, ◌≤◌, ◌⊎◌, inl, inr, List, [], ◌∷◌, ◌++◌, length, take, get_or, refl, sym, ◌∙◌, ap, arith}
use Rattle.std.specs.Int.{w128, to_le_bytes}
use Rattle.std.proofs.lemmas.List.{length_push, take_all, take-append-le, get_or_append_left, get_or_push, get_or_read, length-take, append_assoc}
use Rattle.std.proofs.lemmas.Nat.{pow-add, pow_pos}
use Rattle.std.proofs.Math.Nat.{div-lt_iff_lt-mul}
use Rattle.std.proofs.lemmas.Bool.{cases_lt}
use Rattle.cube_laws.specs.Sums.{tabulate}
use Rattle.cube_laws.specs.Extension.{extension, fold_all}
use Rattle.cube_laws.proofs.Weights.{length-tabulate}
use Rattle.word_laws.specs.CodeWord.{word}
use Rattle.hash_tree.specs.Tree.{digest_at, path_up_to}
use Rattle.fri_fold.specs.Folds.{pairs, folded, leaves, word_after}
use Rattle.fri_fold.specs.Prover.{Folding, IsFolding, leaves_at, openings}
use Rattle.fri_fold.proofs.Words.{next_word, last_value}

length-pairs : {X : Type 0} (make : ℕ → ℕ → ℕ → X) (p : ℕ) (w : List ℕ) → length (pairs make p w) ≡ length w / 2
length-pairs make p [] = refl
length-pairs make p (f ∷ []) = refl
length-pairs make p (f ∷ g ∷ w) = let h = length-pairs make (suc p) w in omega arith

pub length-leaves : (w : List ℕ) (n : ℕ) → length w ≡ 2 * n → length (leaves w) ≡ n
length-leaves w n h = let e = length-pairs (λ p f g. to_le_bytes w128 f ++ to_le_bytes w128 g) 0 w in omega arith

pub length-word : (m : ℕ) (table draws : List ℕ) → length (word_after m table draws) ≡ 2 ^ (m + 2 - length draws)
length-word m table draws = length-tabulate (2 ^ (m + 2 - length draws)) (word (length draws) (m - length draws) (fold_all draws table))

-- the positions of the word after j folds are those of the first, 2 ^ j apart
pub spaced : (m j b n : ℕ) → j ≤ m → b ≡ m + 2 → n ≡ 2 ^ (m + 2 - j) → n * 2 ^ j ≤ 2 ^ b
spaced m j b n l e h =
    let s : (m + 2 - j) + j ≡ b = omega arith in
    let p = pow-add 2 (m + 2 - j) j in
    let q : 2 ^ ((m + 2 - j) + j) ≡ 2 ^ b = ap (λ k. 2 ^ k) s in
    let r : n * 2 ^ j ≡ 2 ^ (m + 2 - j) * 2 ^ j = ap (λ k. k * 2 ^ j) h in
    omega arith

-- half the word before, twice the leaves
pub half_length : (m j n : ℕ) → j < m → n ≡ 2 ^ (m + 2 - suc j) → n ≡ 2 * 2 ^ (m - j)
half_length m j n l h =
    let s : m + 2 - suc j ≡ suc (m - j) = omega arith in
    let p : 2 ^ suc (m - j) ≡ 2 * 2 ^ (m - j) = omega arith in
    h ∙ ap (λ k. 2 ^ k) s ∙ p

pub next_length : (m r : ℕ) (table draws w next : List ℕ) → length table ≡ 2 ^ m → length draws < m → w ≡ word_after m table draws → next ≡ folded (length draws) r w → length next ≡ 2 * 2 ^ (m - length draws)
next_length m r table draws w next h l e f =
    let n : length (draws ++ r ∷ []) ≡ suc (length draws) = omega (arith, length_push draws r) in
    half_length m (length draws) (length next) l (ap length (f ∙ ap (folded (length draws) r) e ∙ next_word m r table draws h l) ∙ length-word m table (draws ++ r ∷ []) ∙ ap (λ k. 2 ^ (m + 2 - k)) n)

-- the trees before stay those of the first words
kept : (log r j : ℕ) (table draws : List ℕ) → j ≤ length draws → leaves (word_after log table (take j draws)) ≡ leaves (word_after log table (take j (draws ++ r ∷ [])))
kept log r j table draws l = ap (λ k. leaves (word_after log table k)) (sym (take-append-le j draws (r ∷ []) l))

pub folding_last : (log r : ℕ) (table draws w draws' next : List ℕ) (trees : List (List (List ℕ))) → IsFolding log table draws w trees → length draws + 1 ≡ log → draws' ≡ draws ++ r ∷ [] → next ≡ folded (length draws) r w
    → IsFolding log table draws' next trees
folding_last log r table draws w draws' next trees h l e f =
    let n : length draws' ≡ length draws + 1 = ap length e ∙ length_push draws r in
    let c = h.count in
    record {
      positive = h.positive;
      low = h.low;
      full = h.full;
      folds = omega arith;
      newest = f ∙ ap (folded (length draws) r) h.newest ∙ next_word log r table draws h.full (omega arith) ∙ ap (word_after log table) (sym e);
      count = omega arith;
      tree = λ j m. h.tree j m ∙ kept log r j table draws (omega arith) ∙ ap (λ k. leaves (word_after log table (take j k))) (sym e);
    }

pub folding_next : (log r : ℕ) (table draws w draws' next : List ℕ) (trees trees' : List (List (List ℕ))) (t : List (List ℕ)) → IsFolding log table draws w trees → length draws + 1 < log → draws' ≡ draws ++ r ∷ []
    → next ≡ folded (length draws) r w → trees' ≡ trees ++ t ∷ [] → t ≡ leaves next → IsFolding log table draws' next trees'
folding_next log r table draws w draws' next trees trees' t h l e f g s =
    let n : length draws' ≡ length draws + 1 = ap length e ∙ length_push draws r in
    let c = h.count in
    let k : length trees' ≡ length trees + 1 = ap length g ∙ length_push trees t in
    let newest : next ≡ word_after log table draws' = f ∙ ap (folded (length draws) r) h.newest ∙ next_word log r table draws h.full (omega arith) ∙ ap (word_after log table) (sym e) in
    record {
      positive = h.positive;
      low = h.low;
      full = h.full;
      folds = omega arith;
      newest = newest;
      count = omega arith;
      tree = λ j m. at j m newest (cases_lt j (length trees));
    }
  where
    at : (j : ℕ) → j < length trees' → next ≡ word_after log table draws' → (j < length trees) ⊎ (length trees ≤ j) → get_or trees' j [] ≡ leaves (word_after log table (take j draws'))
    at j m q (inl a) =
        let c = h.count in
        ap (λ k. get_or k j []) g ∙ get_or_append_left trees (t ∷ []) [] j a ∙ h.tree j a ∙ kept log r j table draws (omega arith) ∙ ap (λ k. leaves (word_after log table (take j k))) (sym e)
    at j m q (inr a) =
        let c = h.count in
        let n : length draws' ≡ length draws + 1 = ap length e ∙ length_push draws r in
        let k : length trees' ≡ length trees + 1 = ap length g ∙ length_push trees t in
        let z : length trees ≡ j = omega arith in
        ap (λ k. get_or k j []) g ∙ get_or_push trees t [] j z ∙ s ∙ ap leaves q ∙ ap (λ k. leaves (word_after log table k)) (sym (take_all j draws' (omega arith)))

-- the value that is left after all folds
pub only_value : (log v : ℕ) (table draws w : List ℕ) → length table ≡ 2 ^ log → length draws ≡ log → w ≡ word_after log table draws → v ≡ get_or w 0 v → v ≡ extension table draws
only_value log v table draws w h l e f =
    let n : log + 2 - length draws ≡ 2 = omega arith in
    let k : length w ≡ 4 = ap length e ∙ length-word log table draws ∙ ap (λ x. 2 ^ x) n in
    get_or_read w 0 v (omega arith) f 0 ∙ ap (λ x. get_or x 0 0) e ∙ ap (λ x. get_or (tabulate (2 ^ x) (word (length draws) (log - length draws) (fold_all draws table))) 0 0) n
    ∙ last_value log 0 table draws h l

-- the root of a word's tree
pub root_is : (n k : ℕ) (w root : List ℕ) (t : List (List ℕ)) → t ≡ leaves w → length w ≡ 2 * 2 ^ n → ((k : ℕ) → length t ≡ 2 ^ k → root ≡ digest_at t k 0) → n ≡ k → root ≡ digest_at (leaves w) k 0
root_is n k w root t e h r z = r n (ap length e ∙ length-leaves w (2 ^ n) h) ∙ (λ i. digest_at (e i) (z i) 0)

-- ---- the openings of a query
pub length-leaves_at : (f : Folding) (j : ℕ) → j < f.log → f.log ≡ length f.draws → length (leaves_at f j) ≡ 2 ^ (f.log + 1 - j)
length-leaves_at f j l e =
    let t = length-take j f.draws in
    let n : length (take j f.draws) ≡ j = omega arith in
    let s : f.log + 2 - j ≡ suc (f.log + 1 - j) = omega arith in
    let p : 2 ^ suc (f.log + 1 - j) ≡ 2 * 2 ^ (f.log + 1 - j) = omega arith in
    length-leaves (word_after f.log f.table (take j f.draws)) (2 ^ (f.log + 1 - j)) (length-word f.log f.table (take j f.draws) ∙ ap (λ k. 2 ^ (f.log + 2 - k)) n ∙ ap (λ k. 2 ^ k) s ∙ p)

pub place_in : (f : Folding) (index j : ℕ) (t : List (List ℕ)) → j < f.log → f.log ≡ length f.draws → index < 2 ^ (f.log + 1) → t ≡ leaves_at f j → index / 2 ^ j < length t
place_in f index j t l e h g =
    let n = ap length g ∙ length-leaves_at f j l e in
    let s : f.log + 1 ≡ (f.log + 1 - j) + j = omega arith in
    let p = ap (λ k. 2 ^ k) s ∙ pow-add 2 (f.log + 1 - j) j in
    let u : index < 2 ^ (f.log + 1 - j) * 2 ^ j = omega arith in
    let v : index / 2 ^ j < 2 ^ (f.log + 1 - j) = (div-lt_iff_lt-mul (pow_pos j)).1 u in
    omega arith

pub opened_more : (f : Folding) (index j : ℕ) (start out mid new leaf path : List ℕ) (t : List (List ℕ)) → j < f.log → f.log ≡ length f.draws → t ≡ leaves_at f j → out ≡ start ++ openings f index j
    → leaf ≡ get_or t (index / 2 ^ j) [] → ((k : ℕ) → length t ≡ 2 ^ k → path ≡ path_up_to t (index / 2 ^ j) k) → mid ≡ out ++ leaf → new ≡ mid ++ path → new ≡ start ++ openings f index (j + 1)
opened_more f index j start out mid new leaf path t l d e h el ep a b =
    let s : suc j ≡ j + 1 = omega arith in
    let q = ep (f.log + 1 - j) (ap length e ∙ length-leaves_at f j l d) in
    b ∙ ap (λ k. k ++ path) (a ∙ ap (λ k. k ++ leaf) h) ∙ append_assoc (start ++ openings f index j) leaf path ∙ append_assoc start (openings f index j) (leaf ++ path)
    ∙ (λ i. start ++ (openings f index j ++ ((el ∙ ap (λ k. get_or k (index / 2 ^ j) []) e) i ++ (q ∙ ap (λ k. path_up_to k (index / 2 ^ j) (f.log + 1 - j)) e) i))) ∙ ap (λ k. start ++ openings f index k) s
