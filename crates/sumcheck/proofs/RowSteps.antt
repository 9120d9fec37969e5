-- Steps of the loops that sum a form over positions.
use Rattle.std.proofs.Common.{⊎_elim, ◌≡◌, ◌≢◌, ℕ, zero, suc, ◌+◌, ◌*◌, ◌^◌, ◌%◌, ◌-◌, ◌<◌, ◌≤◌, List, [], ◌∷◌, ◌++◌, map, drop, set, length, get_or, bit_xor, refl, sym, ◌∙◌, ap, subst, arith, append_assoc, get_or-set_other, get_or-set_same, below_more}
use Rattle.std.proofs.Math.Seq.{drop-cons}
use Rattle.std.proofs.lemmas.Nat.{pow_below}
use Rattle.tower_laws.specs.Tower.{mul}
use Rattle.tower_laws.proofs.Field.{identity, field_terms}
use Rattle.cube_laws.specs.Extension.{fold_low}
use Rattle.cube_laws.specs.Sums.{sum_to, tabulate}
use Rattle.cube_laws.specs.Form.{Form, value}
use Rattle.cube_laws.specs.SumClaim.{AllLong, round_at, row}
use Rattle.cube_laws.proofs.Folding.{get_or-fold_low, length-fold_low}
use Rattle.cube_laws.proofs.Weights.{length-tabulate, tabulate-same}
use Rattle.cube_laws.proofs.Tabulate.{get_or-tabulate}
use Rattle.cube_laws.proofs.Positions.{sum_to-last, round_is_at}
use Rattle.sumcheck.specs.Rounds.{true_round}
use Rattle.sumcheck.specs.Proving.{Proving, row_at, sum_of}
use Rattle.cube_mle.proofs.Folds.{same_entries}
use Rattle.cube_mle.proofs.Doubling.{order}

pub low_cell : (a c k : ℕ) → k ≡ 0 → a ≡ bit_xor a (mul k (bit_xor a c))
low_cell a c k h = rw h (identity (a ∷ c ∷ []) (search field_terms depth 60 fits 20000) refl)

pub high_cell : (a c k : ℕ) → k ≡ 1 → c ≡ bit_xor a (mul k (bit_xor a c))
high_cell a c k h = rw h (identity (a ∷ c ∷ []) (search field_terms depth 60 fits 20000) refl)

-- ---- a row
pub opened_at : {X : Type 0} (xs : List X) (i : ℕ) (x : X) → x ≡ get_or xs i x → i < length xs → drop i xs ≡ x ∷ drop (i + 1) xs
opened_at xs i x e l =
    let p : i + 1 ≡ suc i = omega arith in
    drop-cons xs i x l ∙ ap (λ w. w ∷ drop (suc i) xs) (sym e) ∙ ap (λ n. x ∷ drop n xs) (sym p)

pub more_row : (k half p v : ℕ) (f : List ℕ) (fs : List (List ℕ)) (row next whole : List ℕ) → length f ≡ 2 * half → p < half
    → v ≡ bit_xor (get_or f (2 * p) 0) (mul k (bit_xor (get_or f (2 * p) 0) (get_or f (2 * p + 1) 0))) → next ≡ row ++ v ∷ []
    → row ++ row_at k (f ∷ fs) p ≡ whole → next ++ row_at k fs p ≡ whole
more_row k half p v f fs row next whole l h ev en ew =
    let g = get_or-fold_low k p f (omega arith) in
    let x : v ≡ get_or (fold_low k f) p 0 = ev ∙ sym g in
    ap (λ w. w ++ row_at k fs p) en ∙ append_assoc row (v ∷ []) (row_at k fs p) ∙ ap (λ w. row ++ w ∷ row_at k fs p) x ∙ ew

-- ---- one more position
pub add_more : (i v : ℕ) (g : ℕ → ℕ) (old sums : List ℕ) → i < length old → length sums ≡ length old
    → ((j : ℕ) → j < i → get_or sums j 0 ≡ bit_xor (g j) (get_or old j 0)) → ((j : ℕ) → i ≤ j → get_or sums j 0 ≡ get_or old j 0)
    → v ≡ bit_xor (g i) (get_or sums i 0) → (j : ℕ) → j < i + 1 → get_or (set sums i v) j 0 ≡ bit_xor (g j) (get_or old j 0)
add_more i v g old sums l s done left e =
    below_more (λ j. get_or (set sums i v) j 0 ≡ bit_xor (g j) (get_or old j 0)) i
    (λ j m. let ne : j ≢ i = omega arith in rw get_or-set_other (done j m))
    (let lt : i < length sums = omega arith in
    let a = left i (omega arith) in
    rw get_or-set_same (cc))

pub add_end : (i : ℕ) (g : ℕ → ℕ) (old sums : List ℕ) → length old ≤ i → length sums ≡ length old
    → ((j : ℕ) → j < i → get_or sums j 0 ≡ bit_xor (g j) (get_or old j 0)) → sums ≡ tabulate (length old) (λ j. bit_xor (g j) (get_or old j 0))
add_end i g old sums l s done =
    let f : ℕ → ℕ = λ j. bit_xor (g j) (get_or old j 0) in
    let t = length-tabulate (length old) f in
    same_entries sums (tabulate (length old) f) (omega arith) (λ k m. done k (omega arith) ∙ sym (get_or-tabulate (length old) k f (omega arith)))

pub all_cleared : (i : ℕ) (old cells : List ℕ) → length old ≤ i → length cells ≡ length old → ((j : ℕ) → j < i → get_or cells j 0 ≡ 0) → cells ≡ tabulate (length old) (λ k. 0)
all_cleared i old cells l s done =
    let t = length-tabulate (length old) (λ k. 0) in
    same_entries cells (tabulate (length old) (λ k. 0)) (omega arith) (λ k m. done k (omega arith) ∙ sym (get_or-tabulate (length old) k (λ k. 0) (omega arith)))

pub more_positions : (n p : ℕ) (g : ℕ → ℕ → ℕ) (sums next : List ℕ) → sums ≡ tabulate n (λ k. sum_to p (g k)) → next ≡ tabulate (length sums) (λ k. bit_xor (g k p) (get_or sums k 0))
    → next ≡ tabulate n (λ k. sum_to (p + 1) (g k))
more_positions n p g sums next h e =
    let l : length sums ≡ n = ap length h ∙ length-tabulate n (λ k. sum_to p (g k)) in
    let q : suc p ≡ p + 1 = omega arith in
    e ∙ ap (λ m. tabulate m (λ k. bit_xor (g k p) (get_or sums k 0))) l
    ∙ tabulate-same n (λ k. bit_xor (g k p) (get_or sums k 0)) (λ k. sum_to (p + 1) (g k))
    (λ k m. ap (λ s. bit_xor (g k p) (get_or s k 0)) h ∙ ap (bit_xor (g k p)) (get_or-tabulate n k (λ k. sum_to p (g k)) m) ∙ sym (sum_to-last p (g k)) ∙ ap (λ m. sum_to m (g k)) q)

-- ---- true rounds
pub true_values : (n d half : ℕ) (form : Form) (lists : List (List ℕ)) → half ≡ 2 ^ n → AllLong (2 * half) lists
    → tabulate (suc d) (λ k. sum_to half (λ p. value form (row_at k lists p))) ≡ true_round (record { form = form; lists = lists }) d n []
true_values n d half form lists e h =
    tabulate-same (suc d) (λ k. sum_to half (λ p. value form (row_at k lists p))) (round_at (record { form = form; lists = lists }) [] n) (λ k l. round_is_at _ n k half form lists refl e h)

-- ---- tables folded one by one
pub same_tables : (f : List ℕ → List ℕ) (xs ys : List (List ℕ)) → length ys ≡ length xs → ((k : ℕ) → k < length xs → get_or ys k [] ≡ f (get_or xs k [])) → ys ≡ map f xs
same_tables f [] [] l h = refl
same_tables f [] (y ∷ ys) l h = absurd (omega arith)
same_tables f (x ∷ xs) [] l h = absurd (omega arith)
same_tables f (x ∷ xs) (y ∷ ys) l h = let a = h 0 (omega arith) in let r = same_tables f xs ys (omega arith) (λ k m. h (suc k) (omega arith)) in cc

pub long_at : (n k : ℕ) (xs : List (List ℕ)) → AllLong n xs → k < length xs → length (get_or xs k []) ≡ n
long_at n k [] h l = absurd (omega arith)
long_at n zero (x ∷ xs) h l = h.0
long_at n (suc k) (x ∷ xs) h l = long_at n k xs h.1 (omega arith)

pub long_folds : (r n : ℕ) (fs : List (List ℕ)) → AllLong (2 * n) fs → AllLong n (map (fold_low r) fs)
long_folds r n [] h = tt
long_folds r n (f ∷ fs) h = (length-fold_low r n f h.0, long_folds r n fs h.1)

-- ---- sizes
pub shifted_one : (n : ℕ) → n ≤ 32 → (1 * 2 ^ n) % 2 ^ 64 ≡ 2 ^ n
shifted_one n l = let p : 2 ^ n < 2 ^ 33 = pow_below n 33 (omega arith) in omega arith

pub power_small : (n : ℕ) → n ≤ 32 → 2 ^ n < 2 ^ 33
power_small n l = pow_below n 33 (omega arith)

pub doubled : (n : ℕ) → 0 < n → 2 ^ n ≡ 2 * 2 ^ (n - 1)
doubled n l = let e : suc (n - 1) ≡ n = omega arith in let p : 2 ^ suc (n - 1) ≡ 2 * 2 ^ (n - 1) = omega arith in ap (λ m. 2 ^ m) (sym e) ∙ p

pub long_doubled : (n half : ℕ) (xs : List (List ℕ)) → 0 < n → half ≡ 2 ^ (n - 1) → AllLong (2 ^ n) xs → AllLong (2 * half) xs
long_doubled n half xs l e h = subst (λ m. AllLong m xs) (doubled n l ∙ ap (λ m. 2 * m) (sym e)) h

-- ---- what a round appends
pub round_out : {S : Type 0} (form : S → Form) (p q : Proving S) (n half m : ℕ) (tables : List (List ℕ)) (sums seen old new : List ℕ) → p ≡ q → q.left ≡ suc n → half ≡ 2 ^ (p.left - 1) → AllLong (2 ^ p.left) p.lists → m ≡ p.degree + 1
    → tables ≡ p.lists → sums ≡ tabulate m (λ k. sum_to half (λ x. value (form p.summand) (row_at k tables x))) → seen ≡ sums → new ≡ old ++ seen → new ≡ old ++ true_round (sum_of form q) q.degree n []
round_out form p q n half m tables sums seen old new v e h long k t a b o =
    let l : p.left ≡ suc n = ap (λ (p : Proving _). p.left) v ∙ e in
    let r : p.left - 1 ≡ n = omega arith in
    let d : m ≡ suc p.degree = omega arith in
    let x = true_values n p.degree half (form p.summand) p.lists (h ∙ ap (λ w. 2 ^ w) r) (long_doubled p.left half p.lists (omega arith) h long) in
    o ∙ ap (λ w. old ++ w) (b ∙ a ∙ ap (λ ts. tabulate m (λ k. sum_to half (λ x. value (form p.summand) (row_at k ts x)))) t ∙ ap (λ m. tabulate m (λ k. sum_to half (λ x. value (form p.summand) (row_at k p.lists x)))) d ∙ x
    ∙ ap (λ p. true_round (sum_of form p) p.degree n []) v)

-- ---- the first values
pub more_firsts : (v : ℕ) (f : List ℕ) (fs : List (List ℕ)) (firsts next whole : List ℕ) → v ≡ get_or f 0 0 → next ≡ firsts ++ v ∷ [] → firsts ++ row (f ∷ fs) 0 ≡ whole → next ++ row fs 0 ≡ whole
more_firsts v f fs firsts next whole ev en ew =
    ap (λ w. w ++ row fs 0) en ∙ append_assoc firsts (v ∷ []) (row fs 0) ∙ ap (λ w. firsts ++ w ∷ row fs 0) ev ∙ ew

-- ---- exponents
pub same_exponent : (m n : ℕ) → 2 ^ m ≡ 2 ^ n → m ≡ n
same_exponent m n h = ⊎_elim (λ l. let p = pow_below m n l in absurd (omega arith)) (λ l. ⊎_elim (λ k. let p = pow_below n m k in absurd (omega arith)) (λ k. omega arith) (order n m)) (order m n)

pub first_exponent : (m n : ℕ) (lists : List (List ℕ)) → 0 < length lists → n ≡ length (get_or lists 0 []) → AllLong (2 ^ m) lists → n ≡ 2 ^ m
first_exponent m n lists some e h = e ∙ long_at (2 ^ m) 0 lists h some

pub exponent_done : (m k size p : ℕ) → p ≡ 2 ^ m → size ≡ 2 ^ k → m ≤ k → size ≤ p → size ≡ 2 ^ m
exponent_done m k size p hp hs l h = ⊎_elim (λ less. let q = pow_below m k less in absurd (omega arith)) (λ more. let e : k ≡ m = omega arith in hs ∙ ap (λ n. 2 ^ n) e) (order m k)
