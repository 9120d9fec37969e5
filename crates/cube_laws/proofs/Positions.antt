-- A sum over a cube is a sum over positions.
use Rattle.std.proofs.Common.{◌≡◌, ℕ, zero, suc, ◌+◌, ◌*◌, ◌^◌, ◌<◌, List, [], ◌∷◌, ◌++◌, map, length, get_or, slice_index, bit_xor, refl, sym, ◌∙◌, ap, subst, arith}
use Rattle.tower_laws.specs.Tower.{mul}
use Rattle.cube_laws.specs.Extension.{dot, extension, fold_low, weights}
use Rattle.cube_laws.proofs.Folding.{get_or-fold_low, length-fold_low, length-weights, dot-even}
use Rattle.cube_laws.proofs.Weights.{sum_to-same, by_weights_is}
use Rattle.tower_laws.proofs.Field.{identity, from_one, field_terms}
use Rattle.cube_laws.specs.Form.{Form, constant, variable, plus, times, value, moved}
use Rattle.cube_laws.specs.SumClaim.{cube_sum, sum_at, round_at, row, AllLong}
use Rattle.cube_laws.specs.Sums.{sum_to, tabulate}
use Rattle.cube_laws.proofs.Rounds.{cube_sum-same}

abbrev pub folded : ℕ → List (List ℕ) → List (List ℕ)
folded r [] = []
folded r (f ∷ fs) = fold_low r f ∷ folded r fs

pub long_folded : (r n : ℕ) (fs : List (List ℕ)) → AllLong (2 * n) fs → AllLong n (folded r fs)
long_folded r n [] h = tt
long_folded r n (f ∷ fs) h = (length-fold_low r n f h.0, long_folded r n fs h.1)

pub extensions_folded : (r n : ℕ) (x : List ℕ) (fs : List (List ℕ)) → AllLong (2 * n) fs → map (λ f. extension f (r ∷ x)) fs ≡ map (λ f. extension f x) (folded r fs)
extensions_folded r n x [] h = refl
extensions_folded r n x (f ∷ fs) h = let p = sym (by_weights_is f (r ∷ x)) ∙ dot-even r n f (weights x) h.0 ∙ by_weights_is (fold_low r f) x in let q = extensions_folded r n x fs h.1 in cc

halves_step : (a b u v w : ℕ) → bit_xor u v ≡ w → bit_xor (bit_xor a u) (bit_xor b v) ≡ bit_xor a (bit_xor b w)
halves_step a b u v w h = from_one 1 h (identity (a ∷ b ∷ u ∷ v ∷ w ∷ []) (search field_terms depth 60 fits 20000) refl)

-- the even and the odd positions
sum_to-halves : (n : ℕ) (g : ℕ → ℕ) → bit_xor (sum_to n (λ p. g (2 * p))) (sum_to n (λ p. g (2 * p + 1))) ≡ sum_to (2 * n) g
sum_to-halves zero g = refl
sum_to-halves (suc n) g =
    let e : 2 * suc n ≡ suc (suc (2 * n)) = omega arith in
    let even = sum_to-same n (λ k. g (2 * suc k)) (λ k. g (suc (suc (2 * k)))) (λ k l. let q : 2 * suc k ≡ suc (suc (2 * k)) = omega arith in ap g q) in
    let odd = sum_to-same n (λ k. g (2 * suc k + 1)) (λ k. g (suc (suc (2 * k + 1)))) (λ k l. let q : 2 * suc k + 1 ≡ suc (suc (2 * k + 1)) = omega arith in ap g q) in
    (λ i. bit_xor (bit_xor (g 0) (even i)) (bit_xor (g 1) (odd i)))
    ∙ halves_step (g 0) (g 1) _ _ _ (sum_to-halves n (λ k. g (suc (suc k)))) ∙ ap (λ w. sum_to w g) (sym e)

low_cell : (a c : ℕ) → bit_xor a (mul 0 (bit_xor a c)) ≡ a
low_cell a c = identity (a ∷ c ∷ []) (search field_terms depth 60 fits 20000) refl

high_cell : (a c : ℕ) → bit_xor a (mul 1 (bit_xor a c)) ≡ c
high_cell a c = identity (a ∷ c ∷ []) (search field_terms depth 60 fits 20000) refl

row_low : (n p : ℕ) (fs : List (List ℕ)) → AllLong (2 * n) fs → p < n → row (folded 0 fs) p ≡ row fs (2 * p)
row_low n p [] h l = refl
row_low n p (f ∷ fs) h l =
    let e = get_or-fold_low 0 p f (let k = h.0 in omega arith) ∙ low_cell (get_or f (2 * p) 0) (get_or f (2 * p + 1) 0) in
    let q = row_low n p fs h.1 l in cc

row_high : (n p : ℕ) (fs : List (List ℕ)) → AllLong (2 * n) fs → p < n → row (folded 1 fs) p ≡ row fs (2 * p + 1)
row_high n p [] h l = refl
row_high n p (f ∷ fs) h l =
    let e = get_or-fold_low 1 p f (let k = h.0 in omega arith) ∙ high_cell (get_or f (2 * p) 0) (get_or f (2 * p + 1) 0) in
    let q = row_high n p fs h.1 l in cc

row_one : (fs : List (List ℕ)) → AllLong 1 fs → map (λ f. extension f []) fs ≡ row fs 0
row_one [] h = refl
row_one ([] ∷ fs) h = let k = h.0 in absurd (omega arith)
row_one ((a ∷ []) ∷ fs) h = let p = sym (by_weights_is (a ∷ []) []) ∙ one_cell a in let q = row_one fs h.1 in cc
  where
    one_cell : (a : ℕ) → bit_xor (mul a 1) 0 ≡ a
    one_cell a = identity (a ∷ []) (search field_terms depth 60 fits 20000) refl
row_one ((a ∷ b ∷ f) ∷ fs) h = let k = h.0 in absurd (omega arith)

last_place : (a : ℕ) → a ≡ bit_xor a 0
last_place a = identity (a ∷ []) (search field_terms depth 60 fits 20000) refl

-- the sum over a cube of a form of extensions is the sum over the tables' positions
pub cube_sum_is : (n : ℕ) (form : Form) (fs : List (List ℕ)) → AllLong (2 ^ n) fs
    → cube_sum n (λ x. value form (map (λ f. extension f x) fs)) ≡ sum_to (2 ^ n) (λ p. value form (row fs p))
unfolding cube_sum
cube_sum_is zero form fs h = ap (value form) (row_one fs h) ∙ last_place (value form (row fs 0))
cube_sum_is (suc n) form fs h =
    let q : 2 ^ suc n ≡ 2 * 2 ^ n = omega arith in
    let k : AllLong (2 * 2 ^ n) fs = subst (λ m. AllLong m fs) q h in
    let step : (b : ℕ) → cube_sum n (λ x. value form (map (λ f. extension f (b ∷ x)) fs)) ≡ cube_sum n (λ x. value form (map (λ f. extension f x) (folded b fs)))
    = λ b. cube_sum-same n (λ x. value form (map (λ f. extension f (b ∷ x)) fs)) (λ x. value form (map (λ f. extension f x) (folded b fs))) (λ x. ap (value form) (extensions_folded b (2 ^ n) x fs k)) in
    let s0 = step 0 ∙ cube_sum_is n form (folded 0 fs) (long_folded 0 (2 ^ n) fs k) ∙ sum_to-same (2 ^ n) (λ p. value form (row (folded 0 fs) p)) (λ p. value form (row fs (2 * p))) (λ p l. ap (value form) (row_low (2 ^ n) p fs k l)) in
    let s1 = step 1 ∙ cube_sum_is n form (folded 1 fs) (long_folded 1 (2 ^ n) fs k) ∙ sum_to-same (2 ^ n) (λ p. value form (row (folded 1 fs) p)) (λ p. value form (row fs (2 * p + 1))) (λ p l. ap (value form) (row_high (2 ^ n) p fs k l)) in
    ap (λ w. bit_xor w (cube_sum n (λ x. value form (map (λ f. extension f (1 ∷ x)) fs)))) s0
    ∙ ap (λ w. bit_xor (sum_to (2 ^ n) (λ p. value form (row fs (2 * p)))) w) s1
    ∙ sum_to-halves (2 ^ n) (λ p. value form (row fs p)) ∙ ap (λ m. sum_to m (λ p. value form (row fs p))) (sym q)

-- ---- the true round polynomial from the tables
pub round_is : (n r : ℕ) (form : Form) (fs : List (List ℕ)) → AllLong (2 * 2 ^ n) fs
    → round_at (record { form = form; lists = fs }) [] n r ≡ sum_to (2 ^ n) (λ p. value form (row (folded r fs) p))
round_is n r form fs k =
    cube_sum-same n (λ x. value form (map (λ f. extension f (r ∷ x)) fs)) (λ x. value form (map (λ f. extension f x) (folded r fs))) (λ x. ap (value form) (extensions_folded r (2 ^ n) x fs k))
    ∙ cube_sum_is n form (folded r fs) (long_folded r (2 ^ n) fs k)

-- folding the tables sets the variable
pub sum_folded : (left r : ℕ) (form : Form) (fs : List (List ℕ)) (prefix : List ℕ) (half : ℕ) → AllLong (2 * half) fs
    → sum_at (record { form = form; lists = fs }) (r ∷ prefix) left ≡ sum_at (record { form = form; lists = folded r fs }) prefix left
sum_folded left r form fs prefix half k =
    cube_sum-same left (λ x. value form (map (λ f. extension f (r ∷ (prefix ++ x))) fs)) (λ x. value form (map (λ f. extension f (prefix ++ x)) (folded r fs))) (λ x. ap (value form) (extensions_folded r half (prefix ++ x) fs k))

-- ---- a list's extension as a sum with eq: the list of a form's values
pub value-moved : (form : Form) (a : ℕ) (xs : List ℕ) → value (moved form) (a ∷ xs) ≡ value form xs
value-moved (constant c) a xs = refl
value-moved (variable k) a xs = refl
value-moved (plus f g) a xs = let p = value-moved f a xs in let q = value-moved g a xs in cc
value-moved (times f g) a xs = let p = value-moved f a xs in let q = value-moved g a xs in cc

dot-tabulate : (n : ℕ) (ts : List ℕ) (g : ℕ → ℕ) → length ts ≡ n → dot (tabulate n g) ts ≡ sum_to n (λ p. mul (slice_index ts p) (g p))
dot-tabulate zero ts g h = refl
dot-tabulate (suc n) [] g h = absurd (omega arith)
dot-tabulate (suc n) (t ∷ ts) g h = cell (g 0) t _ _ (dot-tabulate n ts (λ p. g (suc p)) (omega arith))
  where
    cell : (a t u v : ℕ) → u ≡ v → bit_xor (mul a t) u ≡ bit_xor (mul t a) v
    cell a t u v h = from_one 1 h (identity (a ∷ t ∷ u ∷ v ∷ []) (search field_terms depth 60 fits 20000) refl)

-- the extension at z of the list of a form's values, as a sum over the cube with eq
pub zero_sum : (z : List ℕ) (form : Form) (fs : List (List ℕ)) → AllLong (2 ^ length z) fs
    → sum_at (record { form = times (variable 0) (moved form); lists = weights z ∷ fs }) [] (length z) ≡ extension (tabulate (2 ^ length z) (λ p. value form (row fs p))) z
zero_sum z form fs h =
    cube_sum_is (length z) (times (variable 0) (moved form)) (weights z ∷ fs) (length-weights z, h)
    ∙ sum_to-same (2 ^ length z) (λ p. value (times (variable 0) (moved form)) (row (weights z ∷ fs) p)) (λ p. mul (slice_index (weights z) p) (value form (row fs p)))
    (λ p l. ap (mul (slice_index (weights z) p)) (value-moved form (slice_index (weights z) p) (row fs p)))
    ∙ sym (dot-tabulate (2 ^ length z) (weights z) (λ p. value form (row fs p)) (length-weights z)) ∙ by_weights_is (tabulate (2 ^ length z) (λ p. value form (row fs p))) z

last_step : (a b u v : ℕ) → u ≡ bit_xor b v → bit_xor a u ≡ bit_xor b (bit_xor a v)
last_step a b u v h = from_one 1 h (identity (a ∷ b ∷ u ∷ v ∷ []) (search field_terms depth 60 fits 20000) refl)

-- one more place, at the end
pub sum_to-last : (n : ℕ) (g : ℕ → ℕ) → sum_to (suc n) g ≡ bit_xor (g n) (sum_to n g)
sum_to-last zero g = refl
sum_to-last (suc n) g = last_step (g 0) (g (suc n)) _ _ (sum_to-last n (λ k. g (suc k)))

pub sum_to-more : (n s v t : ℕ) (g : ℕ → ℕ) → s ≡ sum_to n g → v ≡ g n → t ≡ bit_xor v s → t ≡ sum_to (n + 1) g
sum_to-more n s v t g h e k = let p : n + 1 ≡ suc n = omega arith in k ∙ ap (λ w. bit_xor w s) e ∙ ap (bit_xor (g n)) h ∙ sym (sum_to-last n g) ∙ ap (λ m. sum_to m g) (sym p)

folded_map : (r : ℕ) (fs : List (List ℕ)) → folded r fs ≡ map (fold_low r) fs
folded_map r [] = refl
folded_map r (f ∷ fs) = ap (λ w. fold_low r f ∷ w) (folded_map r fs)

pub round_is_at : (v n r half : ℕ) (form : Form) (fs : List (List ℕ)) → v ≡ sum_to half (λ p. value form (row (map (fold_low r) fs) p)) → half ≡ 2 ^ n → AllLong (2 * half) fs
    → v ≡ round_at (record { form = form; lists = fs }) [] n r
round_is_at v n r half form fs h e k =
    h ∙ ap (λ m. sum_to m (λ p. value form (row (map (fold_low r) fs) p))) e
    ∙ ap (λ w. sum_to (2 ^ n) (λ p. value form (row w p))) (sym (folded_map r fs)) ∙ sym (round_is n r form fs (subst (λ m. AllLong (2 * m) fs) e k))
