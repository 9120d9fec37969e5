-- Tables and claims joined by the powers of one number.
use Rattle.std.proofs.Common.{◌≡◌, ℕ, zero, suc, ◌^◌, ◌-◌, ◌≤◌, List, [], ◌∷◌, map, max, length, get_or, bit_xor, refl, sym, ◌∙◌, ap, arith}
use Rattle.std.specs.List.{AllByRecursion}
use Rattle.std.proofs.lemmas.List.{length-map}
use Rattle.tower_laws.specs.Tower.{mul}
use Rattle.tower_laws.proofs.Lists.{get_or-sums, get_or-scaled, length-sums}
use Rattle.counting_laws.specs.Counting.{AtMost}
use Rattle.counting_laws.proofs.Bounds.{at_most_from, AllByRecursion-weaker}
use Rattle.poly_laws.specs.Polynomial.{horner}
use Rattle.poly_laws.proofs.RootBound.{zero_by_roots}
use Rattle.cube_laws.specs.Extension.{dot, eq_points, extension, weights}
use Rattle.batch_laws.specs.Batch.{zeros, batched, batch_form, pair_sum, values_of}
use Rattle.tower_laws.specs.Lists.{sums}
use Rattle.cube_laws.specs.Form.{Form, value, degree}
use Rattle.cube_laws.proofs.Tabulate.{map-tabulate, sums-tabulate}
use Rattle.cube_laws.specs.SumClaim.{sum_at, row, AllLong}
use Rattle.cube_laws.proofs.Coordinates.{sum_at-all}
use Rattle.cube_laws.proofs.Dots.{dot-comm, dot-sums, dot-scale, dot-zeros}
use Rattle.cube_laws.proofs.EqPoints.{weights_extend}
use Rattle.cube_laws.proofs.Folding.{length-weights}
use Rattle.cube_laws.proofs.Positions.{cube_sum_is}
use Rattle.cube_laws.proofs.Weights.{dot_sum, by_weights_is, length-tabulate}

-- ---- the batch of tables
pub get_or-zeros : (n p : ℕ) → get_or (zeros n) p 0 ≡ 0
get_or-zeros zero p = refl
get_or-zeros (suc n) zero = refl
get_or-zeros (suc n) (suc p) = get_or-zeros n p

pub get_or-batched : (n a p : ℕ) (ts : List (List ℕ)) → get_or (batched n a ts) p 0 ≡ horner (map (λ t. get_or t p 0) ts) a
get_or-batched n a p [] = get_or-zeros n p
get_or-batched n a p (t ∷ ts) =
    get_or-sums t (map (mul a) (batched n a ts)) p ∙ ap (bit_xor (get_or t p 0)) (get_or-scaled a p (batched n a ts) ∙ ap (mul a) (get_or-batched n a p ts))

pub dot-batched : (n a : ℕ) (ts : List (List ℕ)) (zs : List ℕ) → dot (batched n a ts) zs ≡ horner (map (λ t. dot t zs) ts) a
dot-batched n a [] zs = dot-zeros n zs
dot-batched n a (t ∷ ts) zs = dot-sums t (map (mul a) (batched n a ts)) zs ∙ ap (bit_xor (dot t zs)) (dot-scale a (batched n a ts) zs ∙ ap (mul a) (dot-batched n a ts zs))

dots_are : (z : List ℕ) (ts : List (List ℕ)) → map (λ t. dot t (weights z)) ts ≡ map (λ t. extension t z) ts
dots_are z [] = refl
dots_are z (t ∷ ts) = let e = by_weights_is t z in let r = dots_are z ts in cc

pub extension-batched : (n a : ℕ) (ts : List (List ℕ)) (z : List ℕ) → extension (batched n a ts) z ≡ horner (map (λ t. extension t z) ts) a
extension-batched n a ts z = sym (by_weights_is (batched n a ts) z) ∙ dot-batched n a ts (weights z) ∙ ap (λ vs. horner vs a) (dots_are z ts)

pub length-batched : (n a : ℕ) (ts : List (List ℕ)) → AllLong n ts → length (batched n a ts) ≡ n
length-batched n a [] h = length-tabulate n (λ p. 0)
length-batched n a (t ∷ ts) h =
    let k = length-map (batched n a ts) (mul a) in
    let r = length-batched n a ts h.1 in
    let l = h.0 in
    length-sums t (map (mul a) (batched n a ts)) ∙ (λ i. max (l i) (k i)) ∙ ap (max n) r ∙ omega arith

-- ---- the batch of forms
pub batch_form_value : (a : ℕ) (fs : List Form) (xs : List ℕ) → value (batch_form a fs) xs ≡ horner (map (λ f. value f xs) fs) a
batch_form_value a [] xs = refl
batch_form_value a (f ∷ fs) xs = ap (λ v. bit_xor (value f xs) (mul a v)) (batch_form_value a fs xs)

pub batch_form_degree : (a d : ℕ) (fs : List Form) → AllByRecursion (λ f. degree f ≤ d) fs → degree (batch_form a fs) ≤ d
batch_form_degree a d [] h = omega arith
batch_form_degree a d (f ∷ fs) h = let l = h.0 in let r = batch_form_degree a d fs h.1 in omega arith

pub batch_form_values : (n a : ℕ) (fs : List Form) (lists : List (List ℕ)) → values_of n (batch_form a fs) lists ≡ batched n a (map (λ f. values_of n f lists) fs)
batch_form_values n a [] lists = refl
batch_form_values n a (f ∷ fs) lists =
    sym (sums-tabulate n (λ p. value f (row lists p)) (λ p. mul a (value (batch_form a fs) (row lists p))))
    ∙ ap (sums (values_of n f lists)) (sym (map-tabulate n (mul a) (λ p. value (batch_form a fs) (row lists p))) ∙ ap (map (mul a)) (batch_form_values n a fs lists))

-- ---- the sum of a product of two tables
pub pair_sum_is : (n : ℕ) (f g : List ℕ) → length f ≡ 2 ^ n → length g ≡ 2 ^ n → sum_at (pair_sum f g) [] n ≡ dot f g
pair_sum_is n f g hf hg =
    let s = pair_sum f g in
    cube_sum_is n s.form s.lists (hf, (hg, tt)) ∙ sym (dot_sum (2 ^ n) f g hg)

-- the sum of a batch of tables against one table is the batch of their sums, at all variables the batch of their extensions
dots_against : (f : List ℕ) (ts : List (List ℕ)) → map (λ t. dot t f) ts ≡ map (dot f) ts
dots_against f [] = refl
dots_against f (t ∷ ts) = let e = dot-comm t f in let r = dots_against f ts in cc

pub batch_sum : (n a : ℕ) (ts : List (List ℕ)) (f : List ℕ) → AllLong (2 ^ n) ts → length f ≡ 2 ^ n → sum_at (pair_sum (batched (2 ^ n) a ts) f) [] n ≡ horner (map (dot f) ts) a
batch_sum n a ts f h l =
    pair_sum_is n (batched (2 ^ n) a ts) f (length-batched (2 ^ n) a ts h) l ∙ dot-batched (2 ^ n) a ts f ∙ ap (λ vs. horner vs a) (dots_against f ts)

pub batch_final : (n a : ℕ) (ts : List (List ℕ)) (f r : List ℕ) → sum_at (pair_sum (batched n a ts) f) r 0 ≡ mul (horner (map (λ t. extension t r) ts) a) (extension f r)
batch_final n a ts f r = sum_at-all (pair_sum (batched n a ts) f) r ∙ ap (λ w. mul w (extension f r)) (extension-batched n a ts r)

-- ---- values of one table at several points
pub long_weights : (n : ℕ) (points : List (List ℕ)) → AllLong n points → AllLong (2 ^ n) (map weights points)
long_weights n [] h = tt
long_weights n (p ∷ ps) h = (length-weights p ∙ ap (λ k. 2 ^ k) h.0, long_weights n ps h.1)

values_are : (table : List ℕ) (points : List (List ℕ)) → map (dot table) (map weights points) ≡ map (extension table) points
values_are table [] = refl
values_are table (p ∷ ps) = let e = by_weights_is table p in let r = values_are table ps in cc

pub merge_sum : (n a : ℕ) (points : List (List ℕ)) (table : List ℕ) → AllLong n points → length table ≡ 2 ^ n
    → sum_at (pair_sum (batched (2 ^ n) a (map weights points)) table) [] n ≡ horner (map (extension table) points) a
merge_sum n a points table h l = batch_sum n a (map weights points) table (long_weights n points h) l ∙ ap (λ vs. horner vs a) (values_are table points)

eqs_are : (n : ℕ) (r : List ℕ) (points : List (List ℕ)) → AllLong n points → length r ≡ n → map (λ t. extension t r) (map weights points) ≡ map (λ p. eq_points p r) points
eqs_are n r [] h l = refl
eqs_are n r (p ∷ ps) h l = let e = weights_extend p r (h.0 ∙ sym l) in let q = eqs_are n r ps h.1 l in cc

pub merge_final : (n a : ℕ) (points : List (List ℕ)) (table r : List ℕ) → AllLong n points → length r ≡ n
    → sum_at (pair_sum (batched (2 ^ n) a (map weights points)) table) r 0 ≡ mul (horner (map (λ p. eq_points p r) points) a) (extension table r)
merge_final n a points table r h l = batch_final (2 ^ n) a (map weights points) table r ∙ ap (λ vs. mul (horner vs a) (extension table r)) (eqs_are n r points h l)

-- ---- tables that are to be 0
pub zero_list : (n : ℕ) (t : List ℕ) → length t ≡ n → ((p : ℕ) → get_or t p 0 ≡ 0) → t ≡ zeros n
zero_list zero [] l h = refl
zero_list (suc n) [] l h = absurd (omega arith)
zero_list zero (x ∷ t) l h = absurd (omega arith)
zero_list (suc n) (x ∷ t) l h = let a = h 0 in let r = zero_list n t (omega arith) (λ p. h (suc p)) in cc

all_zero : (n : ℕ) (ts : List (List ℕ)) → AllLong n ts → ((p : ℕ) → AllByRecursion (λ c. c ≡ 0) (map (λ t. get_or t p 0) ts)) → AllByRecursion (λ t. t ≡ zeros n) ts
all_zero n [] l h = tt
all_zero n (t ∷ ts) l h = (zero_list n t l.0 (λ p. (h p).0), all_zero n ts l.1 (λ p. (h p).1))

length-values : (p : ℕ) (ts : List (List ℕ)) → length (map (λ t. get_or t p 0) ts) ≡ length ts
length-values p [] = refl
length-values p (t ∷ ts) = ap suc (length-values p ts)

pub batch_zero : (n : ℕ) (ts : List (List ℕ)) → AllLong n ts → ¬ AllByRecursion (λ t. t ≡ zeros n) ts → AtMost (length ts - 1) (λ a. batched n a ts ≡ zeros n)
batch_zero n ts l wrong =
    at_most_from (λ a. batched n a ts ≡ zeros n) (length ts - 1)
    (λ xs apart each more. wrong (all_zero n ts l (λ p.
    zero_by_roots xs (map (λ t. get_or t p 0) ts) apart
    (AllByRecursion-weaker (λ a. batched n a ts ≡ zeros n) (λ a. horner (map (λ t. get_or t p 0) ts) a ≡ 0) (λ a e. sym (get_or-batched n a p ts) ∙ ap (λ w. get_or w p 0) e ∙ get_or-zeros n p) xs each)
    (let q = length-values p ts in omega arith))))
