-- Lists that are to be 0, as sums over a cube.
use Rattle.std.proofs.Common.{◌≡◌, ℕ, suc, ◌+◌, ◌*◌, ◌^◌, ◌-◌, max, List, [], ◌∷◌, map, length, refl, sym, ◌∙◌, ap, arith}
use Rattle.tower_laws.specs.Tower.{mul}
use Rattle.counting_laws.specs.Counting.{AtMost}
use Rattle.counting_laws.proofs.Bounds.{at_most_weaker}
use Rattle.cube_laws.specs.Extension.{eq_points, extension, weights, fold_low, fold_all}
use Rattle.batch_laws.specs.Batch.{zeros, values_of, eq_sum}
use Rattle.cube_laws.specs.Form.{Form, constant, variable, plus, times, moved, value, degree}
use Rattle.cube_laws.specs.SumClaim.{sum_at, AllLong}
use Rattle.cube_laws.proofs.Coordinates.{fold_all_is, sum_at-all}
use Rattle.cube_laws.proofs.EqPoints.{weights_extend}
use Rattle.cube_laws.proofs.Draws.{coordinate}
use Rattle.cube_laws.proofs.Linear.{fold_low-constant}
use Rattle.cube_laws.proofs.Positions.{zero_sum, value-moved}
use Rattle.cube_laws.proofs.Vectors.{Vector, length-vector, vector_bound}
use Rattle.cube_laws.proofs.Weights.{length-tabulate}

pub fold_low-zeros : (r n : ℕ) → fold_low r (zeros (2 * n)) ≡ zeros n
fold_low-zeros r n = fold_low-constant r n 0

pub fold_all-zeros : (v : List ℕ) → fold_all v (zeros (2 ^ length v)) ≡ zeros 1
fold_all-zeros [] = refl
fold_all-zeros (r ∷ v) = let p : 2 ^ suc (length v) ≡ 2 * 2 ^ length v = omega arith in ap (λ m. fold_all v (fold_low r (zeros m))) p ∙ ap (fold_all v) (fold_low-zeros r (2 ^ length v)) ∙ fold_all-zeros v

pub coordinate_zero : (n : ℕ) (ts : List ℕ) → length ts ≡ 2 * n → ¬ (ts ≡ zeros (2 * n)) → AtMost 1 (λ r. fold_low r ts ≡ zeros n)
coordinate_zero n ts l ne =
    at_most_weaker (λ r. fold_low r ts ≡ zeros n) (λ r. fold_low r ts ≡ fold_low r (zeros (2 * n))) 1 1 (λ r e. e ∙ sym (fold_low-zeros r n)) (omega arith)
    (coordinate ts (zeros (2 * n)) (l ∙ sym (length-tabulate (2 * n) (λ p. 0))) ne)

pub vectors_zero : (q k : ℕ) (ts : List ℕ) → length ts ≡ 2 ^ k → ¬ (ts ≡ zeros (2 ^ k)) → AtMost (k * q ^ (k - 1)) (λ v. Vector q k v × (fold_all v ts ≡ zeros 1))
vectors_zero q k ts l ne =
    at_most_weaker (λ v. Vector q k v × (fold_all v ts ≡ zeros 1)) (λ v. Vector q k v × (fold_all v ts ≡ fold_all v (zeros (2 ^ k)))) (k * q ^ (k - 1)) (k * q ^ (k - 1))
    (λ v h. (h.0, h.1 ∙ sym (ap (λ n. fold_all v (zeros (2 ^ n))) (sym (length-vector q k v h.0)) ∙ fold_all-zeros v))) (omega arith)
    (vector_bound q k ts (zeros (2 ^ k)) l (length-tabulate (2 ^ k) (λ p. 0)) ne)

-- ---- sums with eq
pub eq_sum_is : (z : List ℕ) (form : Form) (lists : List (List ℕ)) → AllLong (2 ^ length z) lists → extension (values_of (2 ^ length z) form lists) z ≡ sum_at (eq_sum z form lists) [] (length z)
eq_sum_is z form lists h = sym (zero_sum z form lists h)

pub eq_sum_final : (z r : List ℕ) (form : Form) (lists : List (List ℕ)) → length z ≡ length r → sum_at (eq_sum z form lists) r 0 ≡ mul (eq_points z r) (value form (map (λ f. extension f r) lists))
eq_sum_final z r form lists h =
    sum_at-all (eq_sum z form lists) r
    ∙ (λ i. mul (weights_extend z r h i) (value-moved form (extension (weights z) r) (map (λ f. extension f r) lists) i))

pub degree-moved : (form : Form) → degree (moved form) ≡ degree form
degree-moved (constant c) = refl
degree-moved (variable k) = refl
degree-moved (plus f g) = (λ i. max (degree-moved f i) (degree-moved g i))
degree-moved (times f g) = (λ i. degree-moved f i + degree-moved g i)

pub degree-eq_sum : (z : List ℕ) (form : Form) (lists : List (List ℕ)) → degree (eq_sum z form lists).form ≡ degree form + 1
degree-eq_sum z form lists = let e = degree-moved form in omega arith

-- with all variables set, the list of a form's values is a sum over the cube
pub zero_to_sum : (z : List ℕ) (form : Form) (lists : List (List ℕ)) → AllLong (2 ^ length z) lists → fold_all z (values_of (2 ^ length z) form lists) ≡ sum_at (eq_sum z form lists) [] (length z) ∷ []
zero_to_sum z form lists h = fold_all_is (values_of (2 ^ length z) form lists) z (length-tabulate (2 ^ length z) _) ∙ ap (λ w. w ∷ []) (eq_sum_is z form lists h)
