-- The sum of eq(p, x) · c(x) is the extension of c at p.
use Rattle.std.proofs.Common.{◌≡◌, ◌∙◌, ℕ, ◌+◌, ◌^◌, List, [], ◌∷◌, length, get_or, sym, ap, subst, arith}
use Rattle.tower_laws.specs.Tower.{mul}
use Rattle.tower_laws.proofs.Levels.{field_comm}
use Rattle.cube_laws.specs.Extension.{eq, extension, weights}
use Rattle.cube_laws.specs.SumClaim.{sum_at, row}
use Rattle.cube_laws.specs.Sums.{sum_to}
use Rattle.cube_laws.specs.Form.{value, variable, times}
use Rattle.cube_laws.proofs.Folding.{length-weights}
use Rattle.cube_laws.proofs.Positions.{cube_sum_is}
use Rattle.cube_laws.proofs.Weights.{sum_to-same, weights_at}
use Rattle.sumcheck.specs.Column.{ColumnFits, ColumnHolds}
use Rattle.sumcheck.specs.Machine.{Filling}
use Rattle.sumcheck.specs.Rounds.{Rounds, sum_claim}
use Rattle.sumcheck.specs.Summing.{adding}
use Rattle.walk_example.specs.declared.moved.Moved.{Moved}
use Rattle.walk_example.specs.Move.{move, moved_sum, the_sum, IsSameTruth}

at_point : (f z : List ℕ) → length f ≡ 2 ^ length z → sum_to (2 ^ length z) (λ p. value (times (variable 0) (variable 1)) (row (weights z ∷ f ∷ []) p)) ≡ extension f z
at_point f z l = sum_to-same (2 ^ length z) _ (λ p. mul (get_or f p 0) (eq z p)) (λ p m. ap (λ w. mul w (get_or f p 0)) (weights_at z p m) ∙ field_comm (eq z p) (get_or f p 0))

pub moved_is : (F : Filling) (t : Moved) (n : ℕ) → length t.claim.point ≡ n → length (F t.claim.table t.claim.column) ≡ 2 ^ n → sum_at (moved_sum F t) [] n ≡ extension (F t.claim.table t.claim.column) t.claim.point
moved_is F t n e l =
    let f = F t.claim.table t.claim.column in
    let z = t.claim.point in
    let m : length f ≡ 2 ^ length z = l ∙ ap (λ k. 2 ^ k) (sym e) in
    ap (sum_at (moved_sum F t) []) (sym e) ∙ cube_sum_is (length z) (times (variable 0) (variable 1)) (weights z ∷ f ∷ []) (length-weights z, (m, tt)) ∙ at_point f z m

from_none : (n : ℕ) → n ≡ 0 + n
from_none n = omega arith

-- the walk of a claim is as true as the claim
pub begin_same : (F : Filling) (t : Moved) (n : ℕ) (r : Rounds) → r ≡ sum_claim 2 n [] t.claim.value → length t.claim.point ≡ n → ColumnFits F t.claim
    → move.fits F (adding t r) × IsSameTruth (ColumnHolds F t.claim) (move.holds F (adding t r))
begin_same F t n r e l f =
    let whole : length (F t.claim.table t.claim.column) ≡ 2 ^ n = f ∙ ap (λ k. 2 ^ k) l in
    let m = moved_is F t n l whole in
    subst (λ r. move.fits F (adding t r) × IsSameTruth (ColumnHolds F t.claim) (move.holds F (adding t r))) (sym e)
    ((subst (the_sum.fits F t) (from_none n) (l, whole), (omega arith, omega arith)), ((λ h. m ∙ h), (λ h. sym m ∙ h)))
