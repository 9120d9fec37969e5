-- A claim that is moved keeps its truth.
use Rattle.std.proofs.Common.{◌≡◌, ◌∙◌, ℕ, List, [], ◌∷◌, length, slice_index, refl, sym, ap, arith}
use Rattle.tower_laws.specs.Tower.{mul}
use Rattle.cube_laws.specs.Extension.{extension}
use Rattle.cube_laws.specs.SumClaim.{sum_at}
use Rattle.cube_laws.proofs.Coordinates.{sum_at-all}
use Rattle.cube_laws.proofs.EqPoints.{weights_extend}
use Rattle.sumcheck.specs.Machine.{Filling, Lawful}
use Rattle.sumcheck.specs.Summing.{LawfulSumming}
use Rattle.sumcheck.proofs.Lawful.{keeps_truth}
use Rattle.walk_example.specs.declared.moved.Moved.{Moved}
use Rattle.walk_example.specs.Move.{move, moved_sum, the_sum}

one_value : (v : List ℕ) → length v ≡ 1 → v ≡ slice_index v 0 ∷ []
one_value [] l = absurd (omega arith)
one_value (x ∷ []) l = refl
one_value (x ∷ y ∷ v) l = absurd (omega arith)

sum_final : (F : Filling) (t : Moved) (z : List ℕ) → the_sum.fits F t (length z) → sum_at (moved_sum F t) z 0 ≡ the_sum.left t z (the_sum.finals F t z)
sum_final F t z f = sum_at-all (moved_sum F t) z ∙ ap (λ e. mul e (extension (F t.claim.table t.claim.column) z)) (weights_extend t.claim.point z f.0)

pub sum_lawful : LawfulSumming the_sum
sum_lawful = record {
  last = refl;
  final = sum_final;
  size = λ F t z. refl;
  told = λ F t z f. refl;
  tells = λ F t z v f l h. one_value v l ∙ ap (λ x. x ∷ []) (sym h);
  closed_fits = λ F t z v f l. f.1;
  next = λ t z v l. refl;
}

pub move_lawful : Lawful move
move_lawful = (keeps_truth the_sum sum_lawful).whole (λ claim. refl)
