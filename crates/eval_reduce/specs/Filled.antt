-- A filling of a shape gives virtual columns the values of their forms.
-- Source: docs/REDUCTIONS.md, "Virtual columns".
use Rattle.std.specs.Prelude.{◌≡◌, ℕ, List, slice_index, Some}
use Rattle.sumcheck.specs.declared.column_claim.ColumnClaim.{ColumnClaim}
use Rattle.table_shape.specs.Filling.{Filling, IsFilling, values_of}
use Rattle.table_shape.specs.Fits.{ShapeFits}
use Rattle.table_shape.specs.Parts.{ShapeParts}
use Rattle.eval_reduce.specs.declared.packing.Packing.{Packing}
use Rattle.eval_reduce.specs.declared.projection.Projection.{Projection}
use Rattle.eval_reduce.specs.declared.shifting.Shifting.{Shifting}
use Rattle.eval_reduce.specs.Virtual.{IsOn}
use Rattle.eval_reduce.specs.Linear.{Combination, IsLinear, combination_of}
use Rattle.eval_reduce.specs.Pack.{IsPacked, packing_of}
use Rattle.eval_reduce.specs.Project.{IsProjected, projection_of}
use Rattle.eval_reduce.specs.Shift.{IsShifted, shifting_of}

-- in a filling of a shape, column c of table t has the values of its form
pub record HasForms (s : ShapeParts) (rows : List ℕ) (filling : Filling) (t c : ℕ) : Type 0 where
  pub projected : (p : Projection) → projection_of s.tables (slice_index rows t) t c ≡ Some p → IsProjected (values_of filling) p
  pub packed : (f : Packing) (claim : ColumnClaim) → packing_of s.tables (slice_index rows t) t c ≡ Some f → IsOn f.table f.column f.vars claim → IsPacked (values_of filling) f claim
  pub combined : (f : Combination) (claim : ColumnClaim) → combination_of s.tables (slice_index rows t) t c ≡ Some f → IsOn f.table f.column f.vars claim → IsLinear (values_of filling) f claim
  pub shifted : (h : Shifting) → shifting_of s.tables (slice_index rows t) t c ≡ Some h → IsShifted (values_of filling) h

abbrev pub FillingsHaveForms : Type 0
FillingsHaveForms = (s : ShapeParts) (rows : List ℕ) (filling : Filling) (t c : ℕ) → ShapeFits s → IsFilling s.tables rows filling → HasForms s rows filling t c
