-- A group's claim is that its constraints are 0 on the rows of their table.
-- Source: docs/LANGUAGE.md, "What a file means"; docs/REDUCTIONS.md, "Zerocheck".
use Rattle.std.specs.Prelude.{◌≡◌, ◌↔◌, ℕ, List, slice_get, slice_index, Some}
use Rattle.table_shape.specs.declared.shape.ConstraintShape.{ConstraintShape}
use Rattle.table_shape.specs.declared.shape.TableShape.{TableShape}
use Rattle.table_shape.specs.Parts.{ShapeParts}
use Rattle.table_shape.specs.Fits.{ShapeFits}
use Rattle.table_shape.specs.Filling.{Filling, IsFilling, values_of}
use Rattle.table_shape.specs.Satisfies.{IsZeroOnRows}
use Rattle.zerocheck.specs.Group.{Group, group_of}
use Rattle.zerocheck.specs.Zero.{ZeroFits, ZeroHolds, stated}

-- each constraint of 2 ^ v values per row is 0 on the rows
abbrev pub GroupIsZero : Filling → ℕ → ℕ → ℕ → TableShape → Type 0
GroupIsZero filling t v rows table = (z : ℕ) (constraint : ConstraintShape) → slice_get table.constraints z ≡ Some constraint → constraint.log_values ≡ v → IsZeroOnRows filling t constraint rows

-- the first state fits every filling of the shape, and is true exactly where the group's constraints are 0
pub record IsFirst (filling : Filling) (t v rows : ℕ) (table : TableShape) (g : Group) : Type 0 where
  pub fits : ZeroFits (values_of filling) (stated g)
  pub same : ZeroHolds (values_of filling) (stated g) ↔ GroupIsZero filling t v rows table

abbrev pub FirstStatesAreMeant : Type 0
FirstStatesAreMeant =
    (shape : ShapeParts) (rows : List ℕ) (filling : Filling) (t v : ℕ) (table : TableShape) (g : Group) → ShapeFits shape → IsFilling shape.tables rows filling
    → slice_get shape.tables t ≡ Some table → group_of shape.tables (slice_index rows t) t v ≡ Some g → IsFirst filling t v (slice_index rows t) table g
