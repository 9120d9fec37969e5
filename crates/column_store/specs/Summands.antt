-- Terms that are whole columns.
-- Source: docs/ARCHITECTURE.md, "Within column_store".
use Rattle.std.specs.Prelude.{◌≡◌, ℕ, ◌<◌, ◌≤◌, List, length, get_or}
use Rattle.table_shape.specs.declared.shape.ShapeTerm.{ShapeTerm}
use Rattle.column_store.specs.Column.{ColumnValues}

-- a term is a column of this level as it is, with at least so many values
pub record IsSummand (level count : ℕ) (term : ShapeTerm) (column : ColumnValues) : Type 0 where
  pub alone : term.coefficient ≡ 1
  pub same_level : column.level ≡ level
  pub as_many : count ≤ length column.values

-- each of these terms is
abbrev pub AreSummands : List ColumnValues → List ShapeTerm → ℕ → ℕ → Type 0
AreSummands columns terms level count = (i : ℕ) (term : ShapeTerm) (column : ColumnValues) → i < length terms → term ≡ get_or terms i term → column ≡ get_or columns term.column column → IsSummand level count term column
