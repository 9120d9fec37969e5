-- Virtual columns of a shape, and claims on columns.
-- Source: docs/REDUCTIONS.md, "Virtual columns".
use Rattle.std.specs.Prelude.{◌≡◌, ℕ, ◌+◌, List, [], length, Option, Some, option_and_then, slice_get, unwrap_or}
use Rattle.sumcheck.specs.declared.column_claim.ColumnClaim.{ColumnClaim}
use Rattle.sumcheck.specs.declared.column_tables.ColumnTable.{ColumnTable}
use Rattle.sumcheck.specs.ColumnTables.{list_of}
use Rattle.table_shape.specs.declared.shape.ColumnShape.{ColumnShape}
use Rattle.table_shape.specs.declared.shape.TableShape.{TableShape}
use Rattle.list_laws.specs.CeilLog.{ceil_log}

-- column c of table t, where there is one
abbrev pub column_of : List TableShape → ℕ → ℕ → Option ColumnShape
column_of tables t c = option_and_then (λ (table : TableShape). slice_get table.columns c) (slice_get tables t)

-- how many variables a column has on a number of rows
abbrev pub vars_on : ℕ → ColumnShape → ℕ
vars_on rows column = ceil_log rows + column.log_values

-- a claim on that column, at a point of n coordinates
pub record IsOn (table column n : ℕ) (claim : ColumnClaim) : Type 0 where
  pub table_is : claim.table ≡ table
  pub column_is : claim.column ≡ column
  pub long : length claim.point ≡ n

-- the list of a column among those that a prover is given, and none where it isn't there
abbrev pub table_of : List ColumnTable → ℕ → ℕ → List ℕ
table_of tables t c = unwrap_or (list_of tables t c) []

-- a list of n values is there for the column
abbrev pub IsThere : List ColumnTable → ℕ → ℕ → ℕ → Type 0
IsThere tables t c n = (list : List ℕ) × (list_of tables t c ≡ Some list) × (length list ≡ n)
