-- How many bits the columns of all tables take.
-- Source: docs/FORMATS.md, "The witness" and "Limits".
use Rattle.std.specs.Prelude.{ℕ, ◌+◌, ◌^◌, List, [], ◌∷◌}
use Rattle.list_laws.specs.CeilLog.{ceil_log}
use Rattle.table_shape.specs.declared.shape.ColumnShape.{ColumnShape}
use Rattle.table_shape.specs.declared.shape.TableShape.{TableShape}

-- the bits of a column on a number of rows, filled up to a power of two
abbrev pub column_bits : ℕ → ColumnShape → ℕ
column_bits rows column = 2 ^ (ceil_log rows + column.log_values + column.level)

abbrev pub columns_bits : ℕ → List ColumnShape → ℕ
columns_bits rows [] = 0
columns_bits rows (column ∷ columns) = column_bits rows column + columns_bits rows columns

abbrev pub tables_bits : List TableShape → List ℕ → ℕ
tables_bits [] rows = 0
tables_bits (table ∷ tables) [] = 0
tables_bits (table ∷ tables) (m ∷ rows) = columns_bits m table.columns + tables_bits tables rows

-- the least e such that all columns take at most 2 ^ e bits
abbrev pub size_log : List TableShape → List ℕ → ℕ
size_log tables rows = ceil_log (tables_bits tables rows)
