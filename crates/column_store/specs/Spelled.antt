-- The values that bytes spell for the columns.
-- Source: docs/FORMATS.md, "The witness".
use Rattle.std.specs.Prelude.{ℕ, ◌+◌, ◌*◌, ◌^◌, List, [], ◌∷◌}
use Rattle.tower_laws.specs.Digits.{digits}
use Rattle.table_shape.specs.declared.shape.ColumnShape.{ColumnShape}
use Rattle.table_shape.specs.declared.shape.TableShape.{TableShape}
use Rattle.list_laws.specs.CeilLog.{ceil_log}
use Rattle.table_shape.specs.Filling.{Filling}
use Rattle.column_store.specs.Digits.{number_of_bytes}

-- the bits of a column's rows
abbrev pub written_bits : ℕ → ColumnShape → ℕ
written_bits rows column = rows * 2 ^ (column.log_values + column.level)

-- the values, as digits in base 2 ^ (2 ^ level) of the number that the bytes spell
abbrev pub column_values : ℕ → ColumnShape → List ℕ → List ℕ
column_values rows column bytes = digits (2 ^ (2 ^ column.level)) (2 ^ (ceil_log rows + column.log_values)) (number_of_bytes bytes)

-- the values of columns with these bytes
abbrev pub table_values : ℕ → List ColumnShape → List (List ℕ) → List (List ℕ)
table_values rows [] bytes = []
table_values rows (column ∷ columns) [] = []
table_values rows (column ∷ columns) (b ∷ bytes) = column_values rows column b ∷ table_values rows columns bytes

-- the values of all columns of tables with these rows and bytes
abbrev pub all_values : List TableShape → List ℕ → List (List (List ℕ)) → Filling
all_values [] rows bytes = []
all_values (table ∷ tables) [] bytes = []
all_values (table ∷ tables) (m ∷ rows) [] = []
all_values (table ∷ tables) (m ∷ rows) (b ∷ bytes) = table_values m table.columns b ∷ all_values tables rows bytes
