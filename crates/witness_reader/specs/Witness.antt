-- The rows and values that a witness file gives, or its first fault.
-- Source: docs/FORMATS.md, "The witness".
use Rattle.std.specs.Prelude.{◌≡◌, ℕ, ◌+◌, ◌/◌, ◌^◌, ◌||◌, ◌==◌, not, nat_lt, nat_le, Bool, true, false, if◌then◌else◌, List, [], ◌∷◌, length, map, filter, codes, Option, Some, None, option_and_then, Result, Ok, Err}
use Rattle.std.specs.List.{list_any}
use Rattle.std.specs.Str.{bytes_eq}
use Rattle.std.specs.Str.Lossy.{utf8_valid_len}
use Rattle.serde_json.specs.Data.{Data, Members, no_members, member}
use Rattle.serde_json.specs.Read.{read}
use Rattle.serde_json.specs.Find.{get_member, as_object, as_number, as_u64, as_str}
use Rattle.hex.specs.Hex.{decode_of}
use Rattle.table_shape.specs.Limits.{max_rows, max_size_log}
use Rattle.table_shape.specs.declared.shape.ColumnKind.{ColumnKind}
use Rattle.table_shape.specs.declared.shape.ColumnKind.TheVariants.{Committed, Virtual}
use Rattle.table_shape.specs.declared.shape.ColumnShape.{ColumnShape}
use Rattle.table_shape.specs.declared.shape.TableShape.{TableShape}
use Rattle.witness_reader.specs.declared.fault.WitnessPlace.{WitnessPlace}
use Rattle.witness_reader.specs.declared.fault.WitnessPlace.TheVariants.{Whole, Table, Column}
use Rattle.witness_reader.specs.declared.fault.WitnessKind.{WitnessKind}
use Rattle.witness_reader.specs.declared.fault.WitnessKind.TheVariants.{NotJson, NotAnObject, MissingTable, BadRows, MissingColumn, NotAText, BadHex, WrongLength, PaddingBits, ExtraColumn, ExtraTable}
use Rattle.witness_reader.specs.declared.fault.WitnessStop.{WitnessStop}
use Rattle.witness_reader.specs.declared.fault.WitnessStop.TheVariants.{Fault, TooLarge}
use Rattle.list_laws.specs.AndThen.{◌>>=◌}
use Rattle.table_shape.specs.Size.{size_log}
use Rattle.table_shape.specs.Shape.{table_names}
use Rattle.table_shape.specs.Filling.{Filling}
use Rattle.column_store.specs.Digits.{number_of_bytes}
use Rattle.column_store.specs.Spelled.{written_bits, all_values}
use Rattle.column_store.specs.Filled.{filled_tables}

abbrev pub refuse : {X : Type 0} → WitnessPlace → WitnessKind → Result X WitnessStop
refuse place kind = Err (Fault (record { place = place; kind = kind }))

-- what is there, or this refusal
abbrev pub or_refuse : {X : Type 0} → WitnessPlace → WitnessKind → Option X → Result X WitnessStop
or_refuse place kind None = refuse place kind
or_refuse place kind (Some x) = Ok x

-- nothing where the test passes, or this refusal
abbrev pub unless : {X : Type 0} → Bool → WitnessPlace → WitnessKind → X → Result X WitnessStop
unless test place kind x = if test then Ok x else refuse place kind

-- the JSON that bytes in UTF-8 spell
abbrev pub json_of : List ℕ → Option Data
json_of bytes = if utf8_valid_len bytes == length bytes then read bytes else None

-- a whole number of rows that a table may have
abbrev pub rows_of : Members → Option ℕ
rows_of object = option_and_then (λ m. if nat_le m max_rows then Some m else None) (option_and_then as_u64 (option_and_then as_number (get_member (codes "rows") object)))

-- a table's object and its number of rows
abbrev pub object_of : ℕ → TableShape → Members → Result (Members × ℕ) WitnessStop
object_of t table whole =
    or_refuse (Table t) MissingTable (get_member table.name whole) >>= (λ found.
    or_refuse (Table t) NotAnObject (as_object found) >>= (λ object.
    or_refuse (Table t) BadRows (rows_of object) >>= (λ rows. Ok (object, rows))))

-- those of the tables from number t on
abbrev pub objects_of : ℕ → List TableShape → Members → Result (List (Members × ℕ)) WitnessStop
objects_of t [] whole = Ok []
objects_of t (table ∷ tables) whole = object_of t table whole >>= (λ object. objects_of (t + 1) tables whole >>= (λ objects. Ok (object ∷ objects)))

-- the number of rows of each table
abbrev pub rows_of_tables : List TableShape → Members → Result (List ℕ) WitnessStop
rows_of_tables tables whole = objects_of 0 tables whole >>= (λ objects. Ok (map (λ o. o.1) objects))

abbrev pub hex_bytes : List ℕ → Option (List ℕ)
hex_bytes text = elim (decode_of text) [ Ok bytes ↦ Some bytes | Err e ↦ None ]

-- the bytes of column c of table t
abbrev pub column_bytes : ℕ → ℕ → ℕ → ColumnShape → Members → Result (List ℕ) WitnessStop
column_bytes t c rows column object =
    or_refuse (Column t c) MissingColumn (get_member column.name object) >>= (λ found.
    or_refuse (Column t c) NotAText (as_str found) >>= (λ text.
    or_refuse (Column t c) BadHex (hex_bytes text) >>= (λ bytes.
    unless (length bytes == (written_bits rows column + 7) / 8) (Column t c) WrongLength bytes >>= (λ bytes.
    unless (nat_lt (number_of_bytes bytes) (2 ^ written_bits rows column)) (Column t c) PaddingBits bytes))))

-- those of a column of this kind: a virtual column has none
abbrev pub given_bytes : ℕ → ℕ → ℕ → ColumnShape → Members → ColumnKind → Result (List ℕ) WitnessStop
given_bytes t c rows column object Committed = column_bytes t c rows column object
given_bytes t c rows column object (Virtual form) = Ok []

-- those of the columns from number c on
abbrev pub columns_bytes : ℕ → ℕ → ℕ → List ColumnShape → Members → Result (List (List ℕ)) WitnessStop
columns_bytes t c rows [] object = Ok []
columns_bytes t c rows (column ∷ columns) object = given_bytes t c rows column object column.kind >>= (λ bytes. columns_bytes t (c + 1) rows columns object >>= (λ more. Ok (bytes ∷ more)))

abbrev pub is_committed : ColumnKind → Bool
is_committed Committed = true
is_committed (Virtual form) = false

-- the names of the columns that a witness gives
abbrev pub committed_names : List ColumnShape → List (List ℕ)
committed_names columns = map (λ (c : ColumnShape). c.name) (filter (λ (c : ColumnShape). is_committed c.kind) columns)

-- a member with none of these names
abbrev pub has_other : List (List ℕ) → Members → Bool
has_other names no_members = false
has_other names (member key found more) = not (list_any (bytes_eq key) names) || has_other names more

-- the bytes of all columns of table t, whose object has no other member
abbrev pub table_bytes : ℕ → TableShape → Members × ℕ → Result (List (List ℕ)) WitnessStop
table_bytes t table object =
    columns_bytes t 0 object.1 table.columns object.0 >>= (λ bytes. unless (not (has_other (codes "rows" ∷ committed_names table.columns) object.0)) (Table t) ExtraColumn bytes)

-- those of the tables from number t on
abbrev pub tables_bytes : ℕ → List TableShape → List (Members × ℕ) → Result (List (List (List ℕ))) WitnessStop
tables_bytes t [] objects = Ok []
tables_bytes t (table ∷ tables) [] = Ok []
tables_bytes t (table ∷ tables) (object ∷ objects) = table_bytes t table object >>= (λ bytes. tables_bytes (t + 1) tables objects >>= (λ more. Ok (bytes ∷ more)))

-- how many rows each table has, and the bytes of each of its columns, none for a virtual one
pub record WitnessData : Type 0 where
  pub rows : List ℕ
  pub bytes : List (List (List ℕ))

abbrev pub within_size : List TableShape → List ℕ → Result (List ℕ) WitnessStop
within_size tables rows = if nat_lt max_size_log (size_log tables rows) then Err (TooLarge (size_log tables rows)) else Ok rows

-- the witness whose tables have these objects
abbrev pub witness_of_objects : List TableShape → Members → List (Members × ℕ) → Result WitnessData WitnessStop
witness_of_objects tables whole objects =
    within_size tables (map (λ o. o.1) objects) >>= (λ rows.
    tables_bytes 0 tables objects >>= (λ bytes.
    unless (not (has_other (table_names tables) whole)) Whole ExtraTable (record { rows = rows; bytes = bytes })))

-- the witness that a file gives to tables, or the first fault in this order
abbrev pub witness_of : List TableShape → List ℕ → Result WitnessData WitnessStop
witness_of tables file =
    or_refuse Whole NotJson (json_of file) >>= (λ json.
    or_refuse Whole NotAnObject (as_object json) >>= (λ whole.
    objects_of 0 tables whole >>= (λ objects.
    witness_of_objects tables whole objects)))

-- the values that a witness gives to the columns of tables: to the committed ones by their bytes, and to the virtual ones by their forms
abbrev pub filling_of : List TableShape → WitnessData → Filling
filling_of tables w = filled_tables tables w.rows (all_values tables w.rows w.bytes)

-- the rows and values of the witness that a file gives to tables
abbrev pub IsOf : List TableShape → List ℕ → List ℕ → Filling → Type 0
IsOf tables file rows filling = (w : WitnessData) × (witness_of tables file ≡ Ok w) × (rows ≡ w.rows) × (filling ≡ filling_of tables w)
