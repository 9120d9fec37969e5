-- What a witness file gives to tables, part by part.
-- Source: docs/FORMATS.md, "The witness".
use Rattle.std.specs.Prelude.{◌≡◌, ◌↔◌, ℕ, ◌+◌, ◌/◌, ◌^◌, ◌<◌, ◌≤◌, false, List, [], ◌∷◌, length, codes, Some, Ok}
use Rattle.serde_json.specs.Data.{Data, Members}
use Rattle.serde_json.specs.Find.{get_member, as_object, as_str}
use Rattle.table_shape.specs.Limits.{max_size_log}
use Rattle.table_shape.specs.declared.shape.ColumnKind.{ColumnKind}
use Rattle.table_shape.specs.declared.shape.ColumnKind.TheVariants.{Committed, Virtual}
use Rattle.table_shape.specs.declared.shape.ColumnShape.{ColumnShape}
use Rattle.table_shape.specs.declared.shape.TableShape.{TableShape}
use Rattle.table_shape.specs.Size.{size_log}
use Rattle.table_shape.specs.Shape.{table_names}
use Rattle.column_store.specs.Digits.{number_of_bytes}
use Rattle.witness_reader.specs.Witness.{WitnessData, json_of, rows_of, hex_bytes, committed_names, has_other, witness_of}
use Rattle.column_store.specs.Spelled.{written_bits}

-- a table's object has a text of hexadecimal digits for a column: as few bytes as hold the bits of all rows, and no other bit
pub record GivesColumn (object : Members) (rows : ℕ) (column : ColumnShape) (bytes : List ℕ) : Type 0 where
  pub found : Data
  pub text : List ℕ
  pub is_there : get_member column.name object ≡ Some found
  pub is_text : as_str found ≡ Some text
  pub is_hex : hex_bytes text ≡ Some bytes
  pub len : length bytes ≡ (written_bits rows column + 7) / 8
  pub no_padding : number_of_bytes bytes < 2 ^ written_bits rows column

-- so it has for a committed column, and there are no bytes for a virtual one
abbrev pub GivesKind : Members → ℕ → ColumnShape → List ℕ → ColumnKind → Type 0
GivesKind object rows column bytes Committed = GivesColumn object rows column bytes
GivesKind object rows column bytes (Virtual form) = bytes ≡ []

-- so it is for each of these columns
abbrev pub GivesColumns : Members → ℕ → List ColumnShape → List (List ℕ) → Type 0
GivesColumns object rows [] [] = Unit {0}
GivesColumns object rows [] (b ∷ bytes) = ⊥
GivesColumns object rows (column ∷ columns) [] = ⊥
GivesColumns object rows (column ∷ columns) (b ∷ bytes) = GivesKind object rows column b column.kind × GivesColumns object rows columns bytes

-- the whole has an object for a table, with its number of rows, each committed column, and nothing else
pub record GivesTable (whole : Members) (table : TableShape) (rows : ℕ) (bytes : List (List ℕ)) : Type 0 where
  pub found : Data
  pub object : Members
  pub is_there : get_member table.name whole ≡ Some found
  pub is_object : as_object found ≡ Some object
  pub is_number : rows_of object ≡ Some rows
  pub columns : GivesColumns object rows table.columns bytes
  pub no_other : has_other (codes "rows" ∷ committed_names table.columns) object ≡ false

-- so it has for each of these tables
abbrev pub GivesTables : Members → List TableShape → List ℕ → List (List (List ℕ)) → Type 0
GivesTables whole [] [] [] = Unit {0}
GivesTables whole [] [] (b ∷ bytes) = ⊥
GivesTables whole [] (m ∷ rows) bytes = ⊥
GivesTables whole (table ∷ tables) [] bytes = ⊥
GivesTables whole (table ∷ tables) (m ∷ rows) [] = ⊥
GivesTables whole (table ∷ tables) (m ∷ rows) (b ∷ bytes) = GivesTable whole table m b × GivesTables whole tables rows bytes

-- the file is JSON, an object with each table and nothing else, and all columns are within the limit
pub record GivesWitness (tables : List TableShape) (file : List ℕ) (w : WitnessData) : Type 0 where
  pub json : Data
  pub whole : Members
  pub is_json : json_of file ≡ Some json
  pub is_object : as_object json ≡ Some whole
  pub each : GivesTables whole tables w.rows w.bytes
  pub small : size_log tables w.rows ≤ max_size_log
  pub no_other : has_other (table_names tables) whole ≡ false

-- a file is read as a witness exactly where it gives this one
abbrev pub IsReadWhereGiven : Type 0
IsReadWhereGiven = (tables : List TableShape) (file : List ℕ) (w : WitnessData) → (witness_of tables file ≡ Ok w) ↔ GivesWitness tables file w
