-- The values of one column.
-- Source: docs/ARCHITECTURE.md, "Within column_store".
use Rattle.std.specs.Prelude.{ℕ, ◌*◌, ◌≤◌, List, [], length, map, take, slice_index_or}
use Rattle.packed_words.specs.Packing.{per_word, lanes}

-- values of one level, by position
pub record ColumnValues : Type 0 where
  pub level : ℕ
  pub values : List ℕ

-- the lanes of words that hold a column's values
abbrev pub packed_values : ℕ → ℕ → List ℕ → List ℕ
packed_values level count words = take count (lanes level (length words) words)

-- words that have as many lanes as there are values
pub record IsPacked (level count : ℕ) (words : List ℕ) : Type 0 where
  pub is_a_level : level ≤ 7
  pub enough : count ≤ length words * per_word level

-- the list of each column
abbrev pub lists : List ColumnValues → List (List ℕ)
lists columns = map (λ (c : ColumnValues). c.values) columns

-- the list of a column among those of a table
abbrev pub list_of : List (List ℕ) → ℕ → List ℕ
list_of values c = slice_index_or values c []
