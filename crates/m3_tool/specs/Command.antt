-- The commands, and the words that mean each.
-- Source: docs/FORMATS.md, "Commands".
use Rattle.std.specs.Prelude.{ℕ, List, [], ◌∷◌, map, codes, nat_le, if◌then◌else◌, Option, Some, None}
use Rattle.std.specs.Option.{option_map}
use Rattle.std.specs.Str.{bytes_eq}
use Rattle.table_shape.specs.Limits.{max_rows}
use Rattle.table_shape.specs.Shape.{all_some}
use Rattle.m3_tool.specs.Number.{number_of}

pub data Command : Type 0 where
  -- says whether the witness in the second file satisfies the tables in the first
  check : List ℕ → List ℕ → Command
  -- prints the canonical text of the tables in a file
  print : List ℕ → Command
  -- prints what the tables and the witness come to at alpha and gamma
  lower : (tables witness : List ℕ) (alpha gamma : ℕ) → Command
  -- prints the counted draws of a proof for tables on so many rows each, and the proof's length
  count : (tables rows : List ℕ) → Command
  help : Command
  version : Command

-- a lower of two files, if both of its words spell numbers
abbrev pub lower_of : List ℕ → List ℕ → Option ℕ → Option ℕ → Option Command
lower_of tables witness None gamma = None
lower_of tables witness (Some alpha) None = None
lower_of tables witness (Some alpha) (Some gamma) = Some (lower tables witness alpha gamma)

-- a number that is not above a limit
abbrev pub at_most : ℕ → Option ℕ → Option ℕ
at_most limit None = None
at_most limit (Some n) = if nat_le n limit then Some n else None

-- the number of rows that a word spells, if a table may have so many
abbrev pub row_count_of : List ℕ → Option ℕ
row_count_of word = at_most max_rows (number_of word)

-- those that words spell, if each spells one
abbrev pub row_counts_of : List (List ℕ) → Option (List ℕ)
row_counts_of words = all_some (map row_count_of words)

-- a count of a file of tables, if each word after its name spells a number of rows
abbrev pub count_of : List (List ℕ) → Option Command
count_of [] = None
count_of (tables ∷ words) = option_map (count tables) (row_counts_of words)

-- the command that so many words mean which don't begin with `count`
abbrev pub other_command_of : List (List ℕ) → Option Command
other_command_of [] = None
other_command_of (word ∷ []) = if bytes_eq word (codes "--help") then Some help else (if bytes_eq word (codes "--version") then Some version else None)
other_command_of (word ∷ a ∷ []) = if bytes_eq word (codes "print") then Some (print a) else None
other_command_of (word ∷ a ∷ b ∷ []) = if bytes_eq word (codes "check") then Some (check a b) else None
other_command_of (word ∷ a ∷ b ∷ c ∷ []) = None
other_command_of (word ∷ a ∷ b ∷ c ∷ d ∷ []) = if bytes_eq word (codes "lower") then lower_of a b (number_of c) (number_of d) else None
other_command_of (word ∷ a ∷ b ∷ c ∷ d ∷ e ∷ more) = None

-- the command that words mean, if they fit a pattern
abbrev pub command_of : List (List ℕ) → Option Command
command_of [] = None
command_of (word ∷ words) = if bytes_eq word (codes "count") then count_of words else other_command_of (word ∷ words)
