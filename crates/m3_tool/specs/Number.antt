-- The number that a word spells.
-- Source: docs/LANGUAGE.md, "Tokens"; docs/FORMATS.md, "Commands".
use Rattle.std.specs.Prelude.{ℕ, ◌==◌, if◌then◌else◌, List, length, Option, Some, None}
use Rattle.table_text.specs.Lexing.{Token, name, reserved, number, mark, wrong, piece_at}

abbrev pub as_number : Option Token → Option ℕ
as_number None = None
as_number (Some (name word)) = None
as_number (Some (reserved word)) = None
as_number (Some (number n)) = Some n
as_number (Some (mark b)) = None
as_number (Some (wrong kind)) = None

-- the number below 2 ^ 128 that a word spells, if the whole word is one number of the language
unfoldable pub number_of : List ℕ → Option ℕ
number_of word = if (piece_at word).len == length word then as_number (piece_at word).token else None
