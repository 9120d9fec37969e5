-- What a token is, or stands for.
-- Source: docs/ARCHITECTURE.md, "Within table_text".
use Rattle.std.specs.Prelude.{ℕ, ◌+◌, Bool, false, ◌==◌, if◌then◌else◌, List, [], ◌∷◌, Option, Some, None}
use Rattle.std.specs.Str.{bytes_eq}
use Rattle.table_text.specs.Lexing.{Token, name, reserved, number, mark, wrong}
use Rattle.table_text.specs.Grammar.{type_words}

abbrev pub name_of : Token → Option (List ℕ)
name_of (name w) = Some w
name_of (reserved w) = None
name_of (number n) = None
name_of (mark b) = None
name_of (wrong kind) = None

-- whether a token is this reserved word
abbrev pub is_word : List ℕ → Token → Bool
is_word word (name w) = false
is_word word (reserved w) = bytes_eq w word
is_word word (number n) = false
is_word word (mark b) = false
is_word word (wrong kind) = false

-- the place of a word among words, from a number on
abbrev pub place_among : ℕ → List (List ℕ) → List ℕ → Option ℕ
place_among n [] w = None
place_among n (word ∷ words) w = if bytes_eq w word then Some n else place_among (n + 1) words w

-- the level of a type's word
abbrev pub level_of : List ℕ → Option ℕ
level_of w = place_among 0 type_words w

abbrev pub number_in : Token → Option ℕ
number_in (name w) = None
number_in (reserved w) = None
number_in (number n) = Some n
number_in (mark b) = None
number_in (wrong kind) = None

-- the place of a number among numbers, from a number on
abbrev pub count_among : ℕ → List ℕ → ℕ → Option ℕ
count_among n [] k = None
count_among n (count ∷ counts) k = if k == count then Some n else count_among (n + 1) counts k

-- how many values a column may have per row
abbrev pub value_counts : List ℕ
value_counts = 1 ∷ 2 ∷ 4 ∷ 8 ∷ 16 ∷ 32 ∷ 64 ∷ 128 ∷ []

-- the logarithm of a number of values
abbrev pub log_values_of : ℕ → Option ℕ
log_values_of k = count_among 0 value_counts k
