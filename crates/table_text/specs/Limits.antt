-- The limits of the language.
-- Source: docs/LANGUAGE.md, "Faults" and "What a file means".
use Rattle.std.specs.Prelude.{ℕ}

-- the most bytes of a word
abbrev pub max_word : ℕ
max_word = 64

-- the most parentheses that are open at once
abbrev pub max_open : ℕ
max_open = 32

abbrev pub max_declarations : ℕ
max_declarations = 65535

-- the widest type has 2 ^ (2 ^ max_level) elements
abbrev pub max_level : ℕ
max_level = 7

-- a column has at most 2 ^ max_log_values values per row
abbrev pub max_log_values : ℕ
max_log_values = 7
