-- The bytes of a text and of its tokens.
-- Source: docs/LANGUAGE.md, the opening and "Tokens".
use Rattle.std.specs.Prelude.{ℕ, ◌+◌, ◌-◌, ◌*◌, Bool, ◌||◌, ◌&&◌, ◌==◌, nat_le, if◌then◌else◌, List, fold}

abbrev pub is_between : ℕ → ℕ → ℕ → Bool
is_between low high b = nat_le low b && nat_le b high

-- a tab, a line feed, a carriage return or a space
abbrev pub is_blank : ℕ → Bool
is_blank b = b == 9 || b == 10 || b == 13 || b == 32

-- the bytes that a text may have: blanks and what ASCII prints
abbrev pub is_text : ℕ → Bool
is_text b = is_blank b || is_between 32 126 b

abbrev pub is_digit : ℕ → Bool
is_digit b = is_between 48 57 b

abbrev pub is_letter : ℕ → Bool
is_letter b = is_between 65 90 b || is_between 97 122 b

-- a letter, a digit or `_`
abbrev pub is_word_byte : ℕ → Bool
is_word_byte b = is_letter b || is_digit b || b == 95

abbrev pub is_hex_digit : ℕ → Bool
is_hex_digit b = is_digit b || is_between 65 70 b || is_between 97 102 b

-- the marks
abbrev pub colon : ℕ
colon = 58

abbrev pub semicolon : ℕ
semicolon = 59

abbrev pub comma : ℕ
comma = 44

abbrev pub open_paren : ℕ
open_paren = 40

abbrev pub close_paren : ℕ
close_paren = 41

abbrev pub open_brace : ℕ
open_brace = 123

abbrev pub close_brace : ℕ
close_brace = 125

abbrev pub equals_sign : ℕ
equals_sign = 61

abbrev pub plus_sign : ℕ
plus_sign = 43

abbrev pub times_sign : ℕ
times_sign = 42

abbrev pub is_mark : ℕ → Bool
is_mark b = b == colon || b == semicolon || b == comma || b == open_paren || b == close_paren || b == open_brace || b == close_brace || b == equals_sign || b == plus_sign || b == times_sign

-- what a digit of either case counts
abbrev pub digit_value : ℕ → ℕ
digit_value b = if is_digit b then b - 48 else (if nat_le 97 b then b - 87 else b - 55)

-- the number that digits spell, the highest first
abbrev pub number_of : ℕ → List ℕ → ℕ
number_of base digits = fold (λ n b. n * base + digit_value b) 0 digits
