-- The tokens of a text, each as long as possible.
-- Source: docs/LANGUAGE.md, "Tokens".
use Rattle.std.specs.Prelude.{ℕ, zero, suc, ◌+◌, ◌-◌, ◌^◌, Bool, not, ◌&&◌, ◌==◌, nat_eq, nat_lt, if◌then◌else◌, List, [], ◌∷◌, ◌++◌, length, map, drop, take_while, codes, Option, Some, None}
use Rattle.std.specs.List.{list_any, starts_with}
use Rattle.std.specs.Str.{bytes_eq}
use Rattle.table_text.specs.Limits.{max_word}
use Rattle.table_text.specs.Bytes.{is_blank, is_letter, is_word_byte, is_digit, is_hex_digit, is_mark, number_of}
use Rattle.table_text.specs.declared.fault.TextKind.{TextKind}
use Rattle.table_text.specs.declared.fault.TextKind.TheVariants.{Unexpected, NumberTooWide, NameTooLong}

pub data Token : Type 0 where
  name : List ℕ → Token
  reserved : List ℕ → Token
  number : ℕ → Token
  mark : ℕ → Token
  -- what is no token, or too long or too wide a one
  wrong : TextKind → Token

-- the words that are no names
abbrev pub reserved_words : List (List ℕ)
reserved_words =
    codes "table" ∷ codes "channel" ∷ codes "boundary" ∷ codes "column" ∷ codes "virtual" ∷ codes "zero" ∷ codes "push" ∷ codes "pull" ∷ codes "if" ∷ codes "x" ∷ codes "rows"
    ∷ codes "linear" ∷ codes "shl" ∷ codes "shr" ∷ codes "rol" ∷ codes "pack" ∷ codes "project" ∷ []

abbrev pub is_reserved : List ℕ → Bool
is_reserved word = list_any (bytes_eq word) reserved_words

abbrev pub word_token : List ℕ → Token
word_token word = if nat_lt max_word (length word) then wrong NameTooLong else (if is_reserved word then reserved word else name word)

abbrev pub number_token : ℕ → Token
number_token n = if nat_lt n (2 ^ 128) then number n else wrong NumberTooWide

-- what stands at the front of bytes: how many of them it takes, and which token it is; blanks and comments are none
pub record Piece : Type 0 where
  pub len : ℕ
  pub token : Option Token

abbrev pub gap : ℕ → Piece
gap len = record { len = len; token = None }

abbrev pub word_at : List ℕ → Piece
word_at bytes = let word = take_while is_word_byte bytes in record { len = length word; token = Some (word_token word) }

abbrev pub decimal_at : List ℕ → Piece
decimal_at bytes = let digits = take_while is_digit bytes in record { len = length digits; token = Some (number_token (number_of 10 digits)) }

-- `0x` and hexadecimal digits, at least one, or decimal digits
abbrev pub number_at : List ℕ → Piece
number_at bytes =
    let digits = take_while is_hex_digit (drop 2 bytes) in
    if starts_with nat_eq bytes (codes "0x") && nat_lt 0 (length digits) then record { len = length digits + 2; token = Some (number_token (number_of 16 digits)) } else decimal_at bytes

-- up to the line's end
abbrev pub comment_at : List ℕ → Piece
comment_at bytes = gap (length (take_while (λ b. not (b == 10)) bytes))

abbrev pub piece_at : List ℕ → Piece
piece_at [] = gap 0
piece_at (b ∷ bytes) =
    if is_blank b then gap 1
    else (if b == 35 then comment_at (b ∷ bytes)
    else (if is_letter b then word_at (b ∷ bytes)
    else (if is_digit b then number_at (b ∷ bytes) else record { len = 1; token = Some (if is_mark b then mark b else wrong Unexpected) })))

-- a token, and the place of its first byte
pub record Spot : Type 0 where
  pub place : ℕ
  pub token : Token

abbrev pub spot_at : ℕ → Option Token → List Spot
spot_at place None = []
spot_at place (Some token) = record { place = place; token = token } ∷ []

-- the tokens of the bytes from a place on, of which the first ones, skip of them, are the rest of a piece
unfoldable pub spots_from : ℕ → ℕ → List ℕ → List Spot
spots_from place skip [] = []
spots_from place (suc skip) (b ∷ bytes) = spots_from (place + 1) skip bytes
spots_from place zero (b ∷ bytes) = spot_at place (piece_at (b ∷ bytes)).token ++ spots_from (place + 1) ((piece_at (b ∷ bytes)).len - 1) bytes

-- the tokens of a text
abbrev pub spots : List ℕ → List Spot
spots text = spots_from 0 0 text

abbrev pub tokens : List ℕ → List Token
tokens text = map (λ s. s.token) (spots text)
