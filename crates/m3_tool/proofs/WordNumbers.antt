-- Words that are numbers as a whole.
use Rattle.std.proofs.Common.{◌≡◌, ℕ, ◌+◌, ◌<◌, ◌^◌, Bool, true, false, cond, ◌&&◌, List, [], ◌∷◌, length, take, drop, ◌-◌, Option, Some, None, refl, sym, ◌∙◌, ap, arith, length-drop}
use Rattle.std.proofs.lemmas.Bool.{eqb-true, ltb-true}
use Rattle.std.proofs.lemmas.Bool.Decides.{nat_tests}
use Rattle.std.proofs.lemmas.List.{take_all}
use Rattle.std.proofs.lemmas.List.Sums.{take_while-cons}
use Rattle.std.specs.Prelude.{◌==◌, nat_eq, nat_lt, codes}
use Rattle.std.specs.List.{list_all, take_while, starts_with}
use Rattle.table_text.specs.Limits.{max_word}
use Rattle.table_text.specs.Bytes.{is_blank, is_letter, is_digit, is_hex_digit, is_word_byte, is_mark}
use Rattle.table_text.specs.Bytes as bytes
use Rattle.table_text.specs.Lexing.{Token, name, reserved, number, mark, wrong, Piece, gap, comment_at, word_at, decimal_at, number_at, piece_at, word_token, number_token, is_reserved}
use Rattle.table_text.specs.declared.fault.TextKind.TheVariants.{Unexpected, NumberTooWide, NameTooLong}
use Rattle.table_text.proofs.Digits.{below}
use Rattle.table_text.proofs.FromTests.{both}
use Rattle.m3_tool.specs.Number.{as_number, number_of}

-- the number of a piece that takes this many bytes
abbrev as_whole : ℕ → Piece → Option ℕ
as_whole len piece = cond (piece.len == len) (as_number piece.token) None

by_piece : (word : List ℕ) (piece : Piece) → piece_at word ≡ piece → number_of word ≡ as_whole (length word) piece
unfolding number_of
by_piece word piece e = ap (as_whole (length word)) e

taken_whole : (len all : ℕ) (token : Option Token) → len ≡ all → as_whole all (record { len = len; token = token }) ≡ as_number token
taken_whole len all token h = let e : (len == all) ≡ true = grind (arith, nat_tests) in ap (λ v. cond v (as_number token) None) e

taken_in_part : (len all : ℕ) (token : Option Token) → len < all → as_whole all (record { len = len; token = token }) ≡ None
taken_in_part len all token h = let e : (len == all) ≡ false = grind (arith, nat_tests) in ap (λ v. cond v (as_number token) None) e

token_number : (n : ℕ) → as_number (Some (number_token n)) ≡ below (2 ^ 128) n
token_number n = elim (nat_lt n (2 ^ 128)) as (λ v. as_number (Some (cond v (number n) (wrong NumberTooWide))) ≡ cond v (Some n) None) [ true ↦ refl | false ↦ refl ]

-- ---- digits at the front

all_taken : (p : ℕ → Bool) (xs : List ℕ) → list_all p xs ≡ true → take_while p xs ≡ xs
all_taken p [] all = refl
all_taken p (x ∷ xs) all =
    let q : (p x ≡ true) × (list_all p xs ≡ true) = both (p x) (list_all p xs) all in
    take_while-cons p x xs ∙ ap (λ v. cond v (x ∷ take_while p xs) []) q.0 ∙ ap (λ ys. x ∷ ys) (all_taken p xs q.1)

some_left : (p : ℕ → Bool) (xs : List ℕ) → list_all p xs ≡ false → length (take_while p xs) < length xs
some_left p [] all = absurd cc
some_left p (x ∷ xs) all =
    elim (p x) as (λ v. p x ≡ v → length (take_while p (x ∷ xs)) < length (x ∷ xs)) [
      | true ↦ λ e.
          let rest : list_all p xs ≡ false = sym (ap (λ v. v && list_all p xs) e) ∙ all in
          let cut : length (take_while p (x ∷ xs)) ≡ length (x ∷ take_while p xs) = ap length (take_while-cons p x xs ∙ ap (λ v. cond v (x ∷ take_while p xs) []) e) in
          let less = some_left p xs rest in
          omega arith
      | false ↦ λ e.
          let cut : length (take_while p (x ∷ xs)) ≡ 0 = ap length (take_while-cons p x xs ∙ ap (λ v. cond v (x ∷ take_while p xs) []) e) in
          omega arith
    ] refl

-- a list that isn't empty, whose members don't all pass
all_fail : (x : ℕ) (xs : List ℕ) (p : ℕ → Bool) → (nat_lt 0 (length (x ∷ xs)) && list_all p (x ∷ xs)) ≡ false → list_all p (x ∷ xs) ≡ false
all_fail x xs p h = let some : nat_lt 0 (length (x ∷ xs)) ≡ true = grind (arith, nat_tests) in sym (ap (λ v. v && list_all p (x ∷ xs)) some) ∙ h

-- ---- words in hexadecimal digits

abbrev hex_digits : List ℕ → List ℕ
hex_digits digits = take_while is_hex_digit digits

abbrev hex_piece : List ℕ → Piece
hex_piece digits = record { len = length (hex_digits digits) + 2; token = Some (number_token (bytes.number_of 16 (hex_digits digits))) }

-- what stands at the front of a word that begins with 0x
front : (digits : List ℕ) (v : Bool) → nat_lt 0 (length (hex_digits digits)) ≡ v → piece_at (48 ∷ 120 ∷ digits) ≡ cond v (hex_piece digits) (decimal_at (48 ∷ 120 ∷ digits))
front digits v e = ap (λ v. cond v (hex_piece digits) (decimal_at (48 ∷ 120 ∷ digits))) e

hex_whole : (digits : List ℕ) → 0 < length digits → list_all is_hex_digit digits ≡ true → number_of (48 ∷ 120 ∷ digits) ≡ below (2 ^ 128) (bytes.number_of 16 digits)
hex_whole digits some all =
    let taken : hex_digits digits ≡ digits = all_taken is_hex_digit digits all in
    let len : length (hex_digits digits) ≡ length digits = ap length taken in
    let more : nat_lt 0 (length (hex_digits digits)) ≡ true = grind (arith, nat_tests) in
    let whole : length (hex_digits digits) + 2 ≡ length (48 ∷ 120 ∷ digits) = omega arith in
    by_piece (48 ∷ 120 ∷ digits) (hex_piece digits) (front digits true more)
    ∙ taken_whole (length (hex_digits digits) + 2) (length (48 ∷ 120 ∷ digits)) (Some (number_token (bytes.number_of 16 (hex_digits digits)))) whole
    ∙ token_number (bytes.number_of 16 (hex_digits digits)) ∙ ap (λ ds. below (2 ^ 128) (bytes.number_of 16 ds)) taken

-- a word whose first piece is the digit 0 alone
zero_alone : (digits : List ℕ) → nat_lt 0 (length (hex_digits digits)) ≡ false → number_of (48 ∷ 120 ∷ digits) ≡ None
zero_alone digits none =
    let more : 1 < length (48 ∷ 120 ∷ digits) = omega arith in
    by_piece (48 ∷ 120 ∷ digits) (decimal_at (48 ∷ 120 ∷ digits)) (front digits false none) ∙ taken_in_part 1 (length (48 ∷ 120 ∷ digits)) (decimal_at (48 ∷ 120 ∷ digits)).token more

hex_part : (digits : List ℕ) → list_all is_hex_digit digits ≡ false → number_of (48 ∷ 120 ∷ digits) ≡ None
hex_part digits all =
    let left = some_left is_hex_digit digits all in
    let less : length (hex_digits digits) + 2 < length (48 ∷ 120 ∷ digits) = omega arith in
    elim (nat_lt 0 (length (hex_digits digits))) as (λ v. nat_lt 0 (length (hex_digits digits)) ≡ v → number_of (48 ∷ 120 ∷ digits) ≡ None) [
      | true ↦ λ e.
          by_piece (48 ∷ 120 ∷ digits) (hex_piece digits) (front digits true e)
          ∙ taken_in_part (length (hex_digits digits) + 2) (length (48 ∷ 120 ∷ digits)) (Some (number_token (bytes.number_of 16 (hex_digits digits)))) less
      | false ↦ λ e. zero_alone digits e
    ] refl

-- a word that begins so has its digits behind
begun : (word : List ℕ) → starts_with nat_eq word (codes "0x") ≡ true → word ≡ 48 ∷ 120 ∷ drop 2 word
begun [] h = absurd cc
begun (a ∷ []) h = let p : (nat_eq 48 a ≡ true) × (false ≡ true) = both (nat_eq 48 a) false h in absurd cc
begun (a ∷ b ∷ digits) h =
    let p : (nat_eq 48 a ≡ true) × ((nat_eq 120 b && true) ≡ true) = both (nat_eq 48 a) (nat_eq 120 b && true) h in
    let q : (nat_eq 120 b ≡ true) × (true ≡ true) = both (nat_eq 120 b) true p.1 in
    (λ i. sym (eqb-true 48 a p.0) i ∷ sym (eqb-true 120 b q.0) i ∷ digits)

pub hex_number : (word digits : List ℕ) → starts_with nat_eq word (codes "0x") ≡ true → digits ≡ drop 2 word → (nat_lt 0 (length digits) && list_all is_hex_digit digits) ≡ true → number_of word ≡ below (2 ^ 128) (bytes.number_of 16 digits)
hex_number word digits h is are =
    let p : (nat_lt 0 (length digits) ≡ true) × (list_all is_hex_digit digits ≡ true) = both (nat_lt 0 (length digits)) (list_all is_hex_digit digits) are in
    ap number_of (begun word h ∙ ap (λ ds. 48 ∷ 120 ∷ ds) (sym is)) ∙ hex_whole digits (ltb-true 0 (length digits) p.0) p.1

pub no_hex_number : (word digits : List ℕ) → starts_with nat_eq word (codes "0x") ≡ true → digits ≡ drop 2 word → (nat_lt 0 (length digits) && list_all is_hex_digit digits) ≡ false → number_of word ≡ None
no_hex_number word [] h is none = ap number_of (begun word h ∙ ap (λ ds. 48 ∷ 120 ∷ ds) (sym is)) ∙ zero_alone [] refl
no_hex_number word (d ∷ ds) h is none = ap number_of (begun word h ∙ ap (λ ds. 48 ∷ 120 ∷ ds) (sym is)) ∙ hex_part (d ∷ ds) (all_fail d ds is_hex_digit none)

-- the rest of a word, as it is sliced
pub whole_rest : (word : List ℕ) → take (length word - 2) (drop 2 word) ≡ drop 2 word
whole_rest word = let len : length (drop 2 word) ≡ length word - 2 = length-drop 2 word in take_all (length word - 2) (drop 2 word) (omega arith)

-- ---- words in decimal digits

digit_no_blank : (b : ℕ) → is_digit b ≡ true → is_blank b ≡ false
digit_no_blank b h = grind (arith, nat_tests)

digit_no_comment : (b : ℕ) → is_digit b ≡ true → (b == 35) ≡ false
digit_no_comment b h = grind (arith, nat_tests)

digit_no_letter : (b : ℕ) → is_digit b ≡ true → is_letter b ≡ false
digit_no_letter b h = grind (arith, nat_tests)

digit_front : (b : ℕ) (rest : List ℕ) → is_digit b ≡ true → starts_with nat_eq (b ∷ rest) (codes "0x") ≡ false → piece_at (b ∷ rest) ≡ decimal_at (b ∷ rest)
digit_front b rest h decimal = rw (digit_no_blank b h, digit_no_comment b h, digit_no_letter b h, h) (rw decimal refl)

word_token_number : (word : List ℕ) → as_number (Some (word_token word)) ≡ None
word_token_number word =
    elim (nat_lt max_word (length word)) as (λ v. as_number (Some (cond v (wrong NameTooLong) (cond (is_reserved word) (reserved word) (name word)))) ≡ None) [
      | true ↦ refl
      | false ↦ elim (is_reserved word) as (λ v. as_number (Some (cond v (reserved word) (name word))) ≡ None) [ true ↦ refl | false ↦ refl ]
    ]

abbrev other_piece : ℕ → Piece
other_piece b = record { len = 1; token = Some (cond (is_mark b) (mark b) (wrong Unexpected)) }

other_number : (b : ℕ) → as_number (other_piece b).token ≡ None
other_number b = elim (is_mark b) as (λ v. as_number (Some (cond v (mark b) (wrong Unexpected))) ≡ None) [ true ↦ refl | false ↦ refl ]

-- no piece without a digit at its front is a number
no_number : (b : ℕ) (rest : List ℕ) → is_digit b ≡ false → as_number (piece_at (b ∷ rest)).token ≡ None
no_number b rest none =
    elim (is_blank b) as (λ v. as_number (cond v (gap 1) (cond (b == 35) (comment_at (b ∷ rest)) (cond (is_letter b) (word_at (b ∷ rest)) (cond (is_digit b) (number_at (b ∷ rest)) (other_piece b))))).token ≡ None) [
      | true ↦ refl
      | false ↦ elim (b == 35) as (λ v. as_number (cond v (comment_at (b ∷ rest)) (cond (is_letter b) (word_at (b ∷ rest)) (cond (is_digit b) (number_at (b ∷ rest)) (other_piece b)))).token ≡ None) [
        | true ↦ refl
        | false ↦ elim (is_letter b) as (λ v. as_number (cond v (word_at (b ∷ rest)) (cond (is_digit b) (number_at (b ∷ rest)) (other_piece b))).token ≡ None) [
          | true ↦ word_token_number (take_while is_word_byte (b ∷ rest))
          | false ↦ ap (λ v. as_number (cond v (number_at (b ∷ rest)) (other_piece b)).token) none ∙ other_number b
        ]
      ]
    ]

no_whole : (word : List ℕ) → as_number (piece_at word).token ≡ None → number_of word ≡ None
unfolding number_of
no_whole word none = ap (λ (n : Option ℕ). cond {A = Option ℕ} ((piece_at word).len == length word) n None) none ∙ (elim ((piece_at word).len == length word) as (λ v. cond {A = Option ℕ} v None None ≡ None) [ true ↦ refl | false ↦ refl ])

abbrev decimal_token : List ℕ → Option Token
decimal_token word = Some (number_token (bytes.number_of 10 (take_while is_digit word)))

decimal_whole : (b : ℕ) (rest : List ℕ) → starts_with nat_eq (b ∷ rest) (codes "0x") ≡ false → list_all is_digit (b ∷ rest) ≡ true → number_of (b ∷ rest) ≡ below (2 ^ 128) (bytes.number_of 10 (b ∷ rest))
decimal_whole b rest h all =
    let digit : is_digit b ≡ true = (both (is_digit b) (list_all is_digit rest) all).0 in
    let taken : take_while is_digit (b ∷ rest) ≡ b ∷ rest = all_taken is_digit (b ∷ rest) all in
    by_piece (b ∷ rest) (decimal_at (b ∷ rest)) (digit_front b rest digit h)
    ∙ taken_whole (length (take_while is_digit (b ∷ rest))) (length (b ∷ rest)) (decimal_token (b ∷ rest)) (ap length taken)
    ∙ token_number (bytes.number_of 10 (take_while is_digit (b ∷ rest))) ∙ ap (λ ds. below (2 ^ 128) (bytes.number_of 10 ds)) taken

decimal_part : (b : ℕ) (rest : List ℕ) → starts_with nat_eq (b ∷ rest) (codes "0x") ≡ false → list_all is_digit (b ∷ rest) ≡ false → number_of (b ∷ rest) ≡ None
decimal_part b rest h all =
    elim (is_digit b) as (λ v. is_digit b ≡ v → number_of (b ∷ rest) ≡ None) [
      | true ↦ λ e.
          by_piece (b ∷ rest) (decimal_at (b ∷ rest)) (digit_front b rest e h)
          ∙ taken_in_part (length (take_while is_digit (b ∷ rest))) (length (b ∷ rest)) (decimal_token (b ∷ rest)) (some_left is_digit (b ∷ rest) all)
      | false ↦ λ e. no_whole (b ∷ rest) (no_number b rest e)
    ] refl

pub decimal_number : (word : List ℕ) → starts_with nat_eq word (codes "0x") ≡ false → (nat_lt 0 (length word) && list_all is_digit word) ≡ true → number_of word ≡ below (2 ^ 128) (bytes.number_of 10 word)
decimal_number [] h are = absurd cc
decimal_number (b ∷ rest) h are = decimal_whole b rest h (both (nat_lt 0 (length (b ∷ rest))) (list_all is_digit (b ∷ rest)) are).1

pub no_decimal_number : (word : List ℕ) → starts_with nat_eq word (codes "0x") ≡ false → (nat_lt 0 (length word) && list_all is_digit word) ≡ false → number_of word ≡ None
no_decimal_number [] h none = no_whole [] refl
no_decimal_number (b ∷ rest) h none = decimal_part b rest h (all_fail b rest is_digit none)
