-- The names and numbers of a text are names and numbers.
use Rattle.std.proofs.Common.{◌≡◌, ℕ, zero, suc, ◌+◌, ◌-◌, ◌^◌, Bool, true, false, cond, ◌&&◌, List, [], ◌∷◌, ◌++◌, length, drop, Some, refl, ◌∙◌, ap, arith}
use Rattle.std.proofs.lemmas.Bool.Decides.{nat_tests}
use Rattle.std.proofs.lemmas.List.Sums.{take_while-cons}
use Rattle.std.specs.Prelude.{◌==◌, ◌||◌, not, nat_eq, nat_lt, nat_le, codes}
use Rattle.std.specs.List.{list_all, take_while, starts_with}
use Rattle.table_text.specs.Bytes.{is_blank, is_letter, is_digit, is_hex_digit, is_word_byte, is_mark, number_of}
use Rattle.table_text.specs.Limits.{max_word}
use Rattle.table_text.specs.Lexing.{Token, name, reserved, number, mark, wrong, Piece, gap, is_reserved, word_token, number_token, word_at, decimal_at, number_at, comment_at, piece_at}
use Rattle.table_text.specs.Valid.{is_name, is_number}
use Rattle.table_text.specs.declared.fault.TextKind.TheVariants.{Unexpected, NameTooLong, NumberTooWide}
use Rattle.table_text.proofs.FromTests.{both}
use Rattle.table_text.proofs.Lexes.{token_list, lexed}

abbrev pub is_proper : Token → Bool
is_proper (name w) = is_name w
is_proper (reserved w) = true
is_proper (number n) = is_number n
is_proper (mark b) = true
is_proper (wrong kind) = true

abbrev pub Proper : List Token → Type 0
Proper tokens = list_all is_proper tokens ≡ true

pub all_split : {X : Type 0} (p : X → Bool) (xs ys : List X) → list_all p (xs ++ ys) ≡ true → (list_all p xs ≡ true) × (list_all p ys ≡ true)
all_split p [] ys h = (refl, h)
all_split p (x ∷ xs) ys h =
    let q : (p x ≡ true) × (list_all p (xs ++ ys) ≡ true) = both (p x) (list_all p (xs ++ ys)) h in
    let r : (list_all p xs ≡ true) × (list_all p ys ≡ true) = all_split p xs ys q.1 in
    (ap (λ v. v && list_all p xs) q.0 ∙ r.0, r.1)

pub all_joined : {X : Type 0} (p : X → Bool) (xs ys : List X) → list_all p xs ≡ true → list_all p ys ≡ true → list_all p (xs ++ ys) ≡ true
all_joined p [] ys a b = b
all_joined p (x ∷ xs) ys a b = let q : (p x ≡ true) × (list_all p xs ≡ true) = both (p x) (list_all p xs) a in ap (λ v. v && list_all p (xs ++ ys)) q.0 ∙ all_joined p xs ys q.1 b

-- ---- words

all_taken_at : (p : ℕ → Bool) (x : ℕ) (ys : List ℕ) (b : Bool) → p x ≡ b → list_all p ys ≡ true → list_all p (cond b (x ∷ ys) []) ≡ true
all_taken_at p x ys true e h = ap (λ v. v && list_all p ys) e ∙ h
all_taken_at p x ys false e h = refl

all_taken : (p : ℕ → Bool) (xs : List ℕ) → list_all p (take_while p xs) ≡ true
all_taken p [] = refl
all_taken p (x ∷ xs) = ap (list_all p) (take_while-cons p x xs) ∙ all_taken_at p x (take_while p xs) (p x) refl (all_taken p xs)

letter_in_word : (b : ℕ) → is_letter b ≡ true → is_word_byte b ≡ true
letter_in_word b h = ap (λ v. v || is_digit b || b == 95) h

not_above : (n m : ℕ) → nat_lt m n ≡ false → nat_le n m ≡ true
not_above n m h = grind (arith, nat_tests)

four_true : (a b c d : Bool) → a ≡ true → b ≡ true → c ≡ true → d ≡ true → (a && b && c && d) ≡ true
four_true a b c d e f g h = rw (e, f, g, h) refl

word_proper : (b : ℕ) (rest : List ℕ) → is_letter b ≡ true → list_all is_word_byte rest ≡ true → is_proper (word_token (b ∷ rest)) ≡ true
word_proper b rest letter all = by_length (nat_lt max_word (length (b ∷ rest))) refl
  where
    by_word : (r : Bool) → is_reserved (b ∷ rest) ≡ r → nat_lt max_word (length (b ∷ rest)) ≡ false → is_proper (cond r (reserved (b ∷ rest)) (name (b ∷ rest))) ≡ true
    by_word true e short = refl
    by_word false e short =
        let fits : nat_le (1 + length rest) max_word ≡ true = ap (λ n. nat_le n max_word) (let z : 1 + length rest ≡ length (b ∷ rest) = omega arith in z) ∙ not_above (length (b ∷ rest)) max_word short in
        four_true (is_letter b) (list_all is_word_byte rest) (nat_le (1 + length rest) max_word) (not (is_reserved (b ∷ rest))) letter all fits (ap not e)

    by_length : (v : Bool) → nat_lt max_word (length (b ∷ rest)) ≡ v → is_proper (cond v (wrong NameTooLong) (cond (is_reserved (b ∷ rest)) (reserved (b ∷ rest)) (name (b ∷ rest)))) ≡ true
    by_length true e = refl
    by_length false e = by_word (is_reserved (b ∷ rest)) refl e

number_proper : (n : ℕ) → is_proper (number_token n) ≡ true
number_proper n = at (nat_lt n (2 ^ 128)) refl
  where
    at : (v : Bool) → nat_lt n (2 ^ 128) ≡ v → is_proper (cond v (number n) (wrong NumberTooWide)) ≡ true
    at true e = e
    at false e = refl

-- ---- pieces

abbrev ProperPiece : Piece → Type 0
ProperPiece p = Proper (token_list p.token)

one_proper : (t : Token) → is_proper t ≡ true → Proper (t ∷ [])
one_proper t h = ap (λ v. v && true) h

word_piece : (b : ℕ) (bytes : List ℕ) → is_letter b ≡ true → ProperPiece (word_at (b ∷ bytes))
word_piece b bytes letter =
    let taken : take_while is_word_byte (b ∷ bytes) ≡ b ∷ take_while is_word_byte bytes = take_while-cons is_word_byte b bytes ∙ ap (λ v. cond v (b ∷ take_while is_word_byte bytes) []) (letter_in_word b letter) in
    one_proper (word_token (take_while is_word_byte (b ∷ bytes))) (ap (λ w. is_proper (word_token w)) taken ∙ word_proper b (take_while is_word_byte bytes) letter (all_taken is_word_byte bytes))

number_piece : (bytes : List ℕ) → ProperPiece (number_at bytes)
number_piece bytes =
    let digits : List ℕ = take_while is_hex_digit (drop 2 bytes) in
    elim (starts_with nat_eq bytes (codes "0x") && nat_lt 0 (length digits)) as (λ v. ProperPiece (cond v (record { len = length digits + 2; token = Some (number_token (number_of 16 digits)) }) (decimal_at bytes))) [
      | true ↦ one_proper (number_token (number_of 16 digits)) (number_proper (number_of 16 digits))
      | false ↦ one_proper (number_token (number_of 10 (take_while is_digit bytes))) (number_proper (number_of 10 (take_while is_digit bytes)))
    ]

mark_piece : (b : ℕ) → is_proper (cond (is_mark b) (mark b) (wrong Unexpected)) ≡ true
mark_piece b = elim (is_mark b) as (λ v. is_proper (cond v (mark b) (wrong Unexpected)) ≡ true) [ true ↦ refl | false ↦ refl ]

abbrev other_piece : ℕ → Piece
other_piece b = record { len = 1; token = Some (cond (is_mark b) (mark b) (wrong Unexpected)) }

piece_proper : (b : ℕ) (bytes : List ℕ) → ProperPiece (piece_at (b ∷ bytes))
piece_proper b bytes =
    elim (is_blank b) as (λ v. ProperPiece (cond v (gap 1) (cond (b == 35) (comment_at (b ∷ bytes)) (cond (is_letter b) (word_at (b ∷ bytes)) (cond (is_digit b) (number_at (b ∷ bytes)) (other_piece b)))))) [
      | true ↦ refl
      | false ↦ elim (b == 35) as (λ v. ProperPiece (cond v (comment_at (b ∷ bytes)) (cond (is_letter b) (word_at (b ∷ bytes)) (cond (is_digit b) (number_at (b ∷ bytes)) (other_piece b))))) [
        | true ↦ refl
        | false ↦ elim (is_letter b) as (λ v. is_letter b ≡ v → ProperPiece (cond v (word_at (b ∷ bytes)) (cond (is_digit b) (number_at (b ∷ bytes)) (other_piece b)))) [
          | true ↦ λ e. word_piece b bytes e
          | false ↦ λ _. elim (is_digit b) as (λ v. ProperPiece (cond v (number_at (b ∷ bytes)) (other_piece b))) [ true ↦ number_piece (b ∷ bytes) | false ↦ one_proper (cond (is_mark b) (mark b) (wrong Unexpected)) (mark_piece b) ]
        ] refl
      ]
    ]

pub lexed_proper : (skip : ℕ) (bytes : List ℕ) → Proper (lexed skip bytes)
unfolding lexed
lexed_proper skip [] = refl
lexed_proper (suc skip) (b ∷ bytes) = lexed_proper skip bytes
lexed_proper zero (b ∷ bytes) =
    all_joined is_proper (token_list (piece_at (b ∷ bytes)).token) (lexed ((piece_at (b ∷ bytes)).len - 1) bytes) (piece_proper b bytes) (lexed_proper ((piece_at (b ∷ bytes)).len - 1) bytes)
