-- How many bytes a piece takes.
use Rattle.std.proofs.Common.{◌≡◌, ℕ, ◌+◌, ◌-◌, ◌≤◌, ◌<◌, Bool, true, false, cond, ◌&&◌, List, [], ◌∷◌, length, drop, Option, Some, None, refl, ap, arith, length-drop}
use Rattle.std.proofs.lemmas.List.Sums.{prefix_len-le-length}
use Rattle.std.proofs.lemmas.List.Folds.{length-prefix_len}
use Rattle.std.specs.Prelude.{◌==◌, ◌||◌, not, nat_eq, nat_lt, codes}
use Rattle.std.specs.List.{prefix_len, take_while, starts_with}
use Rattle.table_text.specs.Bytes.{is_blank, is_letter, is_digit, is_hex_digit, is_word_byte, is_mark, number_of}
use Rattle.table_text.specs.Lexing.{Token, mark, wrong, Piece, gap, word_at, decimal_at, number_at, comment_at, piece_at, number_token}
use Rattle.table_text.specs.declared.fault.TextKind.TheVariants.{Unexpected}
use Rattle.std.proofs.lemmas.Bool.{eqb-true}
use borrow.Author.Tests.{ltb-true}

-- at least one byte, and no more than there are
pub record Takes (bytes : List ℕ) (piece : Piece) : Type 0 where
  pub goes_on : 1 ≤ piece.len
  pub within : piece.len ≤ length bytes

front : (p : ℕ → Bool) (b : ℕ) (bytes : List ℕ) → p b ≡ true → 1 ≤ length (take_while p (b ∷ bytes))
front p b bytes h = let e : length (take_while p (b ∷ bytes)) ≡ prefix_len p (b ∷ bytes) = length-prefix_len p (b ∷ bytes) in let one : prefix_len p (b ∷ bytes) ≡ 1 + prefix_len p bytes = ap (λ v. cond v (1 + prefix_len p bytes) 0) h in omega arith

short : (p : ℕ → Bool) (bytes : List ℕ) → length (take_while p bytes) ≤ length bytes
short p bytes = let e : length (take_while p bytes) ≡ prefix_len p bytes = length-prefix_len p bytes in let l : prefix_len p bytes ≤ length bytes = prefix_len-le-length p bytes in omega arith

by_class : (p : ℕ → Bool) (b : ℕ) (bytes : List ℕ) (t : Option Token) → p b ≡ true → Takes (b ∷ bytes) (record { len = length (take_while p (b ∷ bytes)); token = t })
by_class p b bytes t h = record { goes_on = front p b bytes h; within = short p (b ∷ bytes) }

abbrev hex_digits : List ℕ → List ℕ
hex_digits bytes = take_while is_hex_digit (drop 2 bytes)

abbrev hex_piece : List ℕ → Piece
hex_piece bytes = record { len = length (hex_digits bytes) + 2; token = Some (number_token (number_of 16 (hex_digits bytes))) }

both_true : (a b : Bool) → (a && b) ≡ true → b ≡ true
both_true true b e = e
both_true false b e = cc

hex_takes : (bytes : List ℕ) (a : Bool) → (a && nat_lt 0 (length (hex_digits bytes))) ≡ true → Takes bytes (hex_piece bytes)
hex_takes bytes a e =
    let some : 0 < length (hex_digits bytes) = ltb-true 0 _ (both_true a _ e) in
    let s : length (hex_digits bytes) ≤ length (drop 2 bytes) = short is_hex_digit (drop 2 bytes) in
    let l : length (drop 2 bytes) ≡ length bytes - 2 = length-drop 2 bytes in
    record { goes_on = omega arith; within = omega arith }

pub number_takes : (b : ℕ) (bytes : List ℕ) → is_digit b ≡ true → Takes (b ∷ bytes) (number_at (b ∷ bytes))
number_takes b bytes h =
    let test = starts_with nat_eq (b ∷ bytes) (codes "0x") && nat_lt 0 (length (hex_digits (b ∷ bytes))) in
    elim test as (λ v. test ≡ v → Takes (b ∷ bytes) (cond v (hex_piece (b ∷ bytes)) (decimal_at (b ∷ bytes)))) [
      | true ↦ λ e. hex_takes (b ∷ bytes) _ e
      | false ↦ λ e. by_class is_digit b bytes _ h
    ] refl

abbrev other_piece : ℕ → Piece
other_piece b = record { len = 1; token = Some (cond (is_mark b) (mark b) (wrong Unexpected)) }

one : (b : ℕ) (bytes : List ℕ) (t : Option Token) → Takes (b ∷ bytes) (record { len = 1; token = t })
one b bytes t = record { goes_on = omega arith; within = omega arith }

not_break : (b : ℕ) → (b == 35) ≡ true → not (b == 10) ≡ true
not_break b e = ap (λ c. not (c == 10)) (eqb-true b 35 e)

word_byte : (b : ℕ) → is_letter b ≡ true → is_word_byte b ≡ true
word_byte b e = ap (λ v. v || is_digit b || b == 95) e

pub takes : (b : ℕ) (bytes : List ℕ) → Takes (b ∷ bytes) (piece_at (b ∷ bytes))
takes b bytes =
    elim (is_blank b) as (λ v. Takes (b ∷ bytes) (cond v (gap 1) (cond (b == 35) (comment_at (b ∷ bytes)) (cond (is_letter b) (word_at (b ∷ bytes)) (cond (is_digit b) (number_at (b ∷ bytes)) (other_piece b)))))) [
      | true ↦ one b bytes None
      | false ↦ elim (b == 35) as (λ v. (b == 35) ≡ v → Takes (b ∷ bytes) (cond v (comment_at (b ∷ bytes)) (cond (is_letter b) (word_at (b ∷ bytes)) (cond (is_digit b) (number_at (b ∷ bytes)) (other_piece b))))) [
        | true ↦ λ e. by_class (λ c. not (c == 10)) b bytes None (not_break b e)
        | false ↦ λ _. elim (is_letter b) as (λ v. is_letter b ≡ v → Takes (b ∷ bytes) (cond v (word_at (b ∷ bytes)) (cond (is_digit b) (number_at (b ∷ bytes)) (other_piece b)))) [
          | true ↦ λ e. by_class is_word_byte b bytes _ (word_byte b e)
          | false ↦ λ _. elim (is_digit b) as (λ v. is_digit b ≡ v → Takes (b ∷ bytes) (cond v (number_at (b ∷ bytes)) (other_piece b))) [
            | true ↦ λ e. number_takes b bytes e
            | false ↦ λ _. one b bytes _
          ] refl
        ] refl
      ] refl
    ]

pub piece_at_bounds : (bytes : List ℕ) → 0 < length bytes → (1 ≤ (piece_at bytes).len) × ((piece_at bytes).len ≤ length bytes)
piece_at_bounds [] h = absurd (omega arith)
piece_at_bounds (b ∷ bytes) h = ((takes b bytes).goes_on, (takes b bytes).within)
