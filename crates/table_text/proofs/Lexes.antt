-- The tokens of texts that are put together.
use Rattle.std.proofs.Common.{◌≡◌, ℕ, zero, suc, ◌+◌, ◌-◌, ◌*◌, ◌/◌, ◌%◌, ◌^◌, ◌<◌, ◌≤◌, Bool, true, false, cond, ◌&&◌, List, [], ◌∷◌, ◌++◌, length, map, Option, Some, None, refl, sym, ◌∙◌, ap, append_assoc, arith, lt-ltb, length-append, lit<, zero-add}
use Rattle.std.proofs.lemmas.Bool.Decides.{nat_tests}
use Rattle.std.proofs.lemmas.List.Sums.{take_while-cons}
use Rattle.std.proofs.lemmas.Fmt.{decimal_by_steps_wide}
use Rattle.std.specs.Prelude.{◌==◌, ◌||◌, nat_eq, nat_le, fold, codes}
use Rattle.std.specs.List.{list_all, take_while, starts_with}
use Rattle.std.specs.Fmt.{decimal}
use Rattle.table_text.specs.Bytes.{is_blank, is_text, is_letter, is_digit, is_word_byte, digit_value, number_of}
use Rattle.table_text.specs.Lexing.{Token, number, wrong, Spot, Piece, spot_at, spots_from, word_token, number_token, word_at, decimal_at, piece_at}
use Rattle.table_text.specs.declared.fault.TextKind.TheVariants.{NumberTooWide}
use Rattle.table_text.proofs.FromTests.{both}

-- ---- tokens without their places

abbrev pub token_list : Option Token → List Token
token_list None = []
token_list (Some t) = t ∷ []

-- the tokens of bytes, of which the first ones, skip of them, are the rest of a piece
unfoldable pub lexed : ℕ → List ℕ → List Token
lexed skip [] = []
lexed (suc skip) (b ∷ bytes) = lexed skip bytes
lexed zero (b ∷ bytes) = token_list (piece_at (b ∷ bytes)).token ++ lexed ((piece_at (b ∷ bytes)).len - 1) bytes

abbrev pub tokens_of : List Spot → List Token
tokens_of all = map (λ s. s.token) all

map-append_tokens : (xs ys : List Spot) → tokens_of (xs ++ ys) ≡ tokens_of xs ++ tokens_of ys
map-append_tokens [] ys = refl
map-append_tokens (x ∷ xs) ys = ap (λ ts. x.token ∷ ts) (map-append_tokens xs ys)

spot_tokens : (place : ℕ) (t : Option Token) → tokens_of (spot_at place t) ≡ token_list t
spot_tokens place None = refl
spot_tokens place (Some t) = refl

pub lexed-spots : (place skip : ℕ) (bytes : List ℕ) → tokens_of (spots_from place skip bytes) ≡ lexed skip bytes
unfolding spots_from lexed
lexed-spots place skip [] = refl
lexed-spots place (suc skip) (b ∷ bytes) = lexed-spots (place + 1) skip bytes
lexed-spots place zero (b ∷ bytes) =
    let p : Piece = piece_at (b ∷ bytes) in
    map-append_tokens (spot_at place p.token) (spots_from (place + 1) (p.len - 1) bytes)
    ∙ ap (λ ts. ts ++ tokens_of (spots_from (place + 1) (p.len - 1) bytes)) (spot_tokens place p.token)
    ∙ ap (λ ts. token_list p.token ++ ts) (lexed-spots (place + 1) (p.len - 1) bytes)

pub lexed-skip : (xs ys : List ℕ) → lexed (length xs) (xs ++ ys) ≡ lexed 0 ys
unfolding lexed
lexed-skip [] ys = refl
lexed-skip (x ∷ xs) ys = lexed-skip xs ys

-- a piece at the front of bytes
piece_first : (b : ℕ) (xs ys : List ℕ) (t : Token) → piece_at (b ∷ (xs ++ ys)) ≡ record { len = suc (length xs); token = Some t } → lexed 0 (b ∷ (xs ++ ys)) ≡ t ∷ lexed 0 ys
unfolding lexed
piece_first b xs ys t e =
    ap (λ (p : Piece). token_list p.token ++ lexed (p.len - 1) (xs ++ ys)) e ∙ ap (λ n. t ∷ lexed n (xs ++ ys)) (let z : suc (length xs) - 1 ≡ length xs = omega arith in z) ∙ ap (λ ts. t ∷ ts) (lexed-skip xs ys)

-- ---- bytes

letter_no_blank : (b : ℕ) → is_letter b ≡ true → is_blank b ≡ false
letter_no_blank b h = grind (arith, nat_tests)

letter_no_comment : (b : ℕ) → is_letter b ≡ true → (b == 35) ≡ false
letter_no_comment b h = grind (arith, nat_tests)

letter_in_word : (b : ℕ) → is_letter b ≡ true → is_word_byte b ≡ true
letter_in_word b h = ap (λ v. v || is_digit b || b == 95) h

digit_no_blank : (b : ℕ) → is_digit b ≡ true → is_blank b ≡ false
digit_no_blank b h = grind (arith, nat_tests)

digit_no_comment : (b : ℕ) → is_digit b ≡ true → (b == 35) ≡ false
digit_no_comment b h = grind (arith, nat_tests)

digit_no_letter : (b : ℕ) → is_digit b ≡ true → is_letter b ≡ false
digit_no_letter b h = grind (arith, nat_tests)

no_word_no_digit : (b : ℕ) → is_word_byte b ≡ false → is_digit b ≡ false
no_word_no_digit b h = grind (arith, nat_tests)

digit_no_x : (b : ℕ) → is_digit b ≡ true → nat_eq 120 b ≡ false
digit_no_x b h = grind (arith, nat_tests)

no_word_no_x : (b : ℕ) → is_word_byte b ≡ false → nat_eq 120 b ≡ false
no_word_no_x b h = grind (arith, nat_tests)

-- ---- words

-- whether neither a word nor a number goes on with these bytes
abbrev pub breaks : List ℕ → Bool
breaks [] = true
breaks (b ∷ bytes) = cond (is_word_byte b) false true

breaks_first : (b : ℕ) (bytes : List ℕ) → breaks (b ∷ bytes) ≡ true → is_word_byte b ≡ false
breaks_first b bytes h = elim (is_word_byte b) as (λ v. cond v false true ≡ true → v ≡ false) [ true ↦ λ e. cc | false ↦ λ e. refl ] h

word_taken : (xs rest : List ℕ) → list_all is_word_byte xs ≡ true → breaks rest ≡ true → take_while is_word_byte (xs ++ rest) ≡ xs
word_taken [] [] all h = refl
word_taken [] (b ∷ rest) all h = take_while-cons is_word_byte b rest ∙ ap (λ v. cond v (b ∷ take_while is_word_byte rest) []) (breaks_first b rest h)
word_taken (x ∷ xs) rest all h =
    let p : (is_word_byte x ≡ true) × (list_all is_word_byte xs ≡ true) = both (is_word_byte x) (list_all is_word_byte xs) all in
    take_while-cons is_word_byte x (xs ++ rest) ∙ ap (λ v. cond v (x ∷ take_while is_word_byte (xs ++ rest)) []) p.0 ∙ ap (λ ys. x ∷ ys) (word_taken xs rest p.1 h)

letter_piece : (b : ℕ) (bytes : List ℕ) → is_letter b ≡ true → piece_at (b ∷ bytes) ≡ word_at (b ∷ bytes)
letter_piece b bytes h = rw (letter_no_blank b h, letter_no_comment b h, h) refl

-- ---- numbers

digits_taken : (xs rest : List ℕ) → list_all is_digit xs ≡ true → breaks rest ≡ true → take_while is_digit (xs ++ rest) ≡ xs
digits_taken [] [] all h = refl
digits_taken [] (b ∷ rest) all h = take_while-cons is_digit b rest ∙ ap (λ v. cond v (b ∷ take_while is_digit rest) []) (no_word_no_digit b (breaks_first b rest h))
digits_taken (x ∷ xs) rest all h =
    let p : (is_digit x ≡ true) × (list_all is_digit xs ≡ true) = both (is_digit x) (list_all is_digit xs) all in
    take_while-cons is_digit x (xs ++ rest) ∙ ap (λ v. cond v (x ∷ take_while is_digit (xs ++ rest)) []) p.0 ∙ ap (λ ys. x ∷ ys) (digits_taken xs rest p.1 h)

second_fails : (a b : Bool) → b ≡ false → (a && (b && true)) ≡ false
second_fails true b h = ap (λ v. v && true) h
second_fails false b h = refl

-- no `x` stands behind the first digit
no_hex : (b : ℕ) (xs rest : List ℕ) → list_all is_digit xs ≡ true → breaks rest ≡ true → starts_with nat_eq (b ∷ (xs ++ rest)) (codes "0x") ≡ false
no_hex b [] [] all h = elim (nat_eq 48 b) as (λ v. (v && false) ≡ false) [ true ↦ refl | false ↦ refl ]
no_hex b [] (c ∷ rest) all h = second_fails (nat_eq 48 b) (nat_eq 120 c) (no_word_no_x c (breaks_first c rest h))
no_hex b (x ∷ xs) rest all h = second_fails (nat_eq 48 b) (nat_eq 120 x) (digit_no_x x (both (is_digit x) (list_all is_digit xs) all).0)

digit_piece : (b : ℕ) (bytes : List ℕ) → is_digit b ≡ true → starts_with nat_eq (b ∷ bytes) (codes "0x") ≡ false → piece_at (b ∷ bytes) ≡ decimal_at (b ∷ bytes)
digit_piece b bytes h decimal = rw (digit_no_blank b h, digit_no_comment b h, digit_no_letter b h, h) (rw decimal refl)

all-append : (p : ℕ → Bool) (xs ys : List ℕ) → list_all p xs ≡ true → list_all p ys ≡ true → list_all p (xs ++ ys) ≡ true
all-append p [] ys a b = b
all-append p (x ∷ xs) ys a b = let q : (p x ≡ true) × (list_all p xs ≡ true) = both (p x) (list_all p xs) a in ap (λ v. v && list_all p (xs ++ ys)) q.0 ∙ all-append p xs ys q.1 b

letter_is_text : (b : ℕ) → is_letter b ≡ true → is_text b ≡ true
letter_is_text b h = grind (arith, nat_tests)

digit_is_text : (b : ℕ) → is_digit b ≡ true → is_text b ≡ true
digit_is_text b h = grind (arith, nat_tests)

word_is_text : (b : ℕ) → is_word_byte b ≡ true → is_text b ≡ true
word_is_text b h = grind (arith, nat_tests)

all_weaker : (p q : ℕ → Bool) → ((b : ℕ) → p b ≡ true → q b ≡ true) → (bytes : List ℕ) → list_all p bytes ≡ true → list_all q bytes ≡ true
all_weaker p q h [] all = refl
all_weaker p q h (b ∷ bytes) all = let r : (p b ≡ true) × (list_all p bytes ≡ true) = both (p b) (list_all p bytes) all in ap (λ v. v && list_all q bytes) (h b r.0) ∙ all_weaker p q h bytes r.1

-- ---- texts and their tokens

-- a text whose tokens are these where a word or a number doesn't go on behind it
pub record Reads (text : List ℕ) (tokens : List Token) : Type 0 where
  pub on : (rest : List ℕ) → breaks rest ≡ true → lexed 0 (text ++ rest) ≡ tokens ++ lexed 0 rest
  pub bytes : list_all is_text text ≡ true

-- a text whose tokens are these whatever stands behind it
pub record Ends (text : List ℕ) (tokens : List Token) : Type 0 where
  pub on : (rest : List ℕ) → lexed 0 (text ++ rest) ≡ tokens ++ lexed 0 rest
  pub bytes : list_all is_text text ≡ true

pub reads_word : (b : ℕ) (bytes : List ℕ) → is_letter b ≡ true → list_all is_word_byte bytes ≡ true → Reads (b ∷ bytes) (word_token (b ∷ bytes) ∷ [])
reads_word b bytes letter all = record {
  on = λ rest h.
      let taken : take_while is_word_byte (b ∷ (bytes ++ rest)) ≡ b ∷ bytes =
      take_while-cons is_word_byte b (bytes ++ rest) ∙ ap (λ v. cond v (b ∷ take_while is_word_byte (bytes ++ rest)) []) (letter_in_word b letter) ∙ ap (λ ys. b ∷ ys) (word_taken bytes rest all h) in
      let piece : List ℕ → Piece = λ w. record { len = length w; token = Some (word_token w) } in
      piece_first b bytes rest (word_token (b ∷ bytes)) (letter_piece b (bytes ++ rest) letter ∙ ap piece taken);
  bytes = ap (λ v. v && list_all is_text bytes) (letter_is_text b letter) ∙ all_weaker is_word_byte is_text word_is_text bytes all;
}

reads_digits : (b n : ℕ) (bytes : List ℕ) → is_digit b ≡ true → list_all is_digit bytes ≡ true → number_of 10 (b ∷ bytes) ≡ n → n < 2 ^ 128 → Reads (b ∷ bytes) (number n ∷ [])
reads_digits b n bytes digit all is fits = record {
  on = λ rest h.
      let taken : take_while is_digit (b ∷ (bytes ++ rest)) ≡ b ∷ bytes =
      take_while-cons is_digit b (bytes ++ rest) ∙ ap (λ v. cond v (b ∷ take_while is_digit (bytes ++ rest)) []) digit ∙ ap (λ ys. b ∷ ys) (digits_taken bytes rest all h) in
      let piece : List ℕ → Piece = λ w. record { len = length w; token = Some (number_token (number_of 10 w)) } in
      let same : number_token (number_of 10 (b ∷ bytes)) ≡ number n = ap number_token is ∙ number_token-fits n fits in
      piece_first b bytes rest (number n)
      (digit_piece b (bytes ++ rest) digit (no_hex b bytes rest all h) ∙ ap piece taken ∙ ap (λ t. record { len = suc (length bytes); token = Some t }) same);
  bytes = ap (λ v. v && list_all is_text bytes) (digit_is_text b digit) ∙ all_weaker is_digit is_text digit_is_text bytes all;
}
  where
    number_token-fits : (n : ℕ) → n < 2 ^ 128 → number_token n ≡ number n
    number_token-fits n h = ap (λ v. cond v (number n) (wrong NumberTooWide)) (lt-ltb n (2 ^ 128) h)

-- ---- numbers

-- the digits of a number
record Spells (n : ℕ) (ds : List ℕ) : Type 0 where
  digits : list_all is_digit ds ≡ true
  some : 0 < length ds
  value : number_of 10 ds ≡ n

digit_is : (n : ℕ) → n < 10 → is_digit (48 + n) ≡ true
digit_is n h = grind (arith, nat_tests)

digit_value_is : (n : ℕ) → n < 10 → digit_value (48 + n) ≡ n
digit_value_is n h = ap (λ v. cond v (48 + n - 48) (cond (nat_le 97 (48 + n)) (48 + n - 87) (48 + n - 55))) (digit_is n h) ∙ omega arith

fold-snoc : (f : ℕ → ℕ → ℕ) (a x : ℕ) (xs : List ℕ) → fold f a (xs ++ x ∷ []) ≡ f (fold f a xs) x
fold-snoc f a x [] = refl
fold-snoc f a x (y ∷ xs) = fold-snoc f (f a y) x xs

spells_one : (n : ℕ) → n < 10 → Spells n ((48 + n) ∷ [])
spells_one n h = record { digits = ap (λ v. v && true) (digit_is n h); some = omega arith; value = zero-add (digit_value (48 + n)) ∙ digit_value_is n h }

spells_more : (n : ℕ) (ds : List ℕ) → 10 ≤ n → Spells (n / 10) ds → Spells n (ds ++ (48 + n % 10) ∷ [])
spells_more n ds h s =
    let low : n % 10 < 10 = omega arith in
    record {
      digits = all-append is_digit ds ((48 + n % 10) ∷ []) s.digits (ap (λ v. v && true) (digit_is (n % 10) low));
      some = omega (arith, length-append ds ((48 + n % 10) ∷ []));
      value = fold-snoc (λ m b. m * 10 + digit_value b) 0 (48 + n % 10) ds ∙ ap (λ m. m * 10 + digit_value (48 + n % 10)) s.value ∙ ap (λ m. n / 10 * 10 + m) (digit_value_is (n % 10) low) ∙ omega arith;
    }

spells_decimal : (n : ℕ) → n < 2 ^ 128 → Spells n (decimal n)
spells_decimal n h = decimal_by_steps_wide Spells spells_one spells_more n (omega (arith, h, pow_bound))
  where
    pow_bound : 2 ^ 128 < 10 ^ 64
    pow_bound = lit< tt

reads_spelled : (n : ℕ) (ds : List ℕ) → n < 2 ^ 128 → Spells n ds → Reads ds (number n ∷ [])
reads_spelled n [] h s = absurd (let z : 0 < 0 = s.some in omega arith)
reads_spelled n (d ∷ ds) h s = let q : (is_digit d ≡ true) × (list_all is_digit ds ≡ true) = both (is_digit d) (list_all is_digit ds) s.digits in reads_digits d n ds q.0 q.1 s.value h

pub reads_number : (n : ℕ) → n < 2 ^ 128 → Reads (decimal n) (number n ∷ [])
reads_number n h = reads_spelled n (decimal n) h (spells_decimal n h)

-- ---- texts that are put together

pub ends_then : (a b : List ℕ) (x y : List Token) → Ends a x → Reads b y → Reads (a ++ b) (x ++ y)
ends_then a b x y e r = record { on = λ rest h. ap (lexed 0) (append_assoc a b rest) ∙ e.on (b ++ rest) ∙ ap (λ ts. x ++ ts) (r.on rest h) ∙ sym (append_assoc x y (lexed 0 rest)); bytes = all-append is_text a b e.bytes r.bytes }

pub ends_both : (a b : List ℕ) (x y : List Token) → Ends a x → Ends b y → Ends (a ++ b) (x ++ y)
ends_both a b x y e r = record { on = λ rest. ap (lexed 0) (append_assoc a b rest) ∙ e.on (b ++ rest) ∙ ap (λ ts. x ++ ts) (r.on rest) ∙ sym (append_assoc x y (lexed 0 rest)); bytes = all-append is_text a b e.bytes r.bytes }

pub reads_both : (a b : List ℕ) (x y : List Token) → Reads a x → Reads b y → ((rest : List ℕ) → breaks rest ≡ true → breaks (b ++ rest) ≡ true) → Reads (a ++ b) (x ++ y)
reads_both a b x y e r breaking = record { on = λ rest h. ap (lexed 0) (append_assoc a b rest) ∙ e.on (b ++ rest) (breaking rest h) ∙ ap (λ ts. x ++ ts) (r.on rest h) ∙ sym (append_assoc x y (lexed 0 rest)); bytes = all-append is_text a b e.bytes r.bytes }

pub reads_end : (a b : List ℕ) (x y : List Token) → Reads a x → Ends b y → ((rest : List ℕ) → breaks (b ++ rest) ≡ true) → Ends (a ++ b) (x ++ y)
reads_end a b x y e r breaking = record { on = λ rest. ap (lexed 0) (append_assoc a b rest) ∙ e.on (b ++ rest) (breaking rest) ∙ ap (λ ts. x ++ ts) (r.on rest) ∙ sym (append_assoc x y (lexed 0 rest)); bytes = all-append is_text a b e.bytes r.bytes }

pub reads_none : Reads [] []
reads_none = record { on = λ rest h. refl; bytes = refl }

pub ends_none : Ends [] []
ends_none = record { on = λ rest. refl; bytes = refl }

pub reads_of : (a : List ℕ) (x : List Token) → Ends a x → Reads a x
reads_of a x e = record { on = λ rest h. e.on rest; bytes = e.bytes }
