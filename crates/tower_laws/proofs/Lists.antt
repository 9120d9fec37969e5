-- Sums and products of the numbers of lists, and numbers of a level.
use Rattle.std.proofs.Common.{◌≡◌, ℕ, zero, suc, ◌<◌, ◌^◌, max, List, [], ◌∷◌, ◌++◌, map, length, get_or, bit_xor, refl, sym, ◌∙◌, ap, arith}
use Rattle.std.specs.Int.Bits.{xor_assoc}
use Rattle.std.proofs.lemmas.Nat.{xor_lt}
use Rattle.tower_laws.specs.Tower.{mul}
use Rattle.tower_laws.specs.Lists.{sum_all, product_all, sums, AllFit}
use Rattle.tower_laws.proofs.Field.{identity, field_terms}
use Rattle.tower_laws.proofs.Levels.{field_assoc, field_one, mul_lt, one_lt_size, size_pos}
use Rattle.tower_laws.proofs.Rules.{plus_zero, times_zero}

-- ---- joined lists
pub sum_all-append : (xs ys : List ℕ) → sum_all (xs ++ ys) ≡ bit_xor (sum_all xs) (sum_all ys)
sum_all-append [] ys = refl
sum_all-append (x ∷ xs) ys = ap (bit_xor x) (sum_all-append xs ys) ∙ sym (xor_assoc x (sum_all xs) (sum_all ys))

pub product_all-append : (xs ys : List ℕ) → product_all (xs ++ ys) ≡ mul (product_all xs) (product_all ys)
product_all-append [] ys = sym (field_one (product_all ys))
product_all-append (x ∷ xs) ys = ap (mul x) (product_all-append xs ys) ∙ sym (field_assoc x (product_all xs) (product_all ys))

-- ---- place by place
right_zero : (a : ℕ) → a ≡ bit_xor a 0
right_zero a = sym (plus_zero a)

pub get_or-sums : (xs ys : List ℕ) (k : ℕ) → get_or (sums xs ys) k 0 ≡ bit_xor (get_or xs k 0) (get_or ys k 0)
get_or-sums [] ys k = identity (get_or ys k 0 ∷ []) (search field_terms depth 60 fits 20000) refl
get_or-sums (x ∷ xs) [] k = right_zero (get_or (x ∷ xs) k 0)
get_or-sums (x ∷ xs) (y ∷ ys) zero = refl
get_or-sums (x ∷ xs) (y ∷ ys) (suc k) = get_or-sums xs ys k

pub get_or-scaled : (c k : ℕ) (xs : List ℕ) → get_or (map (mul c) xs) k 0 ≡ mul c (get_or xs k 0)
get_or-scaled c k [] = times_zero c
get_or-scaled c zero (x ∷ xs) = refl
get_or-scaled c (suc k) (x ∷ xs) = get_or-scaled c k xs

pub length-sums : (xs ys : List ℕ) → length (sums xs ys) ≡ max (length xs) (length ys)
length-sums [] ys = omega arith
length-sums (x ∷ xs) [] = omega arith
length-sums (x ∷ xs) (y ∷ ys) = let h = length-sums xs ys in omega arith

-- ---- numbers of a level
pub xor_fits : (i a b : ℕ) → a < 2 ^ (2 ^ i) → b < 2 ^ (2 ^ i) → bit_xor a b < 2 ^ (2 ^ i)
xor_fits i a b h k = xor_lt (2 ^ i) a b h k

pub get_or_fits : (i k : ℕ) (xs : List ℕ) → AllFit i xs → get_or xs k 0 < 2 ^ (2 ^ i)
get_or_fits i k [] h = size_pos i
get_or_fits i zero (x ∷ xs) h = h.0
get_or_fits i (suc k) (x ∷ xs) h = get_or_fits i k xs h.1

pub all_fit-append : (i : ℕ) (xs ys : List ℕ) → AllFit i xs → AllFit i ys → AllFit i (xs ++ ys)
all_fit-append i [] ys h k = k
all_fit-append i (x ∷ xs) ys h k = (h.0, all_fit-append i xs ys h.1 k)

pub all_fit-sums : (i : ℕ) (xs ys : List ℕ) → AllFit i xs → AllFit i ys → AllFit i (sums xs ys)
all_fit-sums i [] ys h k = k
all_fit-sums i (x ∷ xs) [] h k = h
all_fit-sums i (x ∷ xs) (y ∷ ys) h k = (xor_fits i x y h.0 k.0, all_fit-sums i xs ys h.1 k.1)

pub all_fit-scaled : (i c : ℕ) (xs : List ℕ) → c < 2 ^ (2 ^ i) → AllFit i xs → AllFit i (map (mul c) xs)
all_fit-scaled i c [] l h = tt
all_fit-scaled i c (x ∷ xs) l h = (mul_lt i c x l h.0, all_fit-scaled i c xs l h.1)

pub sum_all_fits : (i : ℕ) (xs : List ℕ) → AllFit i xs → sum_all xs < 2 ^ (2 ^ i)
sum_all_fits i [] h = size_pos i
sum_all_fits i (x ∷ xs) h = xor_fits i x (sum_all xs) h.0 (sum_all_fits i xs h.1)

pub product_all_fits : (i : ℕ) (xs : List ℕ) → AllFit i xs → product_all xs < 2 ^ (2 ^ i)
product_all_fits i [] h = one_lt_size i
product_all_fits i (x ∷ xs) h = mul_lt i x (product_all xs) h.0 (product_all_fits i xs h.1)
