-- Values joined by the powers of one number.
use Rattle.std.proofs.Common.{◌≡◌, ℕ, ◌<◌, ◌-◌, ◌^◌, List, [], ◌∷◌, map, length, bit_xor, refl, arith}
use Rattle.tower_laws.specs.Tower.{mul}
use Rattle.tower_laws.specs.Lists.{sums, AllFit}
use Rattle.tower_laws.proofs.Lists.{xor_fits}
use Rattle.tower_laws.proofs.Levels.{mul_lt, size_pos}
use Rattle.tower_laws.proofs.Rules.{times_zero}
use Rattle.tower_laws.proofs.Field.{identity, from_one, field_terms}
use Rattle.counting_laws.specs.Counting.{AtMost}
use Rattle.counting_laws.proofs.Bounds.{at_most_from}
use Rattle.poly_laws.specs.Polynomial.{horner}
use Rattle.poly_laws.proofs.Polynomials.{horner-add}
use Rattle.poly_laws.proofs.Products.{zero_difference, equal_coefficients}

-- lists that differ are joined to one number by few
pub batches_differ : (xs ys : List ℕ) → length xs ≡ length ys → ¬ (xs ≡ ys) → AtMost (length xs - 1) (λ a. horner xs a ≡ horner ys a)
batches_differ xs ys l ne =
    at_most_from (λ a. horner xs a ≡ horner ys a) (length xs - 1)
    (λ rs apart each more. ne (equal_coefficients xs ys l (zero_difference xs ys rs apart each (omega arith))))

pub horner-sums : (xs ys : List ℕ) (a : ℕ) → horner (sums xs ys) a ≡ bit_xor (horner xs a) (horner ys a)
horner-sums xs ys a = horner-add xs ys a

scaled_step : (c x a d e : ℕ) → d ≡ mul c e → bit_xor (mul c x) (mul a d) ≡ mul c (bit_xor x (mul a e))
scaled_step c x a d e h = from_one a h (identity (c ∷ x ∷ a ∷ d ∷ e ∷ []) (search field_terms depth 60 fits 20000) refl)

pub horner-scaled : (c : ℕ) (xs : List ℕ) (a : ℕ) → horner (map (mul c) xs) a ≡ mul c (horner xs a)
horner-scaled c [] a = times_zero c
horner-scaled c (x ∷ xs) a = scaled_step c x a _ _ (horner-scaled c xs a)

pub horner_fits : (i a : ℕ) (xs : List ℕ) → a < 2 ^ (2 ^ i) → AllFit i xs → horner xs a < 2 ^ (2 ^ i)
horner_fits i a [] l h = size_pos i
horner_fits i a (x ∷ xs) l h = xor_fits i x (mul a (horner xs a)) h.0 (mul_lt i a (horner xs a) l (horner_fits i a xs l h.1))
