-- The digits of a number, written from the lowest.
use Rattle.std.proofs.Common.{◌≡◌, ◌≢◌, ℕ, suc, ◌<◌, ◌+◌, ◌-◌, ◌/◌, ◌%◌, List, [], ◌∷◌, false, true, eqb, refl, arith}
use Rattle.std.proofs.lemmas.Bool.Decides.{nat_tests}
use Rattle.std.specs.Fmt.{digits_onto, digit_glyph, digits}
use Rattle.m3_tool.specs.Lines.{hex}

-- at most k more digits of n, before those that are there
unfoldable pub hex_onto : ℕ → ℕ → List ℕ → List ℕ
hex_onto k n text = digits_onto k 16 false n text

pub hex_onto-start : (n : ℕ) → hex_onto 64 n [] ≡ hex n
unfolding hex_onto digits
hex_onto-start n = refl

pub hex_onto-end : (k n : ℕ) (text : List ℕ) → k ≡ 0 → hex_onto k n text ≡ text
unfolding hex_onto
hex_onto-end k n text e = rw e refl

onto-more : (k n : ℕ) (text : List ℕ) → n / 16 ≢ 0 → hex_onto (suc k) n text ≡ hex_onto k (n / 16) (digit_glyph false (n % 16) ∷ text)
unfolding hex_onto
onto-more k n text more = let e : eqb (n / 16) 0 ≡ false = grind (arith, nat_tests) in rw e refl

onto-last : (k n : ℕ) (text : List ℕ) → n / 16 ≡ 0 → hex_onto (suc k) n text ≡ digit_glyph false (n % 16) ∷ text
unfolding hex_onto
onto-last k n text last = let e : eqb (n / 16) 0 ≡ true = grind (arith, nat_tests) in rw e refl

pub hex_onto-more : (d n : ℕ) (text : List ℕ) → d < 64 → n / 16 ≢ 0 → hex_onto (64 - d) n text ≡ hex_onto (64 - (d + 1)) (n / 16) (digit_glyph false (n % 16) ∷ text)
hex_onto-more d n text below more = let e : 64 - d ≡ suc (64 - (d + 1)) = omega arith in rw e (onto-more (64 - (d + 1)) n text more)

pub hex_onto-last : (d n : ℕ) (text : List ℕ) → d < 64 → n / 16 ≡ 0 → hex_onto (64 - d) n text ≡ digit_glyph false (n % 16) ∷ text
hex_onto-last d n text below last = let e : 64 - d ≡ suc (64 - (d + 1)) = omega arith in rw e (onto-last (64 - (d + 1)) n text last)
