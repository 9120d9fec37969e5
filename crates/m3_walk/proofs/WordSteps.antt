-- A value of the table of bits, as the ring switch states it: the words fit, and it is as true of them.
use Rattle.std.proofs.Common.{◌≡◌, ◌∙◌, ◌↔◌, ◌<◌, ◌≤◌, ◌+◌, ◌-◌, ◌*◌, ◌^◌, ℕ, zero, suc, List, [], ◌∷◌, take, drop, length, sym, ap, subst, arith}
use Rattle.std.proofs.lemmas.List.{length-drop, length-take}
use Rattle.std.proofs.lemmas.Nat.{pow-add}
use Rattle.std.proofs.lemmas.Nat.Bits.{bit_at-lt}
use Rattle.std.specs.List.{AllByRecursion}
use Rattle.cube_laws.specs.Extension.{bit, extension}
use Rattle.cube_laws.specs.Sums.{tabulate}
use Rattle.tensor_laws.specs.Switch.{packed_bits}
use Rattle.tensor_laws.specs.Tensor.{bits_of_table, from_bits}
use Rattle.tensor_laws.proofs.Switching.{length-packed_bits, unpacked_is}
use Rattle.sumcheck.specs.Machine.{Filling}
use Rattle.table_shape.specs.Placement.{Block, bits_taken, places_log}
use Rattle.bit_claim.specs.Batching.{BitValue}
use Rattle.bit_claim.specs.Bits.{bits, column_bits}
use Rattle.ring_switch.specs.Switching.{SwitchingFits, SwitchingHolds, valued}
use Rattle.m3_walk.specs.Kept.{BitFits, BitHolds}
use Rattle.m3_walk.specs.Stages.{packed_filling, words}
use Rattle.m3_walk.proofs.Parts.{all_joined}

-- ---- bits
all_below : (m : ℕ) (f : ℕ → ℕ) → ((k : ℕ) → f k < 2) → AllByRecursion (λ b. b < 2) (tabulate m f)
all_below zero f h = tt
all_below (suc m) f h = (h 0, all_below m (λ k. f (suc k)) (λ k. h (suc k)))

table_bits : (n : ℕ) (table : List ℕ) → AllByRecursion (λ b. b < 2) (bits_of_table n table)
table_bits n [] = tt
table_bits n (t ∷ table) = all_joined (λ b. b < 2) (tabulate n (bit t)) (bits_of_table n table) (all_below n (bit t) (bit_at-lt t)) (table_bits n table)

block_bits : (F : Filling) (bs : List Block) → AllByRecursion (λ b. b < 2) (column_bits F bs)
block_bits F [] = tt
block_bits F (b ∷ bs) = all_joined (λ b. b < 2) (bits_of_table (2 ^ b.level) (F b.table b.column)) (column_bits F bs) (table_bits (2 ^ b.level) (F b.table b.column)) (block_bits F bs)

are_bits : (F : Filling) (bs : List Block) → AllByRecursion (λ b. b < 2) (bits F bs)
are_bits F bs =
    all_joined (λ b. b < 2) (column_bits F bs) (tabulate (2 ^ places_log bs - bits_taken bs) (λ p. 0)) (block_bits F bs) (all_below (2 ^ places_log bs - bits_taken bs) (λ p. 0) (λ k. omega arith))

-- ---- numbers of n bits
all_take : (P : ℕ → Type 0) (n : ℕ) (xs : List ℕ) → AllByRecursion P xs → AllByRecursion P (take n xs)
all_take P zero xs h = tt
all_take P (suc n) [] h = tt
all_take P (suc n) (x ∷ xs) h = (h.0, all_take P n xs h.1)

all_drop : (P : ℕ → Type 0) (n : ℕ) (xs : List ℕ) → AllByRecursion P xs → AllByRecursion P (drop n xs)
all_drop P zero xs h = h
all_drop P (suc n) [] h = tt
all_drop P (suc n) (x ∷ xs) h = all_drop P n xs h.1

from_bits_lt : (bs : List ℕ) → AllByRecursion (λ b. b < 2) bs → from_bits bs < 2 ^ length bs
from_bits_lt [] h = omega arith
from_bits_lt (b ∷ bs) h = let l = h.0 in let r = from_bits_lt bs h.1 in let e : 2 ^ suc (length bs) ≡ 2 * 2 ^ length bs = omega arith in omega arith

packed_lt : (m n : ℕ) (bs : List ℕ) → length bs ≡ m * n → AllByRecursion (λ b. b < 2) bs → AllByRecursion (λ x. x < 2 ^ n) (packed_bits m n bs)
packed_lt zero n bs l h = tt
packed_lt (suc m) n bs l h =
    let q : suc m * n ≡ n + m * n = grind arith in
    let t : length (take n bs) ≡ n = let a = length-take n bs in omega arith in
    let d : length (drop n bs) ≡ m * n = let a = length-drop n bs in omega arith in
    (subst (λ k. from_bits (take n bs) < 2 ^ k) t (from_bits_lt (take n bs) (all_take (λ b. b < 2) n bs h)), packed_lt m n (drop n bs) d (all_drop (λ b. b < 2) n bs h))

-- ---- the words of the bits
many_places : (bs : List Block) → 8 ≤ places_log bs
many_places bs = omega arith

-- a table of bits has a word for each 128 places
full_words : (n : ℕ) → 8 ≤ n → 2 ^ n ≡ 2 ^ (n - 7) * 2 ^ 7
full_words n h = let e : n ≡ (n - 7) + 7 = omega arith in ap (λ m. 2 ^ m) e ∙ pow-add 2 (n - 7) 7

word_places : (F : Filling) (b : BitValue) → BitFits F b → length (bits F b.blocks) ≡ 2 ^ (places_log b.blocks - 7) * 128
word_places F b h = h.size ∙ ap (λ n. 2 ^ n) (sym h.vars) ∙ full_words (places_log b.blocks) (many_places b.blocks)

-- the ring switch of a value of the bits fits their words
pub switch_fits : (F : Filling) (b : BitValue) → BitFits F b → SwitchingFits (packed_filling b.blocks F) (valued b.point b.value)
switch_fits F b h =
    let many = many_places b.blocks in
    let vars = h.vars in
    let long : 7 ≤ length b.point = omega arith in (
      long,
      record {
        size = length-packed_bits (2 ^ (places_log b.blocks - 7)) 128 (bits F b.blocks) ∙ ap (λ n. 2 ^ (n - 7)) h.vars ∙ ap (λ n. 2 ^ n) (sym (length-drop 7 b.point));
        words = packed_lt (2 ^ (places_log b.blocks - 7)) 128 (bits F b.blocks) (word_places F b h) (are_bits F b.blocks);
        elements = all_drop _ 7 b.point h.elements;
      },
    )

-- and is as true
pub switch_holds : (F : Filling) (b : BitValue) → BitFits F b → SwitchingHolds (packed_filling b.blocks F) (valued b.point b.value) ↔ BitHolds F b
switch_holds F b h =
    let same : bits_of_table 128 (words F b.blocks) ≡ bits F b.blocks = unpacked_is (2 ^ (places_log b.blocks - 7)) 128 (bits F b.blocks) (word_places F b h) (are_bits F b.blocks) in
    ((λ x. ap (λ t. extension t b.point) (sym same) ∙ x), (λ x. ap (λ t. extension t b.point) same ∙ x))
