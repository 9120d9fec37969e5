-- Elements packed into words of 128 bits.
-- Source: docs/LAWS.md, "packed_words: elements in words".
use Rattle.std.specs.Prelude.{ℕ, ◌-◌, ◌*◌, ◌/◌, ◌%◌, ◌^◌, List, length, slice_index, bit_xor}
use Rattle.tower_laws.specs.Tower.{mul}
use Rattle.cube_laws.specs.Sums.{tabulate}

-- how many elements of level i stand in a word
abbrev pub per_word : ℕ → ℕ
per_word i = 2 ^ (7 - i)

-- element q of level i of a word, the lowest bits first
abbrev pub element_at : ℕ → ℕ → ℕ → ℕ
element_at i word q = word / 2 ^ (2 ^ i * q) % 2 ^ (2 ^ i)

-- lane j of words of elements of level i
abbrev pub lane : ℕ → List ℕ → ℕ → ℕ
lane i words j = element_at i (slice_index words (j / per_word i)) (j % per_word i)

-- the lanes of n words
unfoldable pub lanes : ℕ → ℕ → List ℕ → List ℕ
lanes i n words = tabulate (n * per_word i) (lane i words)

-- the sums and the products of the numbers at each place of two lists
abbrev pub lane_sums : List ℕ → List ℕ → List ℕ
lane_sums xs ys = tabulate (length xs) (λ j. bit_xor (slice_index xs j) (slice_index ys j))

abbrev pub lane_products : List ℕ → List ℕ → List ℕ
lane_products xs ys = tabulate (length xs) (λ j. mul (slice_index xs j) (slice_index ys j))
