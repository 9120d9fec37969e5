-- Two elements of one level as the halves of one of the next.
-- Source: docs/LAWS.md, "packed_words: elements in words".
use Rattle.std.specs.Prelude.{◌≡◌, ℕ, ◌+◌, ◌*◌, ◌<◌}
use Rattle.tower_laws.specs.Tower.{generator, mul}
use Rattle.packed_words.specs.Packing.{per_word, element_at}

-- the low and the high half of element q of level i + 1 of a word
abbrev pub low_at : ℕ → ℕ → ℕ → ℕ
low_at i word q = element_at i word (2 * q)

abbrev pub high_at : ℕ → ℕ → ℕ → ℕ
high_at i word q = element_at i word (2 * q + 1)

-- of each element of level i + 1 of a word
abbrev pub AllAtPairs : ℕ → (ℕ → Type 0) → Type 0
AllAtPairs i P = (q : ℕ) → q < per_word (i + 1) → P q

-- r has the high halves of w times the last generator of level i, in place of the low ones
pub record IsCarried (i w r : ℕ) : Type 0 where
  pub low : AllAtPairs i (λ q. low_at i r q ≡ mul (high_at i w q) (generator i))
  pub high : AllAtPairs i (λ q. high_at i r q ≡ 0)

-- r has the products of the elements of level i of a and b
abbrev pub AreProducts : ℕ → ℕ → ℕ → ℕ → Type 0
AreProducts i a b r = (q : ℕ) → q < per_word i → element_at i r q ≡ mul (element_at i a q) (element_at i b q)

-- r has the products of each half of an element of a and the other half of that of b
pub record AreCrossed (i a b r : ℕ) : Type 0 where
  pub low : AllAtPairs i (λ q. low_at i r q ≡ mul (low_at i a q) (high_at i b q))
  pub high : AllAtPairs i (λ q. high_at i r q ≡ mul (high_at i a q) (low_at i b q))
