-- The halves of an element at any level. A bit is its own low half, and its high half is 0.
-- Source: docs/LAWS.md, "tower_laws: the field".
use Rattle.std.specs.Prelude.{◌≡◌, ℕ, zero, suc, ◌<◌}
use Rattle.tower_laws.specs.Tower.{Fits, low, high, join}

-- the low half of an element of level i
abbrev pub low_half : ℕ → ℕ → ℕ
low_half zero a = a
low_half (suc i) a = low i a

-- the high half of an element of level i
abbrev pub high_half : ℕ → ℕ → ℕ
high_half zero a = 0
high_half (suc i) a = high i a

-- a and b are the low and the high half of an element of level i
abbrev pub AreHalves : ℕ → ℕ → ℕ → Type 0
AreHalves zero a b = (a < 2) × (b ≡ 0)
AreHalves (suc i) a b = Fits i a × Fits i b

-- the element of level i with the halves a (low) and b (high)
abbrev pub joined : ℕ → ℕ → ℕ → ℕ
joined zero a b = a
joined (suc i) a b = join i b a
