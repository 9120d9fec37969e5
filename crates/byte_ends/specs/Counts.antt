-- How often the outside has failed.
-- Source: docs/ENDS.md, "What they mean".
use Rattle.std.specs.Prelude.{ℕ, ◌+◌, ◌-◌, ◌^◌, ◌≤◌, min, max}

-- one more, up to the largest number of 64 bits
abbrev pub raised : ℕ → ℕ
raised count = max count (min (count + 1) (2 ^ 64 - 1))

-- the count is larger than before, or stands at the largest number of 64 bits
abbrev pub Rose : ℕ → ℕ → Type 0
Rose before now = min (before + 1) (2 ^ 64 - 1) ≤ now

-- how often reads and writes have failed
pub record FaultCounts : Type 0 where
  pub reads : ℕ
  pub writes : ℕ
