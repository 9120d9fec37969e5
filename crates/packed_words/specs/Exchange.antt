-- Positions with single bits replaced.
-- Source: docs/LAWS.md, "packed_words: elements in words".
use Rattle.std.specs.Prelude.{ℕ, ◌+◌, ◌-◌, ◌*◌, ◌^◌}
use Rattle.cube_laws.specs.Extension.{bit}

-- u with d in place of its bit k
abbrev pub with_bit : ℕ → ℕ → ℕ → ℕ
with_bit k u d = u + d * 2 ^ k - bit u k * 2 ^ k
