-- Numbers as 16 bytes, the lowest first, and back.
-- Source: docs/LAWS.md, "tower_field: elements as bytes".
use Rattle.std.specs.Prelude.{◌≡◌, ◌<◌, ◌^◌, ℕ, List, length}
use Rattle.std.specs.List.{AllByRecursion}
use Rattle.std.specs.Int.{from_le_bytes, to_le_bytes, w128}

-- a number below 2 ^ 128 is the number of its bytes
abbrev pub NumbersAreReadAgain : Type 0
NumbersAreReadAgain = (n : ℕ) → n < 2 ^ 128 → from_le_bytes w128 (to_le_bytes w128 n) ≡ n

-- 16 bytes are the bytes of their number
abbrev pub BytesAreSpelledAgain : Type 0
BytesAreSpelledAgain = (bytes : List ℕ) → length bytes ≡ 16 → AllByRecursion (λ b. b < 256) bytes → to_le_bytes w128 (from_le_bytes w128 bytes) ≡ bytes
