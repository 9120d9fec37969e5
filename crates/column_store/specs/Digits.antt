-- Numbers as lists of bytes, the lowest first.
-- Source: docs/FORMATS.md, "The witness".
use Rattle.std.specs.Prelude.{ℕ, List}
use Rattle.tower_laws.specs.Digits.{from_digits}

-- the number that bytes spell
abbrev pub number_of_bytes : List ℕ → ℕ
number_of_bytes bytes = from_digits 256 bytes
