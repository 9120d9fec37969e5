-- Bytes of numbers.
-- Source: docs/LAWS.md, "packed_words: elements in words".
use Rattle.std.specs.Prelude.{ℕ, zero, suc, ◌*◌, ◌/◌, ◌%◌, ◌^◌, List, map}
use Rattle.cube_laws.specs.Extension.{dot}

-- byte i of a number, the lowest first
abbrev pub byte_of : ℕ → ℕ → ℕ
byte_of i n = n / 2 ^ (8 * i) % 256

-- 1 where b is the byte a, and else 0
unfoldable pub is_byte : ℕ → ℕ → ℕ
is_byte zero zero = 1
is_byte zero (suc a) = 0
is_byte (suc b) zero = 0
is_byte (suc b) (suc a) = is_byte b a

-- the sum of the numbers of es whose word has b as its byte i
abbrev pub bucket : ℕ → ℕ → List ℕ → List ℕ → ℕ
bucket i b words es = dot (map (λ w. is_byte b (byte_of i w)) words) es
