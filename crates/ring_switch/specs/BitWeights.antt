-- Sums of weights by the bytes of a number.
-- Source: docs/REDUCTIONS.md, "Ring switch".
use Rattle.std.specs.Prelude.{◌*◌, ◌/◌, ◌%◌, ℕ, List, take, drop}
use Rattle.cube_laws.specs.Sums.{tabulate}
use Rattle.cube_laws.specs.Extension.{bit, dot}

-- at 256 · i + b the sum of the weights of the bits of byte b at place i
abbrev pub byte_sum : List ℕ → ℕ → ℕ
byte_sum ws k = dot (tabulate 8 (bit (k % 256))) (take 8 (drop (8 * (k / 256)) ws))

-- the first n of them
abbrev pub byte_sums : List ℕ → ℕ → List ℕ
byte_sums ws n = tabulate n (byte_sum ws)
