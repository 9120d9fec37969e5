-- A table of products with one factor.
-- Source: docs/LAWS.md, "packed_words: elements in words".
use Rattle.std.specs.Prelude.{ℕ, ◌*◌, ◌/◌, ◌%◌, ◌^◌, List}
use Rattle.tower_laws.specs.Tower.{mul}
use Rattle.cube_laws.specs.Sums.{tabulate}

-- the product of r with the byte k % 256 at the place k / 256
abbrev pub entry : ℕ → ℕ → ℕ
entry r k = mul r (k % 256 * 2 ^ (8 * (k / 256)))

-- the first n of them
abbrev pub entries : ℕ → ℕ → List ℕ
entries r n = tabulate n (entry r)
