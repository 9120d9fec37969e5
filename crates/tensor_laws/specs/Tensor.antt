-- Columns and rows of the tensor of a point's weights and a packed table.
-- Source: ePrint 2024/504, the section on ring-switching; docs/LAWS.md, "tensor_laws: rows and columns of a packed table".
use Rattle.std.specs.Prelude.{ℕ, List, [], ◌∷◌, ◌++◌, map}
use Rattle.tower_laws.specs.Digits.{from_digits}
use Rattle.cube_laws.specs.Sums.{tabulate}
use Rattle.cube_laws.specs.Extension.{bit, dot}

-- the number of these bits, the lowest first
abbrev pub from_bits : List ℕ → ℕ
from_bits bs = from_digits 2 bs

-- column v, for the weights es of the high point: the sum over w of bit v of the table's number w times weight w
abbrev pub column : List ℕ → List ℕ → ℕ → ℕ
column es table v = dot (map (λ t. bit t v) table) es

-- row u: the sum over w of bit u of weight w times the table's number w
abbrev pub row : List ℕ → List ℕ → ℕ → ℕ
row es table u = dot (map (λ e. bit e u) es) table

-- the number whose bit v is bit u of member v
abbrev pub across : List ℕ → ℕ → ℕ
across cs u = from_bits (map (λ c. bit c u) cs)

-- the bits of a packed table, each number's n bits after those of the one before
abbrev pub bits_of_table : ℕ → List ℕ → List ℕ
bits_of_table n [] = []
bits_of_table n (t ∷ table) = tabulate n (bit t) ++ bits_of_table n table
