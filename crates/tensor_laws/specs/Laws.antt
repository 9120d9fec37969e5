-- The laws of the tensor, as statements.
-- Source: docs/LAWS.md, "tensor_laws: rows and columns of a packed table".
use Rattle.std.specs.Prelude.{◌≡◌, ◌<◌, ◌^◌, ◌↔◌, ℕ, List, ◌++◌, length, map}
use Rattle.std.specs.List.{AllByRecursion}
use Rattle.cube_laws.specs.Sums.{tabulate}
use Rattle.cube_laws.specs.Extension.{bit, dot, weights, extension}
use Rattle.tensor_laws.specs.Tensor.{column, row, across, bits_of_table}

-- n numbers of n bits are the columns exactly where, read across, they are the rows
abbrev pub RowsTellColumns : Type 0
RowsTellColumns =
    (n : ℕ) (es table cs : List ℕ) → length cs ≡ n → AllByRecursion (λ e. e < 2 ^ n) es → AllByRecursion (λ t. t < 2 ^ n) table → AllByRecursion (λ c. c < 2 ^ n) cs
    → (cs ≡ tabulate n (column es table)) ↔ (tabulate n (across cs) ≡ tabulate n (row es table))

-- the columns under the weights of a low point are the extension of the table's bits at the low and the high point
abbrev pub ColumnsAreExtension : Type 0
ColumnsAreExtension =
    (table low high : List ℕ) → dot (tabulate (2 ^ length low) (column (weights high) table)) (weights low) ≡ extension (bits_of_table (2 ^ length low) table) (low ++ high)

-- the rows under weights are the sum over the table of its numbers times the weights' sum over each number's bits
abbrev pub RowsUnderWeights : Type 0
RowsUnderWeights = (n : ℕ) (es table ws : List ℕ) → dot (tabulate n (row es table)) ws ≡ dot (map (λ e. dot (tabulate n (bit e)) ws) es) table
