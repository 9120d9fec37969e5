-- The laws of the ring switch, as statements.
-- Source: docs/LAWS.md, "tensor_laws: rows and columns of a packed table".
use Rattle.std.specs.Prelude.{◌≡◌, ◌<◌, ◌*◌, ◌^◌, ℕ, List, [], ◌∷◌, ◌++◌, map, length, get_or}
use Rattle.std.specs.List.{AllByRecursion}
use Rattle.tower_laws.specs.Tower.{Fits, mul}
use Rattle.tower_laws.specs.Lists.{AllFit}
use Rattle.cube_laws.specs.Sums.{tabulate}
use Rattle.cube_laws.specs.Extension.{bit, dot, weights, extension, bits_of}
use Rattle.tensor_laws.specs.Tensor.{column, row, bits_of_table}
use Rattle.tensor_laws.specs.Switch.{transposed, packed_bits, combined, scaled, tensor_eq}

-- values worked out by hand: the weights of 2 are 3 and 2, those of 3 are 2 and 3
pub record AreWorked : Type 0 where
  pub column_is : column (3 ∷ 2 ∷ []) (2 ∷ 3 ∷ []) 0 ≡ 2
  pub row_is : row (3 ∷ 2 ∷ []) (2 ∷ 3 ∷ []) 1 ≡ 1
  pub across_is : transposed 2 (1 ∷ 3 ∷ []) ≡ 3 ∷ 2 ∷ []
  pub packed_is : packed_bits 2 2 (1 ∷ 0 ∷ 1 ∷ 1 ∷ []) ≡ 1 ∷ 3 ∷ []
  pub combined_is : combined (2 ∷ []) (2 ∷ []) ≡ 1 ∷ 2 ∷ []
  pub tensor_is : tensor_eq 2 (2 ∷ []) (3 ∷ []) ≡ 2 ∷ 1 ∷ []

-- packed bits, and rows from columns by exchange of bits
pub record ArePacked : Type 0 where
  pub unpacked : (m n : ℕ) (bits : List ℕ) → length bits ≡ m * n → AllByRecursion (λ b. b < 2) bits → bits_of_table n (packed_bits m n bits) ≡ bits
  pub exchanged : (n : ℕ) (columns rows : List ℕ) → length columns ≡ n → length rows ≡ n → AllByRecursion (λ r. r < 2 ^ n) rows
      → ((u v : ℕ) → u < n → v < n → bit (get_or rows u 0) v ≡ bit (get_or columns v 0) u) → rows ≡ transposed n columns
  pub column_value : (i v : ℕ) (high table : List ℕ) → v < 2 ^ i → column (weights high) table v ≡ extension (bits_of_table (2 ^ i) table) (bits_of i v ++ high)

-- the steps of the switch
pub record AreSwitched : Type 0 where
  -- columns whose rows are true tell a true value of the bits
  pub message : (i : ℕ) (high low table cs : List ℕ) → length low ≡ i → length cs ≡ 2 ^ i → AllFit i high → AllFit i table → AllFit i cs
      → transposed (2 ^ i) cs ≡ tabulate (2 ^ i) (row (weights high) table) → dot cs (weights low) ≡ extension (bits_of_table (2 ^ i) table) (low ++ high)
  -- the rows at a point are a sum over the packed table
  pub switch : (high draws table : List ℕ) → extension (tabulate (2 ^ length draws) (row (weights high) table)) draws ≡ dot (combined high draws) table
  -- rows times a number and columns times another are those of the multiples
  pub multiples : (i h a : ℕ) (es table : List ℕ) → Fits i a → AllFit i es → AllFit i table → scaled (2 ^ i) h a (tabulate (2 ^ i) (row es table)) ≡ tabulate (2 ^ i) (row (map (mul h) es) (map (mul a) table))
  -- coordinate by coordinate, the rows of the sum over w of eq(high, w) ⊗ eq(at, w)
  pub rows : (i : ℕ) (high at : List ℕ) → length high ≡ length at → AllFit i high → AllFit i at → tensor_eq (2 ^ i) high at ≡ tabulate (2 ^ i) (row (weights high) (weights at))
  -- A at a point, without a sum over its positions
  pub at_point : (high at draws : List ℕ) → length high ≡ length at → AllFit (length draws) high → AllFit (length draws) at
      → extension (combined high draws) at ≡ dot (tensor_eq (2 ^ length draws) high at) (weights draws)
