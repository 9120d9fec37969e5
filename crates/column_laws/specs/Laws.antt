-- The laws of columns, as statements.
-- Source: docs/LAWS.md, "column_laws: columns as bits of one table".
use Rattle.std.specs.Prelude.{◌≡◌, ◌<◌, ◌+◌, ◌*◌, ◌==◌, ◌^◌, cond, ℕ, List, [], ◌∷◌, ◌++◌, map, take, drop, length}
use Rattle.std.specs.List.{AllByRecursion}
use Rattle.tower_laws.specs.Tower.{Fits, mul}
use Rattle.tower_laws.specs.Lists.{AllFit}
use Rattle.cube_laws.specs.Sums.{sum_to, product_to, tabulate}
use Rattle.cube_laws.specs.Extension.{bit, dot, extension, bits_of}
use Rattle.word_laws.specs.CodeWord.{subsets}
use Rattle.tensor_laws.specs.Tensor.{bits_of_table}
use Rattle.column_laws.specs.Basis.{generators, basis_at}
use Rattle.column_laws.specs.Columns.{linear_value, linear, projected, packed, placed, placed_at}

-- the powers of 2 are a basis: products of generators, of which each number is the sum by its bits
pub record AreBasis : Type 0 where
  pub power : (n u : ℕ) → u < 2 ^ n → 2 ^ u ≡ product_to n (λ k. cond (bit u k == 1) (2 ^ (2 ^ k)) 1)
  pub number : (n a : ℕ) → a < 2 ^ n → sum_to n (λ u. mul (bit a u) (2 ^ u)) ≡ a
  -- the same from X_k on, for all sets of generators
  pub powers : (k n : ℕ) → subsets (generators k n) ≡ tabulate (2 ^ n) (λ u. 2 ^ (u * 2 ^ k))
  pub extended : (k : ℕ) (ys : List ℕ) → extension (tabulate (2 ^ length ys) (λ u. 2 ^ (u * 2 ^ k))) ys ≡ basis_at k ys

-- the extensions of columns that are made from others
pub record AreColumns : Type 0 where
  pub linear_column : (k0 : ℕ) (ks z : List ℕ) (cs : List (List ℕ)) → extension (linear (2 ^ length z) k0 ks cs) z ≡ linear_value k0 ks (map (λ c. extension c z) cs)
  pub projected_column : (k j : ℕ) (column z : List ℕ) → j < 2 ^ k → extension (projected k j (2 ^ length z) column) z ≡ extension column (bits_of k j ++ z)
  pub packed_column : (i k : ℕ) (column z : List ℕ) → extension (packed i k (2 ^ length z) column) z ≡ sum_to (2 ^ k) (λ u. mul (2 ^ (u * 2 ^ i)) (extension column (bits_of k u ++ z)))

-- the levels of these columns
pub record HaveLevels : Type 0 where
  pub linear_fits : (i n k0 : ℕ) (ks : List ℕ) (cs : List (List ℕ)) → Fits i k0 → AllFit i ks → AllByRecursion (AllFit i) cs → AllFit i (linear n k0 ks cs)
  pub projected_fits : (i k j n : ℕ) (column : List ℕ) → AllFit i column → AllFit i (projected k j n column)
  pub packed_fits : (i k n : ℕ) (column : List ℕ) → AllFit i column → AllFit (i + k) (packed i k n column)

-- a claim on a column as a sum over the table of all bits
pub record ArePlaced : Type 0 where
  pub truth : (i g q : ℕ) (bits column z : List ℕ) → AllFit i column → q < 2 ^ g
      → take (2 ^ (i + length z)) (drop (q * 2 ^ (i + length z)) bits) ≡ bits_of_table (2 ^ i) column → dot bits (placed i z g q) ≡ extension column z
  pub at_point : (i g q : ℕ) (z low mid top : List ℕ) → length low ≡ i → length mid ≡ length z → length top ≡ g → extension (placed i z g q) ((low ++ mid) ++ top) ≡ placed_at z g q low mid top
  pub size : (i g q : ℕ) (z : List ℕ) → length (placed i z g q) ≡ 2 ^ (i + length z + g)

-- values worked out by hand
pub record AreWorked : Type 0 where
  pub generators_are : generators 0 3 ≡ 2 ∷ 4 ∷ 16 ∷ []
  pub basis_is : basis_at 0 (4 ∷ 8 ∷ []) ≡ 8
  pub linear_is : linear 2 1 (2 ∷ 4 ∷ []) ((1 ∷ 2 ∷ []) ∷ (3 ∷ 5 ∷ []) ∷ []) ≡ 15 ∷ 15 ∷ []
  pub projected_is : projected 1 1 2 (5 ∷ 6 ∷ 7 ∷ 8 ∷ []) ≡ 6 ∷ 8 ∷ []
  pub packed_is : packed 1 1 2 (1 ∷ 2 ∷ 3 ∷ 1 ∷ []) ≡ 9 ∷ 7 ∷ []
  pub placed_is : placed 1 (2 ∷ []) 1 1 ≡ 0 ∷ 0 ∷ 0 ∷ 0 ∷ 3 ∷ 1 ∷ 2 ∷ 3 ∷ []
