-- Layers of products, from a table of leaves to their product.
-- Source: docs/LAWS.md, "layer_laws: layers of products and their leaves".
use Rattle.std.specs.Prelude.{ℕ, zero, suc, ◌+◌, ◌^◌, List, [], ◌∷◌, take, drop, get_or}
use Rattle.tower_laws.specs.Tower.{mul}
use Rattle.cube_laws.specs.Sums.{tabulate}
use Rattle.batch_laws.specs.Batch.{eq_sum}
use Rattle.cube_laws.specs.Form.{variable, times}
use Rattle.cube_laws.specs.SumClaim.{Sum}

-- of a table of 2 n values, at p the product of the values at p and at p + n
abbrev pub halved : ℕ → List ℕ → List ℕ
halved n table = tabulate n (λ p. mul (get_or table p 0) (get_or table (p + n) 0))

-- layer k, of 2 ^ k values, over 2 ^ (k + d) leaves
abbrev pub layer : ℕ → ℕ → List ℕ → List ℕ
layer k zero leaves = leaves
layer k (suc d) leaves = halved (2 ^ k) (layer (suc k) d leaves)

-- the sum for a value of layer k at z: of eq, the lower and the upper half of the layer below
abbrev pub layer_sum : ℕ → List ℕ → List ℕ → Sum
layer_sum k z below = eq_sum z (times (variable 0) (variable 1)) (take (2 ^ k) below ∷ drop (2 ^ k) below ∷ [])
