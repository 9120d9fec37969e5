-- The laws of layers and leaves, as statements.
-- Source: docs/LAWS.md, "layer_laws: layers of products and their leaves".
use Rattle.std.specs.Prelude.{◌≡◌, ◌<◌, ◌≤◌, ◌+◌, ◌==◌, ◌^◌, ltb, cond, ℕ, suc, List, [], ◌∷◌, ◌++◌, map, length, get_or, bit_xor}
use Rattle.std.specs.List.{filter}
use Rattle.tower_laws.specs.Tower.{mul}
use Rattle.tower_laws.specs.Lists.{product_all}
use Rattle.counting_laws.specs.Counting.{AtMost}
use Rattle.counting_laws.specs.Multiset.{product_by}
use Rattle.cube_laws.specs.Sums.{tabulate}
use Rattle.cube_laws.specs.Extension.{eq_points, extension}
use Rattle.cube_laws.specs.Form.{value, degree}
use Rattle.cube_laws.specs.SumClaim.{sum_at}
use Rattle.multiset_laws.specs.Fingerprint.{fingerprint, leaf}
use Rattle.layer_laws.specs.Layers.{halved, layer, layer_sum}
use Rattle.layer_laws.specs.LeafForm.{leaf_form}

-- layers of products
pub record AreLayers : Type 0 where
  pub halves : (k d p : ℕ) (leaves : List ℕ) → p < 2 ^ k → get_or (layer k (suc d) leaves) p 0 ≡ mul (get_or (layer (suc k) d leaves) p 0) (get_or (layer (suc k) d leaves) (p + 2 ^ k) 0)
  -- layer 0 is the product of the leaves
  pub first : (n : ℕ) (leaves : List ℕ) → length leaves ≡ 2 ^ n → extension (layer 0 n leaves) [] ≡ product_all leaves
  -- a value of a layer is a sum over the layer below
  pub sum : (k d : ℕ) (leaves z : List ℕ) → length z ≡ k → length leaves ≡ 2 ^ (k + suc d) → extension (layer k (suc d) leaves) z ≡ sum_at (layer_sum k z (layer (suc k) d leaves)) [] k
  -- with all variables set, of two values of that layer
  pub final : (k : ℕ) (z r below : List ℕ) → length z ≡ k → length r ≡ k → sum_at (layer_sum k z below) r 0 ≡ mul (eq_points z r) (mul (extension below (r ++ 0 ∷ [])) (extension below (r ++ 1 ∷ [])))
  -- the two values are joined to one, which a wrong pair passes for at most one number
  pub joined : (below r : List ℕ) (c : ℕ) → extension below (r ++ c ∷ []) ≡ bit_xor (mul (extension below (r ++ 0 ∷ [])) (bit_xor 1 c)) (mul (extension below (r ++ 1 ∷ [])) c)
  pub counted : (below r : List ℕ) (a b : ℕ) → ¬ ((extension below (r ++ 0 ∷ []) ≡ a) × (extension below (r ++ 1 ∷ []) ≡ b))
      → AtMost 1 (λ c. extension below (r ++ c ∷ []) ≡ bit_xor (mul a (bit_xor 1 c)) (mul b c))

-- leaves as forms, and their product over the padded table of m rows
pub record AreLeaves : Type 0 where
  pub is_leaf : (a g w s selector : ℕ) (tuple : List ℕ) → length tuple ≡ w → value (leaf_form a g w) (s ∷ selector ∷ tuple) ≡ leaf s selector (fingerprint a g tuple)
  pub degree_is : (a g w : ℕ) → degree (leaf_form a g w) ≤ 3
  pub product : (n m a g : ℕ) (selector : ℕ → ℕ) (tuple : ℕ → List ℕ) → m ≤ n → ((y : ℕ) → y < m → selector y < 2)
      → product_all (tabulate n (λ y. leaf (cond (ltb y m) 1 0) (selector y) (fingerprint a g (tuple y)))) ≡ product_by (fingerprint a g) (map tuple (filter (λ y. selector y == 1) (tabulate m (λ y. y))))

-- values worked out by hand: 2 · 2 = 3 and 3 · 3 = 2, and 3 · 2 = 1
pub record AreWorked : Type 0 where
  pub halved_is : halved 2 (2 ∷ 3 ∷ 2 ∷ 3 ∷ []) ≡ 3 ∷ 2 ∷ []
  pub layer_is : layer 0 2 (2 ∷ 3 ∷ 2 ∷ 3 ∷ []) ≡ 1 ∷ []
  pub taken_leaf : value (leaf_form 2 4 2) (1 ∷ 1 ∷ 3 ∷ 1 ∷ []) ≡ 5
  pub left_leaf : value (leaf_form 2 4 2) (1 ∷ 0 ∷ 3 ∷ 1 ∷ []) ≡ 1
