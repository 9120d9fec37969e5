-- Layers of products, kept with the one that is needed next at the end.
-- Source: docs/REDUCTIONS.md, "Products of flushes".
use Rattle.std.specs.Prelude.{ℕ, zero, suc, List, [], ◌∷◌, ◌++◌}
use Rattle.layer_laws.specs.Layers.{layer}

-- the d layers below layer k, the leaves first
abbrev pub stacked : List ℕ → ℕ → ℕ → List (List ℕ)
stacked leaves k zero = []
stacked leaves k (suc d) = stacked leaves (suc k) d ++ layer (suc k) d leaves ∷ []
