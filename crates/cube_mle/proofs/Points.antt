-- eq of points, from the last coordinate to the first.
use Rattle.std.proofs.Common.{◌≡◌, ℕ, zero, suc, List, [], ◌∷◌, length, drop, min, refl, arith}
use Rattle.cube_laws.specs.Extension.{eq_points}

pub eq_start : (k : ℕ) (x y : List ℕ) → k ≡ min (length x) (length y) → 1 ≡ eq_points (drop k x) (drop k y)
eq_start zero [] y h = refl
eq_start zero (a ∷ x) [] h = refl
eq_start zero (a ∷ x) (b ∷ y) h = absurd (omega arith)
eq_start (suc k) [] y h = refl
eq_start (suc k) (a ∷ x) [] h = absurd (omega arith)
eq_start (suc k) (a ∷ x) (b ∷ y) h = eq_start k x y (omega arith)
