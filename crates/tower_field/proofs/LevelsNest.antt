-- Each level lies in those above.
use Rattle.std.proofs.Common.{ℕ, ◌^◌, ◌<◌, ◌≤◌, arith}
use Rattle.tower_laws.proofs.Levels.{size_mono}

pub fits_above : (i j a : ℕ) → i ≤ j → a < 2 ^ (2 ^ i) → 2 ^ (2 ^ j) ≤ a → ⊥
fits_above i j a h k l = let u = size_mono i j a h k in omega arith
