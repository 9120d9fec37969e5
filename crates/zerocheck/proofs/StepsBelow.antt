-- The step that is 1 at the positions of rows.
use Rattle.std.proofs.Common.{◌≡◌, ◌∙◌, ℕ, ◌^◌, ◌<◌, ◌≤◌, ltb, List, length, sym, ap, arith, lit<}
use Rattle.std.proofs.lemmas.Bool.{le-ltb, lt-ltb}
use Rattle.std.proofs.Math.Nat.{pow-le-pow_right}
use Rattle.cube_laws.proofs.Linear.{extension-constant, extension-same}
use Rattle.shift_laws.specs.Shifts.{flag, step_down}

-- ---- the table
pub step_on : (p n v : ℕ) → p < n → v ≡ 1 → v ≡ flag (ltb p n)
step_on p n v h e = e ∙ ap flag (sym (lt-ltb p n h))

pub step_off : (p n v : ℕ) → n ≤ p → v ≡ 0 → v ≡ flag (ltb p n)
step_off p n v h e = e ∙ ap flag (sym (le-ltb p n h))
