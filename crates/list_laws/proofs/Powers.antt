-- Powers of two, and shifts that stay within 64 bits.
use Rattle.std.proofs.Common.{◌≡◌, ℕ, ◌+◌, ◌*◌, ◌%◌, ◌^◌, ◌≤◌, ap, ◌∙◌, arith}
use Rattle.std.proofs.lemmas.Nat.{one_shl, shl_whole, mul-le}
use Rattle.std.proofs.Math.Nat.{pow-le-pow_right}
use Rattle.list_laws.specs.CeilLog.{ceil_log}
use Rattle.list_laws.proofs.CeilLog.{at_most}

pub power_bound : (k n : ℕ) → k ≤ n → 2 ^ k ≤ 2 ^ n
power_bound k n h = pow-le-pow_right {n = 2} (omega arith) {i = k} {j = n} h

pub log_of_rows : (rows : ℕ) → rows ≤ 1048576 → ceil_log rows ≤ 20
log_of_rows rows h = at_most rows 20 h

pub shift_is : (log v l : ℕ) → log ≤ 20 → v ≤ 7 → l ≤ 7 → (1 * 2 ^ (log + v + l) % 2 ^ 64 ≡ 2 ^ (log + v + l)) × (2 ^ (log + v + l) ≤ 2 ^ 34)
shift_is log v l a b c = (one_shl (log + v + l) 64 (omega arith), power_bound (log + v + l) 34 (omega arith))

pub rows_shift_is : (r rows v l : ℕ) → r ≡ rows → rows ≤ 1048576 → v ≤ 7 → l ≤ 7 → (r * 2 ^ (v + l) % 2 ^ 64 ≡ rows * 2 ^ (v + l)) × (rows * 2 ^ (v + l) ≤ 2 ^ 34)
rows_shift_is r rows v l e few a b =
    (ap (λ x. x * 2 ^ (v + l) % 2 ^ 64) e ∙ shl_whole rows 21 (v + l) 64 (omega arith) (omega arith), omega (arith, mul-le rows (2 ^ (v + l)) (2 ^ 20) (2 ^ 14) (omega arith) (power_bound (v + l) 14 (omega arith))))
