-- The logarithm, rounded up.
-- Source: docs/LAWS.md, "list_laws: lists and powers of two".
use Rattle.std.specs.Prelude.{ℕ, zero, suc, ◌^◌, nat_le, true, false}

-- the least e from here on, sought for d steps, with x at most 2 ^ e
unfoldable pub ceil_log_from : ℕ → ℕ → ℕ → ℕ
ceil_log_from zero e x = e
ceil_log_from (suc d) e x = elim (nat_le x (2 ^ e)) [ true ↦ e | false ↦ ceil_log_from d (suc e) x ]

-- the least e with x at most 2 ^ e
unfoldable pub ceil_log : ℕ → ℕ
ceil_log x = ceil_log_from x 0 x
