-- The laws of logarithms, as statements.
-- Source: docs/LAWS.md, "list_laws: lists and powers of two".
use Rattle.std.specs.Prelude.{◌<◌, ◌≤◌, ◌^◌, ℕ}
use Rattle.list_laws.specs.CeilLog.{ceil_log}

-- the logarithm is the least exponent, and so no greater than one that is enough
pub record AreLeast : Type 0 where
  pub enough : (x : ℕ) → x ≤ 2 ^ ceil_log x
  pub least : (x e : ℕ) → e < ceil_log x → 2 ^ e < x
  pub at_most : (x e : ℕ) → x ≤ 2 ^ e → ceil_log x ≤ e
