-- Powers of 2 and their logarithms.
use Rattle.std.proofs.Common.{◌≡◌, ℕ, suc, ◌*◌, ◌^◌, ◌<◌, ◌≤◌, ◌⊎◌, inl, inr, arith}
use Rattle.std.proofs.Math.Nat.{pow-le-pow_right}
use Rattle.std.proofs.lemmas.Nat.{pow_below}
use Rattle.std.proofs.lemmas.Bool.{cases_lt}

pow_within : (a b : ℕ) → a ≤ b → 2 ^ a ≤ 2 ^ b
pow_within a b h = pow-le-pow_right {n = 2} (omega arith) h

pub below_pow : (p a b : ℕ) → p < 2 ^ a → a ≤ b → p < 2 ^ b
below_pow p a b l h = let m = pow_within a b h in omega arith

-- the logarithm of a power of 2
pub log_is : (k r n : ℕ) → n ≡ 2 ^ k → 2 ^ r ≤ n → n < 2 * 2 ^ r → r ≡ k
log_is k r n e a b = go (cases_lt r k) (cases_lt k r)
  where
    go : (r < k) ⊎ (k ≤ r) → (k < r) ⊎ (r ≤ k) → r ≡ k
    go (inl l) m = let p = pow_within (suc r) k l in absurd (omega arith)
    go (inr l) (inl m) = let p = pow_below k r m in absurd (omega arith)
    go (inr l) (inr m) = omega arith
