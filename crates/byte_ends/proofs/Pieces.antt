use Rattle.std.proofs.Common.{◌≡◌, ℕ, zero, suc, ◌+◌, List, [], ◌∷◌, ◌++◌, take, drop, ap, arith}
use Rattle.std.proofs.lemmas.Grind.{common_steps}

-- a first part, and then a first part of what is left
pub take-add : (done count : ℕ) (xs : List ℕ) → take (done + count) xs ≡ take done xs ++ take count (drop done xs)
take-add zero count xs = grind (arith, common_steps)
take-add (suc done) count [] = grind (arith, common_steps)
take-add (suc done) count (x ∷ xs) = let e : suc done + count ≡ suc (done + count) = omega arith in rw e (ap (λ ys. x ∷ ys) (take-add done count xs))
