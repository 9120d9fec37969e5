-- The value of a form of pairs, one pair at a time.
use Rattle.std.proofs.Common.{◌≡◌, ℕ, zero, suc, ◌+◌, ◌*◌, ◌-◌, ◌<◌, List, [], ◌∷◌, drop, length, slice_index, bit_xor, sym, ap, ◌∙◌, arith}
use Rattle.tower_laws.specs.Tower.{mul}
use Rattle.cube_laws.specs.Form.{value, moved}
use Rattle.cube_laws.proofs.Positions.{value-moved}
use Rattle.bit_claim.specs.Pairs.{pairs_form}

first_pair : (n m : ℕ) (row : List ℕ) → suc m < length row → bit_xor (mul (slice_index row m) (slice_index row (suc m))) (value (pairs_form n) (drop (suc (suc m)) row)) ≡ value (pairs_form (suc n)) (drop m row)
first_pair n m [] h = absurd (omega arith)
first_pair n zero (a ∷ []) h = absurd (omega arith)
first_pair n zero (a ∷ b ∷ row) h = ap (bit_xor (mul a b)) (sym (value-moved (moved (pairs_form n)) a (b ∷ row) ∙ value-moved (pairs_form n) b row))
first_pair n (suc m) (a ∷ row) h = first_pair n m row (omega arith)

-- with the pair before those that are summed
pub next_pair : (count k : ℕ) (row : List ℕ) (s : ℕ) → k < count → length row ≡ 2 * count → s ≡ value (pairs_form (count - suc k)) (drop (2 * suc k) row)
    → bit_xor (mul (slice_index row (2 * k)) (slice_index row (2 * k + 1))) s ≡ value (pairs_form (count - k)) (drop (2 * k) row)
next_pair count k row s l h e =
    let after : 2 * k + 1 ≡ suc (2 * k) = omega arith in
    let two : 2 * suc k ≡ suc (suc (2 * k)) = omega arith in
    let more : suc (count - suc k) ≡ count - k = omega arith in
    (λ i. bit_xor (mul (slice_index row (2 * k)) (slice_index row (after i))) ((e ∙ ap (λ m. value (pairs_form (count - suc k)) (drop m row)) two) i))
    ∙ first_pair (count - suc k) (2 * k) row (omega arith)
    ∙ ap (λ n. value (pairs_form n) (drop (2 * k) row)) more
