-- Bits of positions, by cases on which of the seven it is.
use Rattle.std.proofs.Common.{◌≡◌, ℕ, zero, suc, ◌+◌, ◌-◌, ◌*◌, ◌/◌, ◌%◌, ◌^◌, ◌<◌, ◌≤◌, map, get_or, refl, sym, ◌∙◌, ap, arith, zero-add}
use Rattle.std.specs.List.{range_with_len}
use Rattle.std.proofs.lemmas.List.FromFn.{get_or-map-range_with_len}
use Rattle.cube_laws.specs.Extension.{bit}
use Rattle.packed_words.specs.Exchange.{with_bit}
use Rattle.packed_words.specs.declared.transpose.TheConstants.{CLEAR}

pub seven : (P : ℕ → Type 0) → P 0 → P 1 → P 2 → P 3 → P 4 → P 5 → P 6 → (k : ℕ) → k < 7 → P k
seven P a b c d e f g zero h = a
seven P a b c d e f g (suc zero) h = b
seven P a b c d e f g (suc (suc zero)) h = c
seven P a b c d e f g (suc (suc (suc zero))) h = d
seven P a b c d e f g (suc (suc (suc (suc zero)))) h = e
seven P a b c d e f g (suc (suc (suc (suc (suc zero))))) h = f
seven P a b c d e f g (suc (suc (suc (suc (suc (suc zero)))))) h = g
seven P a b c d e f g (suc (suc (suc (suc (suc (suc (suc k))))))) h = absurd (omega arith)

clears : (k : ℕ) → k < 7 → map (bit (get_or CLEAR k 0)) (range_with_len 0 128) ≡ map (λ v. 1 - bit v k) (range_with_len 0 128)
clears = seven (λ k. map (bit (get_or CLEAR k 0)) (range_with_len 0 128) ≡ map (λ v. 1 - bit v k) (range_with_len 0 128)) refl refl refl refl refl refl refl

pub clear_at : (k v : ℕ) → k < 7 → v < 128 → bit (get_or CLEAR k 0) v ≡ 1 - bit v k
clear_at k v h l =
    sym (get_or-map-range_with_len (bit (get_or CLEAR k 0)) 0 128 v v 0 l (zero-add v)) ∙ ap (λ t. get_or t v 0) (clears k h)
    ∙ get_or-map-range_with_len (λ v. 1 - bit v k) 0 128 v v 0 l (zero-add v)

abbrev IsBefore : ℕ → Type 0
IsBefore k = (v : ℕ) → bit v k ≡ 1 → (2 ^ k ≤ v) × (bit (v - 2 ^ k) k ≡ 0)

pub before_one : (k : ℕ) → k < 7 → IsBefore k
before_one =
    seven IsBefore (λ v e. (omega arith, omega arith)) (λ v e. (omega arith, omega arith)) (λ v e. (omega arith, omega arith)) (λ v e. (omega arith, omega arith)) (λ v e. (omega arith, omega arith))
    (λ v e. (omega arith, omega arith)) (λ v e. (omega arith, omega arith))

abbrev IsBeforeZero : ℕ → Type 0
IsBeforeZero k = (v : ℕ) → bit v k ≡ 0 → 2 ^ k ≤ v → bit (v - 2 ^ k) k ≡ 1

pub before_zero : (k : ℕ) → k < 7 → IsBeforeZero k
before_zero =
    seven IsBeforeZero (λ v e l. omega arith) (λ v e l. omega arith) (λ v e l. omega arith) (λ v e l. omega arith) (λ v e l. omega arith) (λ v e l. omega arith) (λ v e l. omega arith)

abbrev IsBeside : ℕ → Type 0
IsBeside k = (u : ℕ) → u < 128 → bit u k ≡ 0 → (u + 2 ^ k < 128) × (bit (u + 2 ^ k) k ≡ 1)

pub beside : (k : ℕ) → k < 7 → IsBeside k
beside =
    seven IsBeside (λ v l e. (omega arith, omega arith)) (λ v l e. (omega arith, omega arith)) (λ v l e. (omega arith, omega arith)) (λ v l e. (omega arith, omega arith)) (λ v l e. (omega arith, omega arith))
    (λ v l e. (omega arith, omega arith)) (λ v l e. (omega arith, omega arith))

abbrev IsCleared : ℕ → Type 0
IsCleared k = (u : ℕ) → bit (with_bit k u 0) k ≡ 0

pub cleared : (k : ℕ) → k < 7 → IsCleared k
cleared = seven IsCleared (λ u. omega arith) (λ u. omega arith) (λ u. omega arith) (λ u. omega arith) (λ u. omega arith) (λ u. omega arith) (λ u. omega arith)

abbrev IsWithin : ℕ → Type 0
IsWithin k = (u v : ℕ) → u < 128 → with_bit k u (bit v k) < 128

pub within : (k : ℕ) → k < 7 → IsWithin k
within = seven IsWithin (λ u v l. omega arith) (λ u v l. omega arith) (λ u v l. omega arith) (λ u v l. omega arith) (λ u v l. omega arith) (λ u v l. omega arith) (λ u v l. omega arith)

-- the low k bits of v below the other bits of u
abbrev pub mixed : ℕ → ℕ → ℕ → ℕ
mixed k u v = u / 2 ^ k * 2 ^ k + v % 2 ^ k

abbrev IsMore : ℕ → Type 0
IsMore k = (u v : ℕ) → mixed k (with_bit k u (bit v k)) (with_bit k v (bit u k)) ≡ mixed (k + 1) u v

pub mixed_more : (k : ℕ) → k < 7 → IsMore k
mixed_more = seven IsMore (λ u v. omega arith) (λ u v. omega arith) (λ u v. omega arith) (λ u v. omega arith) (λ u v. omega arith) (λ u v. omega arith) (λ u v. omega arith)
