-- Values as bytes, and read again.
use Rattle.std.proofs.Common.{◌≡◌, ◌∙◌, refl, sym, ap, arith, ℕ, zero, suc, ◌+◌, ◌*◌, ◌^◌, ◌<◌, ◌≤◌, List, [], ◌∷◌, ◌++◌, length, take, drop, append_assoc}
use Rattle.std.proofs.lemmas.List.{take_at, drop_at, length-drop, length-take-le}
use Rattle.std.proofs.Math.Seq.{take-add}
use Rattle.std.specs.List.{AllByRecursion}
use Rattle.std.specs.Int.{from_le_bytes, to_le_bytes, w128}
use Rattle.tower_field.proofs.BytesAgain.{bytes_again, number_again}
use Rattle.transcript.specs.Transcript.{bytes_of}
use Rattle.proof_format.specs.Values.{values_of}

-- ---- what holds of each element
pub all_take : {X : Type 0} (P : X → Type 0) (n : ℕ) (xs : List X) → AllByRecursion P xs → AllByRecursion P (take n xs)
all_take P zero xs h = tt
all_take P (suc n) [] h = tt
all_take P (suc n) (x ∷ xs) h = (h.0, all_take P n xs h.1)

pub all_drop : {X : Type 0} (P : X → Type 0) (n : ℕ) (xs : List X) → AllByRecursion P xs → AllByRecursion P (drop n xs)
all_drop P zero xs h = h
all_drop P (suc n) [] h = tt
all_drop P (suc n) (x ∷ xs) h = all_drop P n xs h.1

-- ---- both ways
again : (vs rest : List ℕ) (n : ℕ) → length vs ≡ n → AllByRecursion (λ v. v < 2 ^ 128) vs → values_of n (bytes_of vs ++ rest) ≡ vs
again [] rest zero e h = refl
again [] rest (suc n) e h = absurd (omega arith)
again (v ∷ vs) rest zero e h = absurd (omega arith)
again (v ∷ vs) rest (suc n) e h =
    let a = append_assoc (to_le_bytes w128 v) (bytes_of vs) rest in
    let t = take_at (to_le_bytes w128 v) (bytes_of vs ++ rest) 16 refl in
    let d = drop_at (to_le_bytes w128 v) (bytes_of vs ++ rest) 16 refl in
    let k = again vs rest n (omega arith) h.1 in
    ap (values_of (suc n)) a ∙ (λ i. from_le_bytes w128 (t i) ∷ values_of n (d i)) ∙ (λ i. number_again v h.0 i ∷ k i)

pub read_again : (vs rest : List ℕ) → AllByRecursion (λ v. v < 2 ^ 128) vs → values_of (length vs) (bytes_of vs ++ rest) ≡ vs
read_again vs rest h = again vs rest (length vs) refl h

pub spelled_again : (n : ℕ) (bytes : List ℕ) → AllByRecursion (λ b. b < 256) bytes → 16 * n ≤ length bytes → bytes_of (values_of n bytes) ≡ take (16 * n) bytes
spelled_again zero bytes h l = refl
spelled_again (suc n) bytes h l =
    let first = bytes_again (take 16 bytes) (length-take-le 16 bytes (omega arith)) (all_take (λ b. b < 256) 16 bytes h) in
    let left = length-drop 16 bytes in
    let rest = spelled_again n (drop 16 bytes) (all_drop (λ b. b < 256) 16 bytes h) (omega arith) in
    let due : 16 + 16 * n ≡ 16 * suc n = omega arith in
    (λ i. first i ++ rest i) ∙ sym (take-add 16 (16 * n) bytes) ∙ ap (λ k. take k bytes) due
