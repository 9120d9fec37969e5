-- Bytes that spell no bit past so many.
use Rattle.std.proofs.Common.{◌≡◌, ℕ, ◌+◌, ◌-◌, ◌*◌, ◌/◌, ◌%◌, ◌^◌, ◌<◌, ◌≤◌, ltb, eqb, true, ◌⊎◌, List, [], ◌∷◌, length, drop, get_or, sym, ap, subst, ◌∙◌, inl, inr, arith}
use Rattle.std.proofs.Math.Nat.{div-lt_iff_lt-mul, div-eq_of_lt}
use Rattle.std.proofs.lemmas.Nat.{pow_pos, pow-add, le-div}
use Rattle.std.proofs.lemmas.List.{drop_more, drop_all}
use Rattle.std.proofs.lemmas.Bool.{cases_lt, lt-ltb, le-ltb, eq-eqb, ne_eqb}
use Rattle.column_store.specs.Digits.{number_of_bytes}
use Rattle.column_store.proofs.ByteDigits.{AreBytes, number-drop, number-lt}

pub whole_bytes_fit : (bytes : List ℕ) (bits : ℕ) → AreBytes bytes → length bytes ≡ (bits + 7) / 8 → bits % 8 ≡ 0 → true ≡ ltb (number_of_bytes bytes) (2 ^ bits)
whole_bytes_fit bytes bits h len none =
    let k : 8 * length bytes ≡ bits = omega arith in
    let P : ℕ → Type 0 = λ n. number_of_bytes bytes < 2 ^ n in
    sym (lt-ltb (number_of_bytes bytes) (2 ^ bits) (subst P k (number-lt bytes h)))

last_is : (bytes : List ℕ) → AreBytes bytes → 0 < length bytes → number_of_bytes bytes / 2 ^ (8 * (length bytes - 1)) ≡ get_or bytes (length bytes - 1) 0
last_is bytes h some =
    let q = length bytes - 1 in
    let one : drop q bytes ≡ get_or bytes q 0 ∷ [] = drop_more bytes q 0 (omega arith) ∙ ap (λ xs. get_or bytes q 0 ∷ xs) (drop_all (q + 1) bytes (omega arith)) in
    number-drop q bytes h ∙ ap number_of_bytes one ∙ omega arith

-- by the bits of the last byte
pub last_byte_decides : (bytes : List ℕ) (bits : ℕ) → AreBytes bytes → length bytes ≡ (bits + 7) / 8 → 0 < bits % 8
    → eqb (get_or bytes (length bytes - 1) 0 / 2 ^ (bits % 8)) 0 ≡ ltb (number_of_bytes bytes) (2 ^ bits)
last_byte_decides bytes bits h len some =
    let q = length bytes - 1 in
    let used = bits % 8 in
    let last = get_or bytes q 0 in
    let n = number_of_bytes bytes in
    let is = last_is bytes h (omega arith) in
    let k : 2 ^ used * 2 ^ (8 * q) ≡ 2 ^ bits = sym (pow-add 2 used (8 * q)) ∙ ap (λ x. 2 ^ x) (omega arith) in
    let both = div-lt_iff_lt-mul {k = 2 ^ (8 * q)} {x = n} {y = 2 ^ used} (pow_pos (8 * q)) in
    elim (cases_lt last (2 ^ used)) [
      | inl lt ↦ eq-eqb (last / 2 ^ used) 0 (div-eq_of_lt {n = last} {m = 2 ^ used} lt) ∙ sym (lt-ltb n (2 ^ bits) (omega (arith, both.0 (omega arith), k)))
      | inr ge ↦ ne_eqb (last / 2 ^ used) 0 (λ e. absurd (omega (arith, e, le-div 1 last (2 ^ used) (pow_pos used) (omega arith))))
          ∙ sym (le-ltb n (2 ^ bits) (le_of (cases_lt n (2 ^ bits)) (λ lt. absurd (omega (arith, both.1 (omega (arith, k)), is)))))
    ]
  where
    le_of : {n m : ℕ} → (n < m) ⊎ (m ≤ n) → (n < m → ⊥) → m ≤ n
    le_of (inl lt) never = absurd (never lt)
    le_of (inr le) never = le
