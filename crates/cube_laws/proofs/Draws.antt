-- Counts of single draws.
use Rattle.std.proofs.Common.{◌≡◌, ◌≢◌, ℕ, List, [], ◌∷◌, length, bit_xor, refl, sym, arith}
use Rattle.tower_laws.specs.Tower.{mul}
use Rattle.cube_laws.specs.Extension.{fold_low}
use Rattle.tower_laws.proofs.Rules.{equal_from}
use Rattle.tower_laws.proofs.Field.{identity, from_two, field_terms}
use Rattle.tower_laws.proofs.Inverses.{zero_product}
use Rattle.counting_laws.specs.Counting.{AtMost}

-- a line is told by two of its values
slope : (r s a b c d : ℕ) → r ≢ s → bit_xor a (mul r (bit_xor a b)) ≡ bit_xor c (mul r (bit_xor c d)) → bit_xor a (mul s (bit_xor a b)) ≡ bit_xor c (mul s (bit_xor c d)) → bit_xor a b ≡ bit_xor c d
slope r s a b c d ne h k =
    equal_from (bit_xor a b) (bit_xor c d)
    (zero_product (bit_xor r s) (bit_xor (bit_xor a b) (bit_xor c d))
    (from_two 1 1 h k (identity (r ∷ s ∷ a ∷ b ∷ c ∷ d ∷ []) (search field_terms depth 60 fits 20000) refl))
    (λ (z : bit_xor r s ≡ 0). ne (equal_from r s z)))

first : (r a b c d : ℕ) → bit_xor a b ≡ bit_xor c d → bit_xor a (mul r (bit_xor a b)) ≡ bit_xor c (mul r (bit_xor c d)) → a ≡ c
first r a b c d h k = from_two r 1 h k (identity (r ∷ a ∷ b ∷ c ∷ d ∷ []) (search field_terms depth 60 fits 20000) refl)

second : (a b c d : ℕ) → bit_xor a b ≡ bit_xor c d → a ≡ c → b ≡ d
second a b c d h k = from_two 1 1 h k (identity (a ∷ b ∷ c ∷ d ∷ []) (search field_terms depth 60 fits 20000) refl)

pub same_pairs : (r s : ℕ) (xs ys : List ℕ) → r ≢ s → length xs ≡ length ys → fold_low r xs ≡ fold_low r ys → fold_low s xs ≡ fold_low s ys → xs ≡ ys
same_pairs r s [] [] ne l h k = refl
same_pairs r s [] (c ∷ ys) ne l h k = absurd (omega arith)
same_pairs r s (a ∷ xs) [] ne l h k = absurd (omega arith)
same_pairs r s (a ∷ []) (c ∷ []) ne l h k = h
same_pairs r s (a ∷ []) (c ∷ d ∷ ys) ne l h k = absurd (omega arith)
same_pairs r s (a ∷ b ∷ xs) (c ∷ []) ne l h k = absurd (omega arith)
same_pairs r s (a ∷ b ∷ xs) (c ∷ d ∷ ys) ne l h k =
    let h0 : bit_xor a (mul r (bit_xor a b)) ≡ bit_xor c (mul r (bit_xor c d)) = cc in
    let k0 : bit_xor a (mul s (bit_xor a b)) ≡ bit_xor c (mul s (bit_xor c d)) = cc in
    let h1 : fold_low r xs ≡ fold_low r ys = cc in
    let k1 : fold_low s xs ≡ fold_low s ys = cc in
    let m = slope r s a b c d ne h0 k0 in
    let p = first r a b c d m h0 in
    let q = second a b c d m p in
    let t = same_pairs r s xs ys ne (omega arith) h1 k1 in
    cc

-- of two lists that differ, one variable set makes them equal for at most one value
pub coordinate : (xs ys : List ℕ) → length xs ≡ length ys → (xs ≡ ys → ⊥) → AtMost 1 (λ r. fold_low r xs ≡ fold_low r ys)
coordinate xs ys l ne [] d h = omega arith
coordinate xs ys l ne (r ∷ []) d h = omega arith
coordinate xs ys l ne (r ∷ s ∷ rs) d h = absurd (ne (same_pairs r s xs ys (λ e. d.0.0 (sym e)) l h.0 h.1.0))
