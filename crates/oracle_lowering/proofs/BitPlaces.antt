-- The bits of values and blocks by their places, and words by their bits.
use Rattle.std.proofs.Common.{◌≡◌, ℕ, zero, suc, ◌+◌, ◌-◌, ◌*◌, ◌/◌, ◌%◌, ◌^◌, ◌<◌, ◌≤◌, List, [], ◌∷◌, ◌++◌, length, take, drop, get_or, length-append, bit_and, nat_eq, refl, sym, ap, ◌∙◌, inl, inr, arith}
use Rattle.std.proofs.lemmas.Bool.{cases_lt}
use Rattle.std.specs.List.{AllByRecursion}
use Rattle.std.proofs.Math.Seq.{drop-append-add, take-append_seam}
use Rattle.std.proofs.lemmas.List.{drop_all, get_or_append_left, get_or-append_right, get_or_past}
use Rattle.std.proofs.lemmas.Nat.Bits.{bit_at-lt, bit_at-suc, bit_at-zero, bit_at_lowest, shr_and_one}
use Rattle.std.proofs.Math.Nat.{div-eq-sub-div, div-eq_of_lt, mod-eq-sub-mod, mod-eq_of_lt}
use Rattle.cube_laws.specs.Extension.{bit}
use Rattle.cube_laws.specs.Sums.{tabulate}
use Rattle.cube_laws.proofs.Tabulate.{get_or-tabulate}
use Rattle.cube_laws.proofs.Weights.{length-tabulate}
use Rattle.shift_laws.specs.Shifts.{flag}
use Rattle.tensor_laws.specs.Tensor.{bits_of_table, from_bits}
use Rattle.table_shape.specs.Filling.{Filling, values_of}
use Rattle.table_shape.specs.Oracle.{block_bits}
use Rattle.table_shape.specs.Placement.{Block, bits_taken}

-- ---- the bits of values

pub length-bits_of_table : (n : ℕ) (table : List ℕ) → length (bits_of_table n table) ≡ length table * n
length-bits_of_table n [] = omega arith
length-bits_of_table n (t ∷ table) =
    let more : suc (length table) * n ≡ n + length table * n = grind (arith) in
    length-append (tabulate n (bit t)) (bits_of_table n table) ∙ (λ i. length-tabulate n (bit t) i + length-bits_of_table n table i) ∙ sym more

-- place p of values of n bits has bit p % n of value p / n
pub bit_of_value : (n : ℕ) (table : List ℕ) (p : ℕ) → 0 < n → get_or (bits_of_table n table) p 0 ≡ bit (get_or table (p / n) 0) (p % n)
bit_of_value n [] p h = sym (bit_at-zero (p % n))
bit_of_value n (t ∷ table) p h = elim (cases_lt p n) [
  | inl lt ↦
      get_or_append_left (tabulate n (bit t)) (bits_of_table n table) 0 p (omega (arith, length-tabulate n (bit t)))
      ∙ get_or-tabulate n p (bit t) lt
      ∙ sym (λ i. bit (get_or (t ∷ table) (div-eq_of_lt lt i) 0) (mod-eq_of_lt lt i))
  | inr le ↦
      let next : p / n ≡ suc ((p - n) / n) = div-eq-sub-div h le ∙ omega arith in
      get_or-append_right (tabulate n (bit t)) (bits_of_table n table) n p 0 (length-tabulate n (bit t)) le
      ∙ bit_of_value n table (p - n) h
      ∙ sym (λ i. bit (get_or (t ∷ table) (next i) 0) (mod-eq-sub-mod le i))
]

-- ---- the bits of blocks

-- a block whose column has just its bits
abbrev pub HasBits : Filling → Block → Type 0
HasBits filling b = length (values_of filling b.table b.column) * 2 ^ b.level ≡ 2 ^ b.log_bits

-- the bits of its column
abbrev pub own_bits : Filling → Block → List ℕ
own_bits filling b = bits_of_table (2 ^ b.level) (values_of filling b.table b.column)

pub length-own_bits : (filling : Filling) (b : Block) → HasBits filling b → length (own_bits filling b) ≡ 2 ^ b.log_bits
length-own_bits filling b h = length-bits_of_table (2 ^ b.level) (values_of filling b.table b.column) ∙ h

pub bit_within : (filling : Filling) (b : Block) (bs : List Block) (p : ℕ) → HasBits filling b → p < 2 ^ b.log_bits → get_or (block_bits filling (b ∷ bs)) p 0 ≡ get_or (own_bits filling b) p 0
bit_within filling b bs p h lt = get_or_append_left (own_bits filling b) (block_bits filling bs) 0 p (omega (arith, length-own_bits filling b h))

pub bit_past : (filling : Filling) (b : Block) (bs : List Block) (p : ℕ) → HasBits filling b → 2 ^ b.log_bits ≤ p → get_or (block_bits filling (b ∷ bs)) p 0 ≡ get_or (block_bits filling bs) (p - 2 ^ b.log_bits) 0
bit_past filling b bs p h le = get_or-append_right (own_bits filling b) (block_bits filling bs) (2 ^ b.log_bits) p 0 (length-own_bits filling b h) le

-- zeros behind a list don't change what stands at a place
pub zeros_behind : (xs : List ℕ) (n p : ℕ) → get_or (xs ++ tabulate n (λ _. 0)) p 0 ≡ get_or xs p 0
zeros_behind (x ∷ xs) n zero = refl
zeros_behind (x ∷ xs) n (suc p) = zeros_behind xs n p
zeros_behind [] n p = elim (cases_lt p n) [
  | inl lt ↦ get_or-tabulate n p (λ _. 0) lt
  | inr le ↦ get_or_past (tabulate n (λ _. 0)) p 0 (omega (arith, length-tabulate n (λ _. 0)))
]

-- ---- words by their bits

pub no_bits : (n : ℕ) → from_bits (take n []) ≡ 0
no_bits zero = refl
no_bits (suc n) = refl

-- the number of n + 1 bits from place p on, by its lowest
pub lowest_bit : (bits : List ℕ) (n p : ℕ) → from_bits (take (suc n) (drop p bits)) ≡ get_or bits p 0 + 2 * from_bits (take n (drop (suc p) bits))
lowest_bit [] n zero = let none = no_bits n in omega (arith, none)
lowest_bit [] n (suc p) = let none = no_bits n in omega (arith, none)
lowest_bit (b ∷ bits) n zero = refl
lowest_bit (b ∷ bits) n (suc p) = lowest_bit bits n p

-- ---- parts of words

-- m + n bits from place p on
pub two_parts : (bits : List ℕ) (m n p : ℕ) → from_bits (take (m + n) (drop p bits)) ≡ from_bits (take m (drop p bits)) + 2 ^ m * from_bits (take n (drop (p + m) bits))
two_parts bits zero n p =
    let here : p + 0 ≡ p = omega arith in
    let none : 0 + n ≡ n = omega arith in
    let same : from_bits (take (0 + n) (drop p bits)) ≡ from_bits (take n (drop (p + 0) bits)) = λ i. from_bits (take (none i) (drop (sym here i) bits)) in
    omega (arith, same)
two_parts bits (suc m) n p =
    let more : suc m + n ≡ suc (m + n) = omega arith in
    let next : suc p + m ≡ p + suc m = omega arith in
    let all = ap (λ k. from_bits (take k (drop p bits))) more ∙ lowest_bit bits (m + n) p in
    let rest = two_parts bits m n (suc p) ∙ ap (λ k. from_bits (take m (drop (suc p) bits)) + 2 ^ m * from_bits (take n (drop k bits))) next in
    let low = lowest_bit bits m p in
    joined (from_bits (take (suc m + n) (drop p bits))) (from_bits (take (m + n) (drop (suc p) bits))) (from_bits (take m (drop (suc p) bits))) (from_bits (take n (drop (p + suc m) bits))) (get_or bits p 0) (from_bits (take (suc m) (drop p bits))) m all rest low
  where
    joined : (a r l h b s m : ℕ) → a ≡ b + 2 * r → r ≡ l + 2 ^ m * h → s ≡ b + 2 * l → a ≡ s + 2 ^ suc m * h
    joined a r l h b s m e f g = let twice : 2 ^ suc m ≡ 2 * 2 ^ m = omega arith in e ∙ ap (λ x. b + 2 * x) f ∙ moved b l h (2 ^ m) ∙ (λ i. sym g i + sym twice i * h)
      where
        moved : (b l h t : ℕ) → b + 2 * (l + t * h) ≡ (b + 2 * l) + (2 * t) * h
        moved b l h t = grind (arith)

-- n bits of a number of at most n bits are its own
number_of_bits : (n t : ℕ) → t < 2 ^ n → from_bits (tabulate n (bit t)) ≡ t
number_of_bits zero t h = omega arith
number_of_bits (suc n) t h =
    let twice : 2 ^ suc n ≡ 2 * 2 ^ n = omega arith in
    let rest = ap from_bits (λ i. tabulate n (λ k. bit_at-suc t k i)) ∙ number_of_bits n (t / 2) (omega arith) in
    let low = bit_at_lowest t in
    omega (arith, rest, low)

-- the bits of one value are its number
pub value_bits : (n : ℕ) (table : List ℕ) (v : ℕ) → ((p : ℕ) → get_or table p 0 < 2 ^ n) → from_bits (take n (drop (v * n) (bits_of_table n table))) ≡ get_or table v 0
value_bits n [] v h = ap (λ bs. from_bits (take n bs)) (drop_all (v * n) [] (omega arith)) ∙ no_bits n
value_bits n (t ∷ table) zero h =
    let none : 0 * n ≡ 0 = omega arith in
    ap (λ k. from_bits (take n (drop k (tabulate n (bit t) ++ bits_of_table n table)))) none
    ∙ ap from_bits (ap (λ k. take k (tabulate n (bit t) ++ bits_of_table n table)) (sym (length-tabulate n (bit t))) ∙ take-append_seam (tabulate n (bit t)) (bits_of_table n table))
    ∙ number_of_bits n t (h 0)
value_bits n (t ∷ table) (suc v) h =
    let more : suc v * n ≡ n + v * n = grind (arith) in
    let skip = ap (λ k. drop k (tabulate n (bit t) ++ bits_of_table n table)) (more ∙ ap (λ k. k + v * n) (sym (length-tabulate n (bit t)))) ∙ drop-append-add (tabulate n (bit t)) (bits_of_table n table) (v * n) in
    ap (λ bs. from_bits (take n bs)) skip ∙ value_bits n table v (λ p. h (suc p))

-- zeros behind a list don't change a word of it
pub zeros_behind_word : (xs : List ℕ) (n m p : ℕ) → from_bits (take m (drop p (xs ++ tabulate n (λ _. 0)))) ≡ from_bits (take m (drop p xs))
zeros_behind_word xs n zero p = refl
zeros_behind_word xs n (suc m) p =
    let all = lowest_bit (xs ++ tabulate n (λ _. 0)) m p in
    let own = lowest_bit xs m p in
    all ∙ (λ i. zeros_behind xs n p i + 2 * zeros_behind_word xs n m (suc p) i) ∙ sym own

-- ---- blocks passed over

pub bits_from_block : (filling : Filling) (bs : List Block) (k r : ℕ) → AllByRecursion (HasBits filling) bs → drop (bits_taken (take k bs) + r) (block_bits filling bs) ≡ drop r (block_bits filling (drop k bs))
bits_from_block filling [] zero r h = ap (λ j. drop j []) (omega arith)
bits_from_block filling [] (suc k) r h = ap (λ j. drop j []) (omega arith)
bits_from_block filling (b ∷ bs) zero r h = ap (λ j. drop j (own_bits filling b ++ block_bits filling bs)) (omega arith)
bits_from_block filling (b ∷ bs) (suc k) r h =
    let start : (2 ^ b.log_bits + bits_taken (take k bs)) + r ≡ length (own_bits filling b) + (bits_taken (take k bs) + r) = omega (arith, length-own_bits filling b h.0) in
    ap (λ j. drop j (own_bits filling b ++ block_bits filling bs)) start
    ∙ drop-append-add (own_bits filling b) (block_bits filling bs) (bits_taken (take k bs) + r)
    ∙ bits_from_block filling bs k r h.1

-- ---- the test of a bit

pub flag_of_bit : (v s : ℕ) → flag (nat_eq (bit_and (v / 2 ^ s) 1) 1) ≡ bit v s
flag_of_bit v s = ap (λ n. flag (nat_eq n 1)) (shr_and_one v s) ∙ of_bit (bit v s) (bit_at-lt v s)
  where
    of_bit : (n : ℕ) → n < 2 → flag (nat_eq n 1) ≡ n
    of_bit zero h = refl
    of_bit (suc zero) h = refl
    of_bit (suc (suc n)) h = absurd (omega arith)
