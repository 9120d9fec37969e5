-- Where the bits of a claim's column stand, and its table's extension at a point.
use Rattle.std.proofs.Common.{◌≡◌, ℕ, suc, ◌+◌, ◌-◌, ◌*◌, ◌/◌, ◌%◌, ◌^◌, ◌<◌, ◌≤◌, Bool, true, false, cond, List, [], ◌∷◌, length, drop, get_or, min, Some, bit_xor, option_map, unwrap_or, refl, sym, ap, subst, ◌∙◌, inl, inr, ◌⊎◌, arith}
use Rattle.std.proofs.lemmas.Bool.{cases_lt}
use Rattle.std.proofs.lemmas.List.{drop_all}
use Rattle.std.proofs.lemmas.Nat.{div-add-mod', one_shl}
use Rattle.std.specs.List.{AllByRecursion}
use Rattle.tower_laws.specs.Tower.{mul}
use Rattle.cube_laws.specs.Extension.{bits_of, eq_points}
use Rattle.tower_laws.proofs.Field.{identity, field_terms}
use Rattle.tower_laws.proofs.Levels.{field_assoc}
use Rattle.list_laws.proofs.Lists.{drop_here}
use Rattle.list_laws.proofs.Powers.{power_bound}
use Rattle.sumcheck.specs.declared.column_claim.ColumnClaim.{ColumnClaim}
use Rattle.table_shape.specs.Placement.{Block, bits_taken, is_block, offset, places_log}
use Rattle.bit_claim.specs.Bits.{block_in, size_in, IsPlaced}
use Rattle.bit_claim.proofs.Standing.{held}

-- ---- a column's block
pub block_within : (t c : ℕ) (bs : List Block) (b : Block) → block_in t c bs ≡ Some b → offset t c bs + 2 ^ b.log_bits ≤ bits_taken bs
block_within t c [] b e = absurd cc
block_within t c (d ∷ bs) b e = go (is_block t c d) e (block_within t c bs b)
  where
    go : (u : Bool) → cond u (Some d) (block_in t c bs) ≡ Some b → (block_in t c bs ≡ Some b → offset t c bs + 2 ^ b.log_bits ≤ bits_taken bs) → cond u 0 (2 ^ d.log_bits + offset t c bs) + 2 ^ b.log_bits ≤ 2 ^ d.log_bits + bits_taken bs
    go true e rest = let same : d ≡ b = cc in let size = ap (λ (x : Block). 2 ^ x.log_bits) same in omega (arith, size)
    go false e rest = let h = rest e in omega (arith, h)

log_at_most : (x y : ℕ) → 2 ^ x ≤ 2 ^ y → x ≤ y
log_at_most x y h = elim (cases_lt y x) [
  | inl lt ↦ let more = power_bound (suc y) x (omega (arith, lt)) in let some = power_bound 0 y (omega arith) in let twice : 2 ^ suc y ≡ 2 * 2 ^ y = omega arith in absurd (omega (arith, h, more, some, twice))
  | inr le ↦ le
]

pub log_small : (t c : ℕ) (bs : List Block) (b : Block) → block_in t c bs ≡ Some b → bits_taken bs ≤ 2 ^ 24 → b.log_bits ≤ 24
log_small t c bs b e few = let h = block_within t c bs b e in log_at_most b.log_bits 24 (omega (arith, h, few))

pub log_within : (t c : ℕ) (bs : List Block) (b : Block) → block_in t c bs ≡ Some b → b.log_bits ≤ places_log bs
log_within t c bs b e = let h = block_within t c bs b e in let all = held bs in log_at_most b.log_bits (places_log bs) (omega (arith, h, all))

pub points_short : (bs : List Block) (cs : List ColumnClaim) → bits_taken bs ≤ 2 ^ 24 → AllByRecursion (IsPlaced bs) cs → AllByRecursion (λ claim. length claim.point ≤ 24) cs
points_short bs [] few h = tt
points_short bs (c ∷ cs) few h =
    let b = h.0.0 in
    let small = log_small c.table c.column bs b h.0.1 few in
    (omega (arith, small, h.0.2), points_short bs cs few h.1)

pub size_is : (bs : List Block) (c : ColumnClaim) (b : Block) → IsPlaced bs c → block_in c.table c.column bs ≡ Some b → size_in bs c ≡ b.log_bits
size_is bs c b h e =
    let found : Some h.0 ≡ Some b = sym h.1 ∙ e in
    let same : h.0 ≡ b = cc in
    ap (λ o. unwrap_or (option_map (λ (b : Block). b.level) o) 0 + length c.point) h.1 ∙ h.2 ∙ ap (λ (x : Block). x.log_bits) same

pub part_small : (bs : List Block) (c : ColumnClaim) (b : Block) → IsPlaced bs c → block_in c.table c.column bs ≡ Some b → bits_taken bs ≤ 2 ^ 24 → offset c.table c.column bs / 2 ^ b.log_bits * 2 ^ size_in bs c + 2 ^ size_in bs c ≤ 2 ^ 24
part_small bs c b h e few =
    let within = block_within c.table c.column bs b e in
    let first = div-add-mod' (offset c.table c.column bs) (2 ^ b.log_bits) in
    subst (λ n. offset c.table c.column bs / 2 ^ b.log_bits * 2 ^ n + 2 ^ n ≤ 2 ^ 24) (sym (size_is bs c b h e)) (omega (arith, within, first, few))

-- ---- generators
pub generator_fits : (k : ℕ) → k < 7 → (2 ^ k < 128) × (1 * 2 ^ k % 18446744073709551616 ≡ 2 ^ k)
generator_fits k h =
    let few = power_bound k 6 (omega arith) in
    (omega (arith, few), one_shl k 64 (omega arith))

-- ---- eq of bits
eq_zero : (y : ℕ) → bit_xor (mul 0 y) (mul 1 (bit_xor 1 y)) ≡ bit_xor 1 y
eq_zero y = identity (y ∷ []) (search field_terms depth 60 fits 20000) refl

eq_one : (y : ℕ) → bit_xor (mul 1 y) (mul 0 (bit_xor 1 y)) ≡ y
eq_one y = identity (y ∷ []) (search field_terms depth 60 fits 20000) refl

-- the product so far, and eq of the bits and the coordinates that are left
abbrev pub LeftOver : ℕ → ℕ → List ℕ → ℕ → ℕ → ℕ → Type 0
LeftOver count number point k rest product = mul product (eq_points (bits_of (count - k) rest) (drop k point)) ≡ eq_points (bits_of count number) point

pub left_first : (count number : ℕ) (point : List ℕ) → LeftOver count number point 0 number 1
left_first count number point = let all : count - 0 ≡ count = omega arith in one (eq_points (bits_of (count - 0) number) point) ∙ ap (λ n. eq_points (bits_of n number) point) all
  where
    one : (x : ℕ) → mul 1 x ≡ x
    one x = identity (x ∷ []) (search field_terms depth 60 fits 20000) refl

eq_more : (n rest y : ℕ) (ys : List ℕ) (b : ℕ) → rest % 2 ≡ b → eq_points (bits_of (suc n) rest) (y ∷ ys) ≡ mul (bit_xor (mul b y) (mul (bit_xor 1 b) (bit_xor 1 y))) (eq_points (bits_of n (rest / 2)) ys)
eq_more n rest y ys b e = ap (λ a. mul (bit_xor (mul a y) (mul (bit_xor 1 a) (bit_xor 1 y))) (eq_points (bits_of n (rest / 2)) ys)) e

pub left_more : (count number : ℕ) (point : List ℕ) (k rest product y factor next b : ℕ) → k < count → k < length point → y ≡ get_or point k y → rest % 2 ≡ b → bit_xor (mul b y) (mul (bit_xor 1 b) (bit_xor 1 y)) ≡ factor → next ≡ mul product factor
    → LeftOver count number point k rest product → LeftOver count number point (k + 1) (rest / 2) next
left_more count number point k rest product y factor next b few more at bit is now left =
    let one : count - k ≡ suc (count - (k + 1)) = omega arith in
    let e = eq_points (bits_of (count - (k + 1)) (rest / 2)) (drop (k + 1) point) in
    ap (λ p. mul p e) now ∙ field_assoc product factor e
    ∙ ap (mul product) (ap (λ f. mul f e) (sym is) ∙ sym (eq_more (count - (k + 1)) rest y (drop (k + 1) point) b bit) ∙ (λ i. eq_points (bits_of (sym one i) rest) (sym (drop_here point k y more at) i)))
    ∙ left

pub factor_even : (rest y : ℕ) → rest % 2 ≡ 0 → bit_xor (mul (rest % 2) y) (mul (bit_xor 1 (rest % 2)) (bit_xor 1 y)) ≡ bit_xor 1 y
factor_even rest y e = ap (λ b. bit_xor (mul b y) (mul (bit_xor 1 b) (bit_xor 1 y))) e ∙ eq_zero y

pub factor_odd : (rest y : ℕ) → rest % 2 ≡ 1 → bit_xor (mul (rest % 2) y) (mul (bit_xor 1 (rest % 2)) (bit_xor 1 y)) ≡ y
factor_odd rest y e = ap (λ b. bit_xor (mul b y) (mul (bit_xor 1 b) (bit_xor 1 y))) e ∙ eq_one y

times_one : (p : ℕ) → mul p 1 ≡ p
times_one p = identity (p ∷ []) (search field_terms depth 60 fits 20000) refl

no_eq : (xs : List ℕ) → eq_points xs [] ≡ 1
no_eq [] = refl
no_eq (x ∷ xs) = refl

pub left_done : (count number : ℕ) (point : List ℕ) (k rest product : ℕ) → min (length point) count ≤ k → LeftOver count number point k rest product → product ≡ eq_points (bits_of count number) point
left_done count number point k rest product all left = sym (times_one product) ∙ ap (mul product) (sym (none (cases_lt k count))) ∙ left
  where
    none : (k < count) ⊎ (count ≤ k) → eq_points (bits_of (count - k) rest) (drop k point) ≡ 1
    none (inl lt) = ap (eq_points (bits_of (count - k) rest)) (drop_all k point (omega arith)) ∙ no_eq (bits_of (count - k) rest)
    none (inr le) = let zero_left : count - k ≡ 0 = omega arith in ap (λ n. eq_points (bits_of n rest) (drop k point)) zero_left
