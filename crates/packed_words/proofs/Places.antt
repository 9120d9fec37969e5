-- Tables of products with one factor, a byte at a place at a time.
use Rattle.std.proofs.Common.{◌≡◌, ℕ, suc, ◌+◌, ◌*◌, ◌/◌, ◌%◌, ◌^◌, ◌<◌, ◌≤◌, List, [], ◌∷◌, ◌++◌, length, get_or, bit_xor, bit_and, refl, sym, ◌∙◌, ap, arith, lit<}
use Rattle.std.specs.Int.Bits.{xor_zero_l, xor_zero_r}
use Rattle.std.proofs.Math.Nat.{mod-eq_of_lt, mod-lt, pow-suc, pow-le-pow_right}
use Rattle.std.proofs.lemmas.Nat.{xor_block, pow_pos, xor_comm, pow-add, div-mul-add, mod-mul-add, mod-pow-add, and_mask, one_shl}
use Rattle.cube_laws.proofs.Tabulate.{get_or-tabulate, tabulate_pushed}
use Rattle.cube_laws.proofs.Weights.{length-tabulate}
use Rattle.std.proofs.lemmas.List.{get_or_default}
use Rattle.tower_laws.specs.Tower.{mul}
use Rattle.tower_laws.proofs.Levels.{field_comm, field_zero}
use Rattle.tower_laws.proofs.Rules.{field_add_r}
use Rattle.packed_words.specs.Multiples.{entry, entries}

length-entries : (r n : ℕ) → length (entries r n) ≡ n
length-entries r n = length-tabulate n (entry r)

entry_read : (r n k : ℕ) → k < n → get_or (entries r n) k 0 ≡ entry r k
entry_read r n k h = get_or-tabulate n k (entry r) h

entries_more : (r n x : ℕ) (xs : List ℕ) → xs ≡ entries r n → x ≡ entry r n → xs ++ (x ∷ []) ≡ entries r (n + 1)
entries_more r n x xs e ex = tabulate_pushed n x (entry r) xs (xs ++ (x ∷ [])) e refl ex

entry_at : (r p b : ℕ) → b < 256 → entry r (256 * p + b) ≡ mul r (b * 2 ^ (8 * p))
entry_at r p b h =
    let e : 256 * p + b ≡ p * 256 + b = omega arith in
    let d = div-mul-add p 256 b h in
    let m = mod-mul-add p 256 b h in
    ap (entry r) e ∙ ap (λ k. mul r (k * 2 ^ (8 * ((p * 256 + b) / 256)))) m ∙ ap (λ k. mul r (b * 2 ^ (8 * k))) d

pub xor_apart : (n b a : ℕ) → a < 2 ^ n → bit_xor a (b * 2 ^ n) ≡ b * 2 ^ n + a
xor_apart n b a h =
    let x = xor_block n b 0 0 a (pow_pos n) h in
    let c = xor_comm a (b * 2 ^ n) in
    let z = xor_zero_l a in
    let y = xor_zero_r b in
    let e1 : b * 2 ^ n + 0 ≡ b * 2 ^ n = omega arith in
    let e2 : 0 * 2 ^ n + a ≡ a = omega arith in
    cc

xor_shifted : (n a b : ℕ) → bit_xor (a * 2 ^ n) (b * 2 ^ n) ≡ bit_xor a b * 2 ^ n
xor_shifted n a b =
    let x = xor_block n a b 0 0 (pow_pos n) (pow_pos n) in
    let e1 : a * 2 ^ n + 0 ≡ a * 2 ^ n = omega arith in
    let e2 : b * 2 ^ n + 0 ≡ b * 2 ^ n = omega arith in
    let e3 : bit_xor a b * 2 ^ n + 0 ≡ bit_xor a b * 2 ^ n = omega arith in
    cc

entry_double : (r p j k : ℕ) → j < 8 → k < 2 ^ j → bit_xor (entry r (256 * p + k)) (mul r (2 ^ (8 * p + j))) ≡ entry r (256 * p + (2 ^ j + k))
entry_double r p j k h l =
    let two : 2 ^ suc j ≤ 2 ^ 8 = pow-le-pow_right {n = 2} (omega arith) h in
    let top : 2 ^ j + 2 ^ j ≤ 256 = omega (arith, pow-suc 2 j) in
    let one : 2 ^ j ≡ 1 * 2 ^ j = omega arith in
    let a = entry_at r p k (omega arith) in
    let b = entry_at r p (2 ^ j + k) (omega arith) in
    let s = xor_shifted (8 * p) (2 ^ j) k in
    let x : bit_xor (2 ^ j) k ≡ 2 ^ j + k = xor_comm (2 ^ j) k ∙ ap (bit_xor k) one ∙ xor_apart j 1 k l ∙ ap (λ w. w + k) (sym one) in
    let t : 2 ^ (8 * p + j) ≡ 2 ^ j * 2 ^ (8 * p) = pow-add 2 (8 * p) j ∙ omega arith in
    let m = field_add_r r (2 ^ j * 2 ^ (8 * p)) (k * 2 ^ (8 * p)) in
    let c = xor_comm (mul r (k * 2 ^ (8 * p))) (mul r (2 ^ j * 2 ^ (8 * p))) in
    cc

byte_more : (r a p s : ℕ) → s ≡ mul r (a % 2 ^ (8 * p)) → bit_xor s (entry r (256 * p + (a / 2 ^ (8 * p)) % 256)) ≡ mul r (a % 2 ^ (8 * (p + 1)))
byte_more r a p s e =
    let b : ℕ = a / 2 ^ (8 * p) % 2 ^ 8 in
    let at : entry r (256 * p + b) ≡ mul r (b * 2 ^ (8 * p)) = entry_at r p b (mod-lt (a / 2 ^ (8 * p)) {m = 256} (lit< tt)) in
    let w : 8 + 8 * p ≡ 8 * (p + 1) = omega arith in
    let m : a % 2 ^ (8 * (p + 1)) ≡ b * 2 ^ (8 * p) + a % 2 ^ (8 * p) = ap (λ n. a % 2 ^ n) (sym w) ∙ mod-pow-add a 8 (8 * p) in
    let x : bit_xor (a % 2 ^ (8 * p)) (b * 2 ^ (8 * p)) ≡ b * 2 ^ (8 * p) + a % 2 ^ (8 * p) = xor_apart (8 * p) b (a % 2 ^ (8 * p)) (mod-lt a (pow_pos (8 * p))) in
    let f = field_add_r r (a % 2 ^ (8 * p)) (b * 2 ^ (8 * p)) in
    ap (λ w. bit_xor w (entry r (256 * p + b))) e ∙ ap (bit_xor (mul r (a % 2 ^ (8 * p)))) at ∙ sym f ∙ ap (mul r) (x ∙ sym m)

pub none_of : (r a : ℕ) → 0 ≡ mul r (a % 1)
none_of r a = let e : a % 1 ≡ 0 = omega arith in sym (ap (mul r) e ∙ field_comm r 0 ∙ field_zero r)

pub whole_of : (r a s : ℕ) → a < 2 ^ 128 → s ≡ mul r (a % 2 ^ 128) → s ≡ mul r a
whole_of r a s h e = e ∙ ap (mul r) (mod-eq_of_lt h)

-- ---- the steps of the functions
pub byte_step : (r a p s t : ℕ) (items : List ℕ) → p < 16 → items ≡ entries r 4096
    → t ≡ get_or items (256 * p + bit_and (a / 2 ^ (8 * p)) 255) t → s ≡ mul r (a % 2 ^ (8 * p)) → bit_xor s t ≡ mul r (a % 2 ^ (8 * (p + 1)))
byte_step r a p s t items h ei et es =
    let i : ℕ = 256 * p + a / 2 ^ (8 * p) % 256 in
    let m : bit_and (a / 2 ^ (8 * p)) 255 ≡ a / 2 ^ (8 * p) % 256 = and_mask (a / 2 ^ (8 * p)) 8 in
    let l = mod-lt (a / 2 ^ (8 * p)) {m = 256} (lit< tt) in
    let below : i < 4096 = omega arith in
    let len : length items ≡ 4096 = ap length ei ∙ length-entries r 4096 in
    let read : t ≡ entry r i = et ∙ ap (λ k. get_or items (256 * p + k) t) m ∙ get_or_default items i t 0 (omega arith) ∙ ap (λ w. get_or w i 0) ei ∙ entry_read r 4096 i below in
    ap (bit_xor s) read ∙ byte_more r a p s es

pub index_small : (a p : ℕ) → p < 16 → 256 * p + bit_and (a / 2 ^ (8 * p)) 255 < 4096
index_small a p h =
    let m : bit_and (a / 2 ^ (8 * p)) 255 ≡ a / 2 ^ (8 * p) % 256 = and_mask (a / 2 ^ (8 * p)) 8 in
    let l = mod-lt (a / 2 ^ (8 * p)) {m = 256} (lit< tt) in
    omega arith

pub index_below : (r a p : ℕ) (items : List ℕ) → p < 16 → items ≡ entries r 4096 → 256 * p + bit_and (a / 2 ^ (8 * p)) 255 < length items
index_below r a p items h e =
    let s = index_small a p h in
    let len : length items ≡ 4096 = ap length e ∙ length-entries r 4096 in
    omega arith

pub within : (r p j k : ℕ) (items : List ℕ) → j < 8 → k < 1 * 2 ^ j % 2 ^ 64 → items ≡ entries r (256 * p + (2 ^ j + k)) → 256 * p + k < length items
within r p j k items h l e =
    let len : length items ≡ 256 * p + (2 ^ j + k) = ap length e ∙ length-entries r (256 * p + (2 ^ j + k)) in
    omega (arith, pow_pos j)

pub product_added : (r p j k x step : ℕ) (items : List ℕ) → p < 16 → j < 8 → k < 1 * 2 ^ j % 2 ^ 64 → items ≡ entries r (256 * p + (2 ^ j + k))
    → x ≡ get_or items (256 * p + k) x → step ≡ mul r (1 * 2 ^ (8 * p + j) % 2 ^ 128) → items ++ (bit_xor x step ∷ []) ≡ entries r (256 * p + (2 ^ j + (k + 1)))
product_added r p j k x step items hp h l e ex es =
    let n : ℕ = 256 * p + (2 ^ j + k) in
    let below : k < 2 ^ j = let one = one_shl j 64 (omega arith) in omega arith in
    let read : x ≡ entry r (256 * p + k) =
    ex ∙ get_or_default items (256 * p + k) x 0 (within r p j k items h l e) ∙ ap (λ w. get_or w (256 * p + k) 0) e ∙ entry_read r n (256 * p + k) (omega (arith, pow_pos j)) in
    let one : step ≡ mul r (2 ^ (8 * p + j)) = es ∙ ap (mul r) (one_shl (8 * p + j) 128 (omega arith)) in
    let value : bit_xor x step ≡ entry r n = ap (λ w. bit_xor w step) read ∙ ap (bit_xor (entry r (256 * p + k))) one ∙ entry_double r p j k h below in
    let next : n + 1 ≡ 256 * p + (2 ^ j + (k + 1)) = omega arith in
    entries_more r n (bit_xor x step) items e value ∙ ap (entries r) next

pub place_begun : (r p : ℕ) (items : List ℕ) → items ≡ entries r (256 * p) → items ++ (0 ∷ []) ≡ entries r (256 * p + 1)
place_begun r p items e =
    let z : 256 * p ≡ 256 * p + 0 = omega arith in
    let none : 0 * 2 ^ (8 * p) ≡ 0 = omega arith in
    entries_more r (256 * p) 0 items e (sym (ap (entry r) z ∙ entry_at r p 0 (lit< tt) ∙ ap (mul r) none ∙ field_comm r 0 ∙ field_zero r))

-- how many products there are before one is added, and that there is room for it
pub few_before : (r p j k : ℕ) (items : List ℕ) → p < 16 → j < 8 → k < 1 * 2 ^ j % 2 ^ 64 → items ≡ entries r (256 * p + (2 ^ j + k)) → length items < 4096
few_before r p j k items hp h l e =
    let len : length items ≡ 256 * p + (2 ^ j + k) = ap length e ∙ length-entries r (256 * p + (2 ^ j + k)) in
    let two : 2 ^ suc j ≤ 2 ^ 8 = pow-le-pow_right {n = 2} (omega arith) h in
    let below : k < 2 ^ j = let one = one_shl j 64 (omega arith) in omega arith in
    omega (arith, pow-suc 2 j)

pub few_places : (r p : ℕ) (items : List ℕ) → p < 16 → items ≡ entries r (256 * p) → length items < 4096
few_places r p items h e = let len : length items ≡ 256 * p = ap length e ∙ length-entries r (256 * p) in omega arith
