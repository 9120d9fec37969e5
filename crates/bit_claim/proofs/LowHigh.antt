-- The tables of a claim for the place in a word and for the word, as they are made.
use Rattle.std.proofs.Common.{◌≡◌, ℕ, zero, suc, ◌+◌, ◌-◌, ◌*◌, ◌/◌, ◌%◌, ◌^◌, ◌<◌, ◌≤◌, List, [], ◌∷◌, ◌++◌, length, map, take, drop, get_or, bit_xor, refl, sym, ap, subst, ◌∙◌, arith}
use Rattle.std.proofs.lemmas.List.{append-nil, append_assoc, drop_all, ext_get_or, length-drop, length-map, length-take}
use Rattle.std.proofs.lemmas.Nat.{div-add-mod', one_shl, pow-add}
use Rattle.std.proofs.Math.Nat.{div-le_self, div-lt_iff_lt-mul, mod-lt, mul-le-mul_left, mul-le-mul_right}
use Rattle.tower_laws.specs.Tower.{mul}
use Rattle.tower_laws.proofs.Field.{identity, field_terms}
use Rattle.tower_laws.proofs.Lists.{get_or-scaled}
use Rattle.cube_laws.specs.Extension.{bit, bits_of, dot, fold_all, kron, weights}
use Rattle.cube_laws.specs.Sums.{tabulate}
use Rattle.cube_laws.proofs.Folding.{length-weights}
use Rattle.cube_laws.proofs.Weights.{length-tabulate}
use Rattle.batch_laws.specs.Batch.{zeros}
use Rattle.batch_laws.proofs.Batching.{get_or-zeros}
use Rattle.list_laws.proofs.Lists.{drop_here}
use Rattle.list_laws.proofs.Powers.{power_bound}
use Rattle.tensor_laws.specs.Tensor.{bits_of_table, column}
use Rattle.bit_claim.specs.Words.{high_part, low_part, rest_of, word_bits}
use Rattle.bit_claim.proofs.PlacedCells.{cells_of, placed_added, positive, product_at}
use Rattle.bit_claim.proofs.WordSums.{bits_set, column_of_block, length-low_part, one-kron}

pub word_bits_is : word_bits ≡ 2 ^ 7
unfolding word_bits
word_bits_is = refl

-- ---- the part by its lowest bits
bits_low : (d h l : ℕ) → bits_of d (h * 2 ^ d + l) ≡ bits_of d l
bits_low zero h l = refl
bits_low (suc d) h l =
    let p : 2 ^ suc d ≡ 2 * 2 ^ d = omega arith in
    let t : h * (2 * 2 ^ d) ≡ 2 * (h * 2 ^ d) = grind arith in
    let whole : h * 2 ^ suc d ≡ 2 * (h * 2 ^ d) = ap (λ m. h * m) p ∙ t in
    let one : (h * 2 ^ suc d + l) % 2 ≡ l % 2 = omega (arith, whole) in
    let half : (h * 2 ^ suc d + l) / 2 ≡ h * 2 ^ d + l / 2 = omega (arith, whole) in
    λ j. one j ∷ (ap (bits_of d) half ∙ bits_low d h (l / 2)) j

pub bits_of-mod : (d q : ℕ) → bits_of d (q % 2 ^ d) ≡ bits_of d q
bits_of-mod d q = sym (bits_low d (q / 2 ^ d) (q % 2 ^ d)) ∙ ap (bits_of d) (div-add-mod' q (2 ^ d))

-- ---- the low part
abbrev pub within : ℕ → ℕ → List ℕ → List ℕ
within k i z = take (k - i) z

-- of n weights, and where the part begins
pub record LowFits (k i q n first : ℕ) (z : List ℕ) : Type 0 where
  pub size : n * 2 ^ i ≡ 2 ^ (i + length (within k i z))
  pub begins : first ≡ q % 2 ^ rest_of k i z * 2 ^ (i + length (within k i z))
  pub room : first + n * 2 ^ i ≤ 2 ^ k
  pub small : 2 ^ k ≤ 128

rest_is : (k i : ℕ) (z : List ℕ) → i ≤ k → rest_of k i z + (i + length (within k i z)) ≡ k
rest_is k i z low = let h = length-take (k - i) z in omega (arith, h)

part_room : (r p m k : ℕ) → r < p → p * m ≡ k → r * m + m ≤ k
part_room r p m k l e = let h : r * m + m ≤ p * m = grind arith in omega (arith, h, e)

pub low_fits : (k i q rest n : ℕ) (z : List ℕ) → i ≤ k → k ≤ 7 → rest ≡ rest_of k i z → n ≡ 2 ^ length (within k i z) → LowFits k i q n (q % (1 * 2 ^ rest % 18446744073709551616) * (n * 2 ^ i % 18446744073709551616)) z
low_fits k i q rest n z low few r e =
    let w = within k i z in
    let d = rest_of k i z in
    let all = rest_is k i z low in
    let size : n * 2 ^ i ≡ 2 ^ (i + length w) =
    let swap : 2 ^ length w * 2 ^ i ≡ 2 ^ i * 2 ^ length w = grind arith in
    ap (λ m. m * 2 ^ i) e ∙ swap ∙ sym (pow-add 2 i (length w)) in
    let small : 2 ^ k ≤ 128 = power_bound k 7 few in
    let part : 2 ^ (i + length w) ≤ 2 ^ k = power_bound (i + length w) k (omega (arith, all)) in
    let whole : n * 2 ^ i % 18446744073709551616 ≡ 2 ^ (i + length w) = omega (arith, size, part, small) in
    let shift : 1 * 2 ^ rest % 18446744073709551616 ≡ 2 ^ d = one_shl rest 64 (omega (arith, r, all, few)) ∙ ap (λ m. 2 ^ m) r in
    let begins : q % (1 * 2 ^ rest % 18446744073709551616) * (n * 2 ^ i % 18446744073709551616) ≡ q % 2 ^ d * 2 ^ (i + length w) = λ j. q % shift j * whole j in
    let room : q % 2 ^ d * 2 ^ (i + length w) + 2 ^ (i + length w) ≤ 2 ^ k =
    part_room (q % 2 ^ d) (2 ^ d) (2 ^ (i + length w)) (2 ^ k) (mod-lt q (positive d)) (sym (pow-add 2 d (i + length w)) ∙ ap (λ m. 2 ^ m) all) in
    record { size = size; begins = begins; room = omega (arith, begins, size, room); small = small }

from_zero : (x : ℕ) → bit_xor 0 x ≡ x
from_zero x = identity (x ∷ []) (search field_terms depth 60 fits 20000) refl

pub low_made : (k i q factor first : ℕ) (z old new ws : List ℕ) → i ≤ k → LowFits k i q (length ws) first z → ws ≡ map (mul factor) (weights (within k i z)) → old ≡ zeros (2 ^ k) → length new ≡ length old
    → ((p : ℕ) → p < length ws * 2 ^ i → get_or new (first + p) 0 ≡ bit_xor (get_or old (first + p) 0) (product_at i ws p)) → ((p : ℕ) → p < first → get_or new p 0 ≡ get_or old p 0) → ((p : ℕ) → first + length ws * 2 ^ i ≤ p → get_or new p 0 ≡ get_or old p 0)
    → new ≡ map (mul factor) (low_part k i z q)
low_made k i q factor first z old new ws low fits w e long here before after =
    let d = rest_of k i z in
    let v = within k i z in
    let cells = cells_of old new ws first i (2 ^ (i + length v)) fits.size long here before after in
    let table = low_part k i z q in
    ext_get_or 0 new (map (mul factor) table)
    (long ∙ ap length e ∙ length-tabulate (2 ^ k) (λ p. 0) ∙ sym (length-map table (mul factor) ∙ length-low_part k i q z low))
    (λ p l.
    placed_added i d (q % 2 ^ d) v factor old new ws first (mod-lt q (positive d)) w fits.begins cells p
    ∙ (λ j. bit_xor ((ap (λ l. get_or l p 0) e ∙ get_or-zeros (2 ^ k) p) j) (mul factor (get_or (kron (kron (tabulate (2 ^ i) (λ u. 2 ^ u)) (weights v)) (weights (bits_of-mod d q j))) p 0)))
    ∙ from_zero (mul factor (get_or table p 0))
    ∙ sym (get_or-scaled factor p table))

-- ---- the high part
abbrev pub above : ℕ → ℕ → List ℕ → List ℕ
above k i z = drop (k - i) z

pub record HighFits (k i g q count : ℕ) (z : List ℕ) : Type 0 where
  pub part : q / 2 ^ rest_of k i z < 2 ^ (g - rest_of k i z)
  pub room : q / 2 ^ rest_of k i z * 2 ^ length (above k i z) + 2 ^ length (above k i z) ≤ count
  pub small : q / 2 ^ rest_of k i z * 2 ^ length (above k i z) < 2 ^ 64

pub high_fits : (k i g q count : ℕ) (z : List ℕ) → i ≤ k → k ≤ i + length z + g → q * 2 ^ (i + length z) < 2 ^ 64 → q < 2 ^ g → count ≡ 2 ^ (i + length z + g - k) → HighFits k i g q count z
high_fits k i g q count z low wide small part whole =
    let d = rest_of k i z in
    let h = length (above k i z) in
    let long = length-drop (k - i) z in
    let sum : g ≡ (g - d) + d = omega arith in
    let all : (g - d) + h ≡ i + length z + g - k = omega (arith, long) in
    let less : q / 2 ^ d < 2 ^ (g - d) = (div-lt_iff_lt-mul (positive d)).1 (subst (λ n. q < n) (ap (λ n. 2 ^ n) sum ∙ pow-add 2 (g - d) d) part) in
    let room : q / 2 ^ d * 2 ^ h + 2 ^ h ≤ count = part_room (q / 2 ^ d) (2 ^ (g - d)) (2 ^ h) count less (sym (pow-add 2 (g - d) h) ∙ ap (λ n. 2 ^ n) all ∙ sym whole) in
    record { part = less; room = room; small = omega (arith, small, fewer (q / 2 ^ d) q (2 ^ h) (2 ^ (i + length z)) (div-le_self q (2 ^ d)) (power_bound h (i + length z) (omega (arith, long)))) }
  where
    fewer : (a b c d : ℕ) → a ≤ b → c ≤ d → a * c ≤ b * d
    fewer a b c d l m = let x = mul-le-mul_right c l in let y = mul-le-mul_left b m in omega (arith, x, y)

pub high_added : (k i g q factor first : ℕ) (z old new ws : List ℕ) → q / 2 ^ rest_of k i z < 2 ^ (g - rest_of k i z) → first ≡ q / 2 ^ rest_of k i z * 2 ^ length (above k i z) → ws ≡ map (mul factor) (weights (above k i z)) → length new ≡ length old
    → ((p : ℕ) → p < length ws * 2 ^ 0 → get_or new (first + p) 0 ≡ bit_xor (get_or old (first + p) 0) (product_at 0 ws p)) → ((p : ℕ) → p < first → get_or new p 0 ≡ get_or old p 0) → ((p : ℕ) → first + length ws * 2 ^ 0 ≤ p → get_or new p 0 ≡ get_or old p 0)
    → (p : ℕ) → get_or new p 0 ≡ bit_xor (get_or old p 0) (mul factor (get_or (high_part k i z g q) p 0))
high_added k i g q factor first z old new ws part begins w long here before after p =
    let d = rest_of k i z in
    let y = above k i z in
    let none : length y ≡ 0 + length y = omega arith in
    let size : length ws * 2 ^ 0 ≡ 2 ^ (0 + length y) = times_once (length ws) ∙ ap length w ∙ length-map (weights y) (mul factor) ∙ length-weights y ∙ ap (λ n. 2 ^ n) none in
    let cells = cells_of old new ws first 0 (2 ^ (0 + length y)) size long here before after in
    placed_added 0 (g - d) (q / 2 ^ d) y factor old new ws first part w (begins ∙ ap (λ n. q / 2 ^ d * 2 ^ n) none) cells p
    ∙ ap (λ t. bit_xor (get_or old p 0) (mul factor (get_or (kron t (weights (bits_of (g - d) (q / 2 ^ d)))) p 0))) (one-kron (weights y))
  where
    times_once : (n : ℕ) → n * 2 ^ 0 ≡ n
    times_once n = omega arith

pub sums_made : (n k i g q first : ℕ) (z words ws own : List ℕ) → q / 2 ^ rest_of k i z < 2 ^ (g - rest_of k i z) → first ≡ q / 2 ^ rest_of k i z * 2 ^ length (above k i z) → ws ≡ weights (above k i z) → own ≡ take (length ws) (drop first words)
    → tabulate n (column ws own) ≡ tabulate n (column (high_part k i z g q) words)
sums_made n k i g q first z words ws own part begins w o =
    let long : length ws ≡ 2 ^ length (above k i z) = ap length w ∙ length-weights (above k i z) in
    let there : own ≡ take (2 ^ length (above k i z)) (drop (q / 2 ^ rest_of k i z * 2 ^ length (above k i z)) words) = o ∙ (λ j. take (long j) (drop (begins j) words)) in
    (λ j. tabulate n (column (w j) (there j))) ∙ (λ j. tabulate n (λ v. sym (column_of_block k i g q v z words part) j))

-- ---- words folded
-- the sum of the weights of a word's bits
abbrev pub bits_under : List ℕ → ℕ → ℕ
bits_under ws t = dot (tabulate word_bits (bit t)) ws

pub word_under : (ws : List ℕ) (t sum : ℕ) → sum ≡ dot (tabulate 128 (bit t)) ws → sum ≡ bits_under ws t
unfolding word_bits
word_under ws t sum e = e

-- the words that are done with those that are left
abbrev pub Folding : List ℕ → List ℕ → ℕ → List ℕ → Type 0
Folding ws words i made = made ++ map (bits_under ws) (drop i words) ≡ map (bits_under ws) words

pub fold_more : (ws words : List ℕ) (i t sum : ℕ) (made new : List ℕ) → i < length words → t ≡ get_or words i t → sum ≡ bits_under ws t → new ≡ made ++ sum ∷ [] → Folding ws words i made → Folding ws words (i + 1) new
fold_more ws words i t sum made new l at is e left =
    (λ j. e j ++ map (bits_under ws) (drop (i + 1) words))
    ∙ append_assoc made (sum ∷ []) (map (bits_under ws) (drop (i + 1) words))
    ∙ (λ j. made ++ is j ∷ map (bits_under ws) (drop (i + 1) words))
    ∙ ap (λ ts. made ++ map (bits_under ws) ts) (sym (drop_here words i t l at))
    ∙ left

pub fold_done : (ws rs words : List ℕ) (i : ℕ) (made : List ℕ) → length words ≤ i → length rs ≡ 7 → ws ≡ weights rs → Folding ws words i made → made ≡ fold_all rs (bits_of_table word_bits words)
fold_done ws rs words i made l seven w left =
    let size : word_bits ≡ 2 ^ length rs = word_bits_is ∙ ap (λ n. 2 ^ n) (sym seven) in
    sym (append-nil made) ∙ ap (λ ts. made ++ map (bits_under ws) ts) (sym (drop_all i words l)) ∙ left
    ∙ (λ j. map (λ t. dot (tabulate (size j) (bit t)) (w j)) words)
    ∙ sym (bits_set rs words)
    ∙ ap (λ n. fold_all rs (bits_of_table n words)) (sym size)
