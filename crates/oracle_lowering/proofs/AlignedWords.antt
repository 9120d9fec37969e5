-- Words within a block, and words of whole blocks.
use Rattle.std.proofs.Common.{◌≡◌, ℕ, zero, suc, ◌+◌, ◌-◌, ◌*◌, ◌/◌, ◌%◌, ◌^◌, ◌<◌, ◌≤◌, List, [], ◌∷◌, ◌++◌, length, take, drop, get_or, Some, sym, ap, ◌∙◌, subst, arith}
use Rattle.std.specs.Prelude.{slice_get}
use Rattle.std.proofs.lemmas.Nat.{div-add-mod', mod-mul-add, mul-le, one_shl, pow-add, shl_whole}
use Rattle.std.proofs.Math.Nat.{add_comm, lt_of_mul-lt-mul_right, mul-add-mod_self_right, mul-div_cancel, mul-mod_left}
use Rattle.cube_laws.specs.Sums.{tabulate}
use Rattle.tensor_laws.specs.Tensor.{bits_of_table, from_bits}
use Rattle.list_laws.proofs.Powers.{power_bound}
use Rattle.table_shape.specs.Filling.{Filling}
use Rattle.table_shape.specs.Oracle.{block_bits}
use Rattle.table_shape.specs.Placement.{Block, bits_taken}
use Rattle.bit_claim.proofs.Falling.{Falls, aligned}
use Rattle.oracle_lowering.proofs.BitPlaces.{no_bits, own_bits, two_parts, value_bits, zeros_behind_word}
use Rattle.oracle_lowering.proofs.Spots.{AllHaveBits, bits_more, past_blocks, within_block}

-- ---- multiples of powers of two

power_part : (x y : ℕ) → y ≤ x → 2 ^ x ≡ 2 ^ (x - y) * 2 ^ y
power_part x y h = let same : x ≡ x - y + y = omega arith in ap (λ n. 2 ^ n) same ∙ pow-add 2 (x - y) y

positive : (x : ℕ) → 0 < 2 ^ x
positive x = omega (arith, power_bound 0 x (omega arith))

regroup : (a b c : ℕ) → a * (b * c) ≡ (a * b) * c
regroup a b c = grind (arith)

pub whole_values : (t y l : ℕ) → l ≤ y → t * 2 ^ y / 2 ^ l * 2 ^ l ≡ t * 2 ^ y
whole_values t y l h =
    let parts = ap (λ n. t * n) (power_part y l h) ∙ regroup t (2 ^ (y - l)) (2 ^ l) in
    ap (λ n. n / 2 ^ l * 2 ^ l) parts ∙ ap (λ n. n * 2 ^ l) (mul-div_cancel (t * 2 ^ (y - l)) (positive l)) ∙ sym parts

-- a place of a large block that is a multiple of 128 stands there at such a multiple
pub record IsAligned (r x : ℕ) : Type 0 where
  pub times : ℕ
  pub is : r ≡ times * 128
  pub room : r + 128 ≤ 2 ^ x

pub large_aligned : (w q x r : ℕ) → 7 ≤ x → q * 2 ^ x + r ≡ 128 * w → r < 2 ^ x → IsAligned r x
large_aligned w q x r h e lt =
    let size : 2 ^ x ≡ 2 ^ (x - 7) * 128 = power_part x 7 h in
    let start : q * 2 ^ x ≡ (q * 2 ^ (x - 7)) * 128 = ap (λ n. q * n) size ∙ regroup q (2 ^ (x - 7)) 128 in
    record {
      times = w - q * 2 ^ (x - 7);
      is = omega (arith, start, e);
      room = omega (arith, start, e, size, lt);
    }

-- one of a small block is its first
pub small_aligned : (w q x r : ℕ) → x < 7 → q * 2 ^ x + r ≡ 128 * w → r < 2 ^ x → r ≡ 0
small_aligned w q x r h e lt =
    let parts : 128 * w ≡ (w * 2 ^ (7 - x)) * 2 ^ x = ap (λ n. n * w) (power_part 7 x (omega arith)) ∙ moved (2 ^ (7 - x)) (2 ^ x) w in
    sym (mod-mul-add q (2 ^ x) r lt) ∙ ap (λ n. n % 2 ^ x) (e ∙ parts) ∙ mul-mod_left (w * 2 ^ (7 - x)) (2 ^ x)
  where
    moved : (a b w : ℕ) → (a * b) * w ≡ (w * a) * b
    moved a b w = grind (arith)

-- ---- words by the blocks that have them

starts : (bs : List Block) (k : ℕ) (b : Block) → Falls 35 bs → slice_get bs k ≡ Some b → (q : ℕ) × (bits_taken (take k bs) ≡ q * 2 ^ b.log_bits)
starts bs k b falls at = aligned 35 k bs b falls at

-- what a word that starts within a block has
pub record IsWithin (filling : Filling) (bs : List Block) (z w r : ℕ) (b : Block) : Type 0 where
  pub small : r < 2 ^ 40
  pub word : from_bits (take (128 / 2 ^ b.level * 2 ^ b.level) (drop (r / 2 ^ b.level * 2 ^ b.level) (own_bits filling b))) ≡ from_bits (take 128 (drop (128 * w) (block_bits filling bs ++ tabulate z (λ _. 0))))

pub word_within : (filling : Filling) (bs : List Block) (z w k r : ℕ) (b : Block) → AllHaveBits filling bs → Falls 35 bs → slice_get bs k ≡ Some b → bits_taken (take k bs) + r ≡ 128 * w → r < 2 ^ b.log_bits
    → 7 ≤ b.log_bits → b.log_bits ≤ 34 → b.level ≤ 7 → IsWithin filling bs z w r b
word_within filling bs z w k r b all falls at stands within large small level =
    let start = starts bs k b falls at in
    let is = large_aligned w start.0 b.log_bits r large (ap (λ n. n + r) (sym start.1) ∙ stands) within in
    let first : r / 2 ^ b.level * 2 ^ b.level ≡ r = ap (λ n. n / 2 ^ b.level * 2 ^ b.level) is.is ∙ whole_values is.times 7 b.level level ∙ sym is.is in
    let whole : 128 / 2 ^ b.level * 2 ^ b.level ≡ 128 = whole_values 1 7 b.level level in
    record {
      small = omega (arith, within, power_bound b.log_bits 34 small);
      word =
          (λ i. from_bits (take (whole i) (drop (first i) (own_bits filling b))))
          ∙ ap from_bits (sym (within_block filling bs k r 128 b all at is.room))
          ∙ ap (λ n. from_bits (take 128 (drop n (block_bits filling bs)))) stands
          ∙ sym (zeros_behind_word (block_bits filling bs) z 128 (128 * w));
    }

-- a word that starts in a small block starts with its first bit
pub word_from : (filling : Filling) (bs : List Block) (z w k r : ℕ) (b : Block) → Falls 35 bs → slice_get bs k ≡ Some b → bits_taken (take k bs) + r ≡ 128 * w → r < 2 ^ b.log_bits → b.log_bits < 7
    → from_bits (take 128 (drop (bits_taken (take k bs)) (block_bits filling bs))) ≡ from_bits (take 128 (drop (128 * w) (block_bits filling bs ++ tabulate z (λ _. 0))))
word_from filling bs z w k r b falls at stands within small =
    let start = starts bs k b falls at in
    let none = small_aligned w start.0 b.log_bits r small (ap (λ n. n + r) (sym start.1) ∙ stands) within in
    let here : bits_taken (take k bs) ≡ 128 * w = omega (arith, none, stands) in
    ap (λ n. from_bits (take 128 (drop n (block_bits filling bs)))) here ∙ sym (zeros_behind_word (block_bits filling bs) z 128 (128 * w))

pub word_past : (filling : Filling) (bs : List Block) (z w k r : ℕ) → AllHaveBits filling bs → length bs ≤ k → bits_taken (take k bs) + r ≡ 128 * w → 0 ≡ from_bits (take 128 (drop (128 * w) (block_bits filling bs ++ tabulate z (λ _. 0))))
word_past filling bs z w k r all le stands =
    sym (
    zeros_behind_word (block_bits filling bs) z 128 (128 * w)
    ∙ ap (λ n. from_bits (take 128 (drop n (block_bits filling bs)))) (sym stands)
    ∙ ap (λ xs. from_bits (take 128 xs)) (past_blocks filling bs k r all le)
    ∙ no_bits 128
    )

-- ---- one value more

place_sum : (a v m n : ℕ) → a < 2 ^ m → v < 2 ^ n → a + v * 2 ^ m < 2 ^ (m + n)
place_sum a v m n small fits =
    let most = mul-le (v + 1) (2 ^ m) (2 ^ n) (2 ^ m) (omega arith) (omega arith) in
    let more : (v + 1) * 2 ^ m ≡ v * 2 ^ m + 2 ^ m = grind (arith) in
    let all : 2 ^ (m + n) ≡ 2 ^ n * 2 ^ m = ap (λ k. 2 ^ k) (add_comm m n) ∙ pow-add 2 n m in
    omega (arith, most, more, all, small)

turned : (l h n : ℕ) → l + h * n ≡ l + n * h
turned l h n = grind (arith)

-- n bits above m others, of at most 128 together
pub record IsJoined (number v m n : ℕ) : Type 0 where
  pub shift : v * 2 ^ m % 2 ^ 128 ≡ v * 2 ^ m
  pub fits : number + v * 2 ^ m < 2 ^ (m + n)
  pub most : 2 ^ (m + n) ≤ 2 ^ 128

pub joined : (number v m n : ℕ) → number < 2 ^ m → v < 2 ^ n → m + n ≤ 128 → IsJoined number v m n
joined number v m n small fits room = record {
  shift = shl_whole v n m 128 fits (omega arith);
  fits = place_sum number v m n small fits;
  most = power_bound (m + n) 128 room;
}

-- the value at k above those before it, where the code shifts within 64 and 128 bits
pub record IsNextValue (level k number v first : ℕ) (values : List ℕ) : Type 0 where
  pub small : number + v * 2 ^ (k * (1 * 2 ^ level % 2 ^ 64)) % 2 ^ 128 < 2 ^ 128
  pub value : number + v * 2 ^ (k * (1 * 2 ^ level % 2 ^ 64)) % 2 ^ 128 ≡ from_bits (take ((k + 1) * 2 ^ level) (drop (first * 2 ^ level) (bits_of_table (2 ^ level) values)))
  pub fits : number + v * 2 ^ (k * (1 * 2 ^ level % 2 ^ 64)) % 2 ^ 128 < 2 ^ ((k + 1) * 2 ^ level)

pub next_value : (level k count number v first : ℕ) (values : List ℕ) → level ≤ 7 → k < count → count * 2 ^ level ≤ 128 → ((p : ℕ) → get_or values p 0 < 2 ^ (2 ^ level)) → v ≡ get_or values (first + k) 0
    → number ≡ from_bits (take (k * 2 ^ level) (drop (first * 2 ^ level) (bits_of_table (2 ^ level) values))) → number < 2 ^ (k * 2 ^ level) → IsNextValue level k number v first values
next_value level k count number v first values is_a_level below room fits v_is number_is small =
    let w = 2 ^ level in
    let bits = bits_of_table w values in
    let more : (k + 1) * w ≡ k * w + w = grind (arith) in
    let place : first * w + k * w ≡ (first + k) * w = grind (arith) in
    let most = mul-le (k + 1) w count w (omega arith) (omega arith) in
    let fits_here : v < 2 ^ w = subst (λ n. n < 2 ^ w) (sym v_is) (fits (first + k)) in
    let one = joined number v (k * w) w small fits_here (omega (arith, more, most, room)) in
    let shift = ap (λ n. v * 2 ^ (k * n) % 2 ^ 128) (one_shl level 64 (omega arith)) ∙ one.shift in
    let length_is = ap (λ n. 2 ^ n) more in
    let high : from_bits (take w (drop (first * w + k * w) bits)) ≡ v = ap (λ n. from_bits (take w (drop n bits))) place ∙ value_bits w values (first + k) fits ∙ sym v_is in
    record {
      small = omega (arith, shift, one.fits, one.most);
      value = ap (λ n. number + n) shift ∙ (λ i. number_is i + v * 2 ^ (k * w)) ∙ turned (from_bits (take (k * w) (drop (first * w) bits))) v (2 ^ (k * w)) ∙ sym (
          ap (λ n. from_bits (take n (drop (first * w) bits))) more ∙ two_parts bits (k * w) w (first * w) ∙ ap (λ n. from_bits (take (k * w) (drop (first * w) bits)) + 2 ^ (k * w) * n) high
          );
      fits = omega (arith, shift, one.fits, length_is);
    }

-- ---- one block more

-- a block behind others of a word of which t bits are taken
pub record FollowsBits (filling : Filling) (bs : List Block) (k t : ℕ) (b : Block) : Type 0 where
  pub room : t + 2 ^ b.log_bits ≤ 128
  pub bits : take (2 ^ b.log_bits) (drop (bits_taken (take k bs)) (block_bits filling bs)) ≡ take (2 ^ b.log_bits) (own_bits filling b)
  pub next : bits_taken (take (k + 1) bs) ≡ bits_taken (take k bs) + 2 ^ b.log_bits

multiple_room : (a c n y t : ℕ) → a * n ≡ c * n + t → t < y * n → 0 < n → t + n ≤ y * n
multiple_room a c n y t e lt pos =
    let none : t % n ≡ 0 = sym (mul-add-mod_self_right c n t) ∙ ap (λ m. m % n) (sym e) ∙ mul-mod_left a n in
    let parts : t ≡ t / n * n = omega (arith, none, div-add-mod' t n) in
    let below : t / n < y = lt_of_mul-lt-mul_right n {m = t / n} {n = y} (omega (arith, parts, lt)) in
    let most = mul-le (t / n + 1) n y n (omega (arith, below)) (omega arith) in
    let more : (t / n + 1) * n ≡ t / n * n + n = grind (arith) in
    omega (arith, most, more, parts)

falls_from : (log k : ℕ) (bs : List Block) (b : Block) → Falls log bs → slice_get bs k ≡ Some b → b.log_bits ≤ log
falls_from log k [] b falls at = absurd cc
falls_from log zero (d ∷ bs) b falls at = let same : d ≡ b = cc in omega (arith, ap (λ (x : Block). x.log_bits) same, falls.0)
falls_from log (suc k) (d ∷ bs) b falls at = let rest = falls_from d.log_bits k bs b falls.1 at in omega (arith, rest, falls.0)

pub falls_between : (log i k : ℕ) (bs : List Block) (a b : Block) → Falls log bs → i ≤ k → slice_get bs i ≡ Some a → slice_get bs k ≡ Some b → b.log_bits ≤ a.log_bits
falls_between log i k [] a b falls le at later = absurd cc
falls_between log zero zero (d ∷ bs) a b falls le at later = let same : a ≡ b = cc in omega (arith, ap (λ (x : Block). x.log_bits) same)
falls_between log zero (suc k) (d ∷ bs) a b falls le at later = let same : d ≡ a = cc in let rest = falls_from d.log_bits k bs b falls.1 later in omega (arith, ap (λ (x : Block). x.log_bits) same, rest)
falls_between log (suc i) zero (d ∷ bs) a b falls le at later = absurd (omega arith)
falls_between log (suc i) (suc k) (d ∷ bs) a b falls le at later = falls_between d.log_bits i k bs a b falls.1 (omega arith) at later

pub follows_bits : (filling : Filling) (bs : List Block) (first k t : ℕ) (a b : Block) → AllHaveBits filling bs → Falls 35 bs → first ≤ k → slice_get bs first ≡ Some a → slice_get bs k ≡ Some b → a.log_bits < 7
    → bits_taken (take k bs) ≡ bits_taken (take first bs) + t → t < 128 → FollowsBits filling bs k t b
follows_bits filling bs first k t a b all falls le at later small stands lt =
    let fewer = falls_between 35 first k bs a b falls le at later in
    let begin = starts bs first a falls at in
    let start = starts bs k b falls later in
    let before : begin.0 * 2 ^ a.log_bits ≡ (begin.0 * 2 ^ (a.log_bits - b.log_bits)) * 2 ^ b.log_bits = ap (λ n. begin.0 * n) (power_part a.log_bits b.log_bits fewer) ∙ regroup begin.0 (2 ^ (a.log_bits - b.log_bits)) (2 ^ b.log_bits) in
    let whole : 128 ≡ 2 ^ (7 - b.log_bits) * 2 ^ b.log_bits = power_part 7 b.log_bits (omega arith) in
    let here : bits_taken (take k bs) + 0 ≡ bits_taken (take k bs) = omega arith in
    let room = multiple_room start.0 (begin.0 * 2 ^ (a.log_bits - b.log_bits)) (2 ^ b.log_bits) (2 ^ (7 - b.log_bits)) t (omega (arith, start.1, begin.1, before, stands)) (omega (arith, whole, lt)) (positive b.log_bits) in
    record {
      room = omega (arith, room, whole);
      bits = ap (λ n. take (2 ^ b.log_bits) (drop n (block_bits filling bs))) (sym here) ∙ within_block filling bs k 0 (2 ^ b.log_bits) b all later (omega arith);
      next = bits_more bs k b later;
    }

-- the bits of a block above those before it
pub block_joined : (filling : Filling) (bs : List Block) (first k t number v : ℕ) (b : Block) → FollowsBits filling bs k t b → bits_taken (take k bs) ≡ bits_taken (take first bs) + t
    → number ≡ from_bits (take t (drop (bits_taken (take first bs)) (block_bits filling bs))) → v ≡ from_bits (take (2 ^ b.log_bits) (own_bits filling b))
    → number + v * 2 ^ t ≡ from_bits (take (t + 2 ^ b.log_bits) (drop (bits_taken (take first bs)) (block_bits filling bs)))
block_joined filling bs first k t number v b follows stands number_is v_is =
    let bits = block_bits filling bs in
    let high = v_is ∙ ap from_bits (sym follows.bits) ∙ ap (λ n. from_bits (take (2 ^ b.log_bits) (drop n bits))) stands in
    (λ i. number_is i + high i * 2 ^ t) ∙ turned (from_bits (take t (drop (bits_taken (take first bs)) bits))) (from_bits (take (2 ^ b.log_bits) (drop (bits_taken (take first bs) + t) bits))) (2 ^ t)
    ∙ sym (two_parts bits t (2 ^ b.log_bits) (bits_taken (take first bs)))

-- past all blocks only zeros are left
pub no_more_bits : (filling : Filling) (bs : List Block) (first k t number : ℕ) → AllHaveBits filling bs → length bs ≤ k → bits_taken (take k bs) ≡ bits_taken (take first bs) + t → t ≤ 128
    → number ≡ from_bits (take t (drop (bits_taken (take first bs)) (block_bits filling bs))) → number ≡ from_bits (take 128 (drop (bits_taken (take first bs)) (block_bits filling bs)))
no_more_bits filling bs first k t number all le stands few number_is =
    let bits = block_bits filling bs in
    let here : bits_taken (take first bs) + t ≡ bits_taken (take k bs) + 0 = omega (arith, stands) in
    let whole : 128 ≡ t + (128 - t) = omega arith in
    let rest : from_bits (take (128 - t) (drop (bits_taken (take first bs) + t) bits)) ≡ 0 = ap (λ n. from_bits (take (128 - t) (drop n bits))) here ∙ ap (λ xs. from_bits (take (128 - t) xs)) (past_blocks filling bs k 0 all le) ∙ no_bits (128 - t) in
    let none : 2 ^ t * 0 ≡ 0 = omega arith in
    sym (
    ap (λ n. from_bits (take n (drop (bits_taken (take first bs)) bits))) whole
    ∙ two_parts bits t (128 - t) (bits_taken (take first bs))
    ∙ (λ i. sym number_is i + 2 ^ t * rest i)
    ∙ omega (arith, none)
    )
