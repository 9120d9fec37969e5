-- Steps of the sums of weights of bits.
use Rattle.std.proofs.Common.{◌≡◌, ◌∙◌, ℕ, zero, suc, ◌+◌, ◌-◌, ◌*◌, ◌/◌, ◌%◌, ◌^◌, ◌<◌, ◌≤◌, List, [], ◌∷◌, take, drop, length, get_or, bit_xor, refl, sym, ap, subst, arith, length-drop, length-take}
use Rattle.std.proofs.lemmas.List.{drop-drop, get_or_default}
use Rattle.std.proofs.lemmas.Nat.{shr-shr}
use Rattle.std.proofs.lemmas.Nat.Bits.{bit_at_cat_low, bit_at_lowest, bit_at-suc}
use Rattle.tower_laws.specs.Tower.{mul}
use Rattle.tower_laws.proofs.Field.{identity, from_one, field_terms}
use Rattle.cube_laws.specs.Sums.{tabulate}
use Rattle.cube_laws.specs.Extension.{bit, dot}
use Rattle.cube_laws.proofs.Tabulate.{get_or-tabulate}
use Rattle.cube_laws.proofs.Weights.{length-tabulate, tabulate-same}
use Rattle.cube_laws.proofs.Dots.{dot_nil}
use Rattle.sumcheck.proofs.RowSteps.{opened_at}
use Rattle.ring_switch.specs.BitWeights.{byte_sum, byte_sums}

-- ---- the weights of a number's bits, one by one
-- what is summed, with the bits that are left, is the whole sum
pub record Weighing (number : ℕ) (ws : List ℕ) (i rest total : ℕ) : Type 0 where
  pub within : i ≤ length ws
  pub is : (m : ℕ) → length ws ≡ i + m → bit_xor total (dot (tabulate m (bit rest)) (drop i ws)) ≡ dot (tabulate (length ws) (bit number)) ws

nothing_yet : (d : ℕ) → bit_xor 0 d ≡ d
nothing_yet d = identity (d ∷ []) (search field_terms depth 60 fits 20000) refl

pub no_bit : (number : ℕ) (ws : List ℕ) → Weighing number ws 0 number 0
no_bit number ws = record { within = omega arith; is = λ m e. let n : m ≡ length ws = omega arith in nothing_yet _ ∙ ap (λ m. dot (tabulate m (bit number)) ws) n }

one_more : (t w d b next : ℕ) → next ≡ bit_xor t (mul b w) → bit_xor next d ≡ bit_xor t (bit_xor (mul b w) d)
one_more t w d b next h = from_one 1 h (identity (t ∷ w ∷ d ∷ b ∷ next ∷ []) (search field_terms depth 60 fits 20000) refl)

more_bits : (number : ℕ) (ws : List ℕ) (i rest total w next : ℕ) → i < length ws → w ≡ get_or ws i w → next ≡ bit_xor total (mul (rest % 2) w) → Weighing number ws i rest total → Weighing number ws (i + 1) (rest / 2) next
more_bits number ws i rest total w next l we e h = record {
  within = omega arith;
  is = λ m n.
      one_more total w (dot (tabulate m (bit (rest / 2))) (drop (i + 1) ws)) (rest % 2) next e
      ∙ ap (λ d. bit_xor total (bit_xor (mul (rest % 2) w) (dot d (drop (i + 1) ws)))) (tabulate-same m (bit (rest / 2)) (λ k. bit rest (suc k)) (λ k j. sym (bit_at-suc rest k)))
      ∙ ap (λ b. bit_xor total (bit_xor (mul b w) (dot (tabulate m (λ k. bit rest (suc k))) (drop (i + 1) ws)))) (sym (bit_at_lowest rest))
      ∙ ap (λ v. bit_xor total (dot (tabulate (suc m) (bit rest)) v)) (sym (opened_at ws i w we l))
      ∙ h.is (suc m) (omega arith);
}

with_one : (t w b : ℕ) → b ≡ 1 → bit_xor t w ≡ bit_xor t (mul b w)
with_one t w b h = subst (λ b. bit_xor t w ≡ bit_xor t (mul b w)) (sym h) (identity (t ∷ w ∷ []) (search field_terms depth 60 fits 20000) refl)

with_none : (t w b : ℕ) → b ≡ 0 → t ≡ bit_xor t (mul b w)
with_none t w b h = subst (λ b. t ≡ bit_xor t (mul b w)) (sym h) (identity (t ∷ w ∷ []) (search field_terms depth 60 fits 20000) refl)

pub bit_set : (number : ℕ) (ws : List ℕ) (i rest total w next : ℕ) → i < length ws → w ≡ get_or ws i w → rest % 2 ≡ 1 → next ≡ bit_xor total w → Weighing number ws i rest total → Weighing number ws (i + 1) (rest / 2) next
bit_set number ws i rest total w next l we o e h = more_bits number ws i rest total w next l we (e ∙ with_one total w (rest % 2) o) h

pub bit_clear : (number : ℕ) (ws : List ℕ) (i rest total w : ℕ) → i < length ws → w ≡ get_or ws i w → rest % 2 ≡ 0 → Weighing number ws i rest total → Weighing number ws (i + 1) (rest / 2) total
bit_clear number ws i rest total w l we o h = more_bits number ws i rest total w total l we (with_none total w (rest % 2) o) h

nothing_left : (t : ℕ) → t ≡ bit_xor t 0
nothing_left t = identity (t ∷ []) (search field_terms depth 60 fits 20000) refl

pub all_bits : (number : ℕ) (ws : List ℕ) (i rest total : ℕ) → length ws ≤ i → Weighing number ws i rest total → total ≡ dot (tabulate (length ws) (bit number)) ws
all_bits number ws i rest total l h = let n = h.within in nothing_left total ∙ h.is 0 (omega arith)

-- ---- byte by byte
pub byte_summed : (ws part : List ℕ) (k from v : ℕ) → k < 4096 → length ws ≡ 128 → from ≡ 8 * (k / 256) → part ≡ take (from + 8 - from) (drop from ws) → v ≡ dot (tabulate (length part) (bit (k % 256))) part → v ≡ byte_sum ws k
byte_summed ws part k from v l n f p e =
    let eight : from + 8 - from ≡ 8 = omega arith in
    let whole : part ≡ take 8 (drop (8 * (k / 256)) ws) = p ∙ (λ i. take (eight i) (drop (f i) ws)) in
    let d = length-drop (8 * (k / 256)) ws in
    let t = length-take 8 (drop (8 * (k / 256)) ws) in
    let m : length part ≡ 8 = ap length whole ∙ (omega arith) in
    e ∙ (λ i. dot (tabulate (m i) (bit (k % 256))) (whole i))

-- the first eight, and the others
dot-parts : (n m : ℕ) (f : ℕ → ℕ) (ws : List ℕ) → dot (tabulate (n + m) f) ws ≡ bit_xor (dot (tabulate n f) (take n ws)) (dot (tabulate m (λ k. f (n + k))) (drop n ws))
dot-parts zero m f ws = let e : 0 + m ≡ m = omega arith in ap (λ k. dot (tabulate k f) ws) e ∙ sym (nothing_yet _) ∙ ap (λ d. bit_xor 0 (dot d ws)) (tabulate-same m f (λ k. f (0 + k)) (λ k l. ap f (let z : k ≡ 0 + k = omega arith in z)))
dot-parts (suc n) m f [] = dot_nil (tabulate (suc n + m) f) ∙ ap (bit_xor 0) (sym (dot_nil (tabulate m (λ k. f (suc n + k)))))
dot-parts (suc n) m f (w ∷ ws) =
    let e : suc n + m ≡ suc (n + m) = omega arith in
    ap (λ k. dot (tabulate k f) (w ∷ ws)) e
    ∙ ap (bit_xor (mul (f 0) w)) (dot-parts n m (λ k. f (suc k)) ws) ∙ grouped (mul (f 0) w) _ _
    ∙ ap (λ d. bit_xor (bit_xor (mul (f 0) w) (dot (tabulate n (λ k. f (suc k))) (take n ws))) (dot d (drop n ws))) (tabulate-same m (λ k. f (suc (n + k))) (λ k. f (suc n + k)) (λ k l. ap f (let z : suc (n + k) ≡ suc n + k = omega arith in z)))
  where
    grouped : (a b c : ℕ) → bit_xor a (bit_xor b c) ≡ bit_xor (bit_xor a b) c
    grouped a b c = identity (a ∷ b ∷ c ∷ []) (search field_terms depth 60 fits 20000) refl

low_bit : (n k : ℕ) → k < 8 → bit (n % 256) k ≡ bit n k
low_bit n k l = let e : n / 2 ^ 8 * 2 ^ 8 + n % 2 ^ 8 ≡ n = omega arith in sym (bit_at_cat_low (n / 2 ^ 8) 8 (n % 2 ^ 8) k l) ∙ ap (λ m. bit m k) e

-- what is summed, with the bytes that are left, is the whole sum
pub record Byting (number : ℕ) (ws : List ℕ) (i rest total : ℕ) : Type 0 where
  pub within : i ≤ 16
  pub is : (m : ℕ) → 128 ≡ 8 * i + m → bit_xor total (dot (tabulate m (bit rest)) (drop (8 * i) ws)) ≡ dot (tabulate 128 (bit number)) ws

pub no_byte : (number : ℕ) (ws : List ℕ) → Byting number ws 0 number 0
no_byte number ws = record { within = omega arith; is = λ m e. let n : m ≡ 128 = omega arith in nothing_yet _ ∙ ap (λ m. dot (tabulate m (bit number)) ws) n }

summed_more : (t b d next : ℕ) → next ≡ bit_xor t b → bit_xor next d ≡ bit_xor t (bit_xor b d)
summed_more t b d next h = from_one 1 h (identity (t ∷ b ∷ d ∷ next ∷ []) (search field_terms depth 60 fits 20000) refl)

sum_at : (ws sums : List ℕ) (n i b x : ℕ) → 256 * i + b < n → b < 256 → sums ≡ byte_sums ws n → get_or sums (256 * i + b) x ≡ dot (tabulate 8 (bit b)) (take 8 (drop (8 * i) ws))
sum_at ws sums n i b x l m e =
    let low : (256 * i + b) % 256 ≡ b = omega arith in
    let high : (256 * i + b) / 256 ≡ i = omega arith in
    get_or_default sums (256 * i + b) x 0 (subst (λ k. 256 * i + b < k) (sym (ap length e ∙ length-tabulate n (byte_sum ws))) l)
    ∙ ap (λ v. get_or v (256 * i + b) 0) e
    ∙ get_or-tabulate n (256 * i + b) (byte_sum ws) l
    ∙ (λ j. dot (tabulate 8 (bit (low j))) (take 8 (drop (8 * high j) ws)))

pub byte_within : (ws sums : List ℕ) (n i rest : ℕ) → n ≡ 4096 → i < 16 → sums ≡ byte_sums ws n → 256 * i + rest % 256 < length sums
byte_within ws sums n i rest m l e = subst (λ k. 256 * i + rest % 256 < k) (sym (ap length e ∙ length-tabulate n (byte_sum ws))) (below n i rest m l)
  where
    below : (n i rest : ℕ) → n ≡ 4096 → i < 16 → 256 * i + rest % 256 < n
    below n i rest m l = omega arith

pub more_bytes : (number : ℕ) (ws sums : List ℕ) (n i rest total x next : ℕ) → n ≡ 4096 → i < 16 → sums ≡ byte_sums ws n → next ≡ bit_xor total (get_or sums (256 * i + rest % 256) x) → Byting number ws i rest total → Byting number ws (i + 1) (rest / 256) next
more_bytes number ws sums n i rest total x next four l s e h = record {
  within = omega arith;
  is = λ m k.
      let byte = sum_at ws sums n i (rest % 256) x (omega arith) (omega arith) s ∙ ap (λ d. dot d (take 8 (drop (8 * i) ws))) (tabulate-same 8 (bit (rest % 256)) (bit rest) (λ k j. low_bit rest k j)) in
      let up : 8 * (i + 1) ≡ 8 * i + 8 = omega arith in
      summed_more total _ (dot (tabulate m (bit (rest / 256))) (drop (8 * (i + 1)) ws)) next (e ∙ ap (bit_xor total) byte)
      ∙ ap (λ d. bit_xor total (bit_xor (dot (tabulate 8 (bit rest)) (take 8 (drop (8 * i) ws))) d))
      ((λ j. dot (tabulate-same m (bit (rest / 256)) (λ k. bit rest (8 + k)) (λ k q. high_bit rest k) j) ((ap (λ a. drop a ws) up ∙ sym (drop-drop 8 (8 * i) ws)) j)))
      ∙ ap (bit_xor total) (sym (dot-parts 8 m (bit rest) (drop (8 * i) ws)))
      ∙ h.is (8 + m) (omega arith);
}
  where
    high_bit : (n k : ℕ) → bit (n / 256) k ≡ bit n (8 + k)
    high_bit n k = ap (λ w. w % 2) (shr-shr n 8 k)

pub all_bytes : (number : ℕ) (ws : List ℕ) (i rest total : ℕ) → 16 ≤ i → Byting number ws i rest total → total ≡ dot (tabulate 128 (bit number)) ws
all_bytes number ws i rest total l h = let n = h.within in nothing_left total ∙ h.is 0 (omega arith)
