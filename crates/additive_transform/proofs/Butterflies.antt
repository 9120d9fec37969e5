-- Layers of butterflies on the two halves of a block.
use Rattle.std.proofs.Common.{◌≡◌, ◌≢◌, ℕ, zero, suc, ◌+◌, ◌-◌, ◌*◌, ◌/◌, ◌%◌, ◌^◌, ◌<◌, ◌≤◌, ◌⊎◌, inl, inr, List, [], ◌∷◌, ◌++◌, take, drop, length, get_or, bit_xor, refl, sym, ◌∙◌, ap, subst, arith}
use Rattle.std.proofs.Math.ListN.{set, length-set}
use Rattle.std.proofs.Math.Nat.{mod-eq_of_lt, mul_comm, mul-le-mul_left, mul-le-mul_right, pow-le-pow_right}
use Rattle.std.proofs.lemmas.Nat.{pow_pos, pow-add}
use Rattle.std.proofs.lemmas.List.{get_or_default, get_or-set_other}
use Rattle.std.proofs.lemmas.Grind.{get_or-set_at}
use Rattle.std.proofs.lemmas.Bool.{cases_eq, cases_lt}
use Rattle.tower_laws.specs.Tower.{mul}
use Rattle.tower_laws.proofs.Field.{identity, field_terms}
use Rattle.cube_laws.specs.Sums.{tabulate}
use Rattle.cube_laws.proofs.Weights.{tabulate-add}
use Rattle.word_laws.specs.CodeWord.{hat, word}
use Rattle.word_laws.specs.Encoding.{mix, encode}
use Rattle.word_laws.proofs.Butterflies.{length-mix, encode_word}

-- the first i members of both halves are mixed, and the others are as they were
pub record Mixed (c i : ℕ) (xs ys low high : List ℕ) : Type 0 where
  pub lengths : length xs ≡ length ys
  pub low_length : length low ≡ length xs
  pub high_length : length high ≡ length xs
  pub low_done : (k : ℕ) → k < i → get_or low k 0 ≡ bit_xor (get_or xs k 0) (mul c (get_or ys k 0))
  pub high_done : (k : ℕ) → k < i → get_or high k 0 ≡ bit_xor (get_or xs k 0) (mul (bit_xor c 1) (get_or ys k 0))
  pub low_kept : (k : ℕ) → i ≤ k → get_or low k 0 ≡ get_or xs k 0
  pub high_kept : (k : ℕ) → i ≤ k → get_or high k 0 ≡ get_or ys k 0

pub mixed_none : (c : ℕ) (xs ys : List ℕ) → length xs ≡ length ys → Mixed c 0 xs ys xs ys
mixed_none c xs ys h = record {
  lengths = h;
  low_length = refl;
  high_length = sym h;
  low_done = λ k l. absurd (omega arith);
  high_done = λ k l. absurd (omega arith);
  low_kept = λ k l. refl;
  high_kept = λ k l. refl;
}

high_sum : (a b c : ℕ) → bit_xor (bit_xor a (mul c b)) b ≡ bit_xor a (mul (bit_xor c 1) b)
high_sum a b c = identity (a ∷ b ∷ c ∷ []) (search field_terms depth 60 fits 20000) refl

pub mixed_more : (c i : ℕ) (xs ys low high : List ℕ) (a b x y : ℕ) → i < length xs → Mixed c i xs ys low high → a ≡ get_or low i a → b ≡ get_or high i b → x ≡ bit_xor a (mul c b) → y ≡ bit_xor x b
    → Mixed c (i + 1) xs ys (set low i x) (set high i y)
mixed_more c i xs ys low high a b x y l m ea eb ex ey =
    let pa : a ≡ get_or xs i 0 = ea ∙ get_or_default low i a 0 (omega (arith, m.low_length)) ∙ m.low_kept i (omega arith) in
    let pb : b ≡ get_or ys i 0 = eb ∙ get_or_default high i b 0 (omega (arith, m.high_length)) ∙ m.high_kept i (omega arith) in
    let hs = high_sum a b c in
    let px : x ≡ bit_xor (get_or xs i 0) (mul c (get_or ys i 0)) = cc in
    let py : y ≡ bit_xor (get_or xs i 0) (mul (bit_xor c 1) (get_or ys i 0)) = cc in
    record {
      lengths = m.lengths;
      low_length = length-set low i x ∙ m.low_length;
      high_length = length-set high i y ∙ m.high_length;
      low_done = λ k h. at low x (omega (arith, m.low_length)) (λ k. bit_xor (get_or xs k 0) (mul c (get_or ys k 0))) px m.low_done k h (cases_eq k i);
      high_done = λ k h. at high y (omega (arith, m.high_length)) (λ k. bit_xor (get_or xs k 0) (mul (bit_xor c 1) (get_or ys k 0))) py m.high_done k h (cases_eq k i);
      low_kept = λ k h. get_or-set_other low i k x 0 (omega arith) ∙ m.low_kept k (omega arith);
      high_kept = λ k h. get_or-set_other high i k y 0 (omega arith) ∙ m.high_kept k (omega arith);
    }
  where
    at : (zs : List ℕ) (v : ℕ) → i < length zs → (f : ℕ → ℕ) → v ≡ f i → ((k : ℕ) → k < i → get_or zs k 0 ≡ f k) → (k : ℕ) → k < i + 1 → (k ≡ i) ⊎ (k ≡ i → ⊥) → get_or (set zs i v) k 0 ≡ f k
    at zs v l f e h k b (inl q) = get_or-set_at zs i k v 0 q l ∙ e ∙ ap f (sym q)
    at zs v l f e h k b (inr q) = get_or-set_other zs i k v 0 (omega arith) ∙ h k (omega arith)

mix_at : (c : ℕ) (xs ys zs : List ℕ) → length xs ≡ length ys → length zs ≡ length xs → ((k : ℕ) → k < length xs → get_or zs k 0 ≡ bit_xor (get_or xs k 0) (mul c (get_or ys k 0))) → zs ≡ mix c xs ys
mix_at c [] ys [] l m h = refl
mix_at c [] ys (z ∷ zs) l m h = absurd (omega arith)
mix_at c (x ∷ xs) [] zs l m h = absurd (omega arith)
mix_at c (x ∷ xs) (y ∷ ys) [] l m h = absurd (omega arith)
mix_at c (x ∷ xs) (y ∷ ys) (z ∷ zs) l m h = let p = h 0 (omega arith) in let q = mix_at c xs ys zs (omega arith) (omega arith) (λ k b. h (suc k) (omega arith)) in cc

pub mixed_low : (c i : ℕ) (xs ys low high : List ℕ) → length xs ≤ i → Mixed c i xs ys low high → low ≡ mix c xs ys
mixed_low c i xs ys low high h m = mix_at c xs ys low m.lengths m.low_length (λ k l. m.low_done k (omega arith))

pub mixed_high : (c i : ℕ) (xs ys low high : List ℕ) → length xs ≤ i → Mixed c i xs ys low high → high ≡ mix (bit_xor c 1) xs ys
mixed_high c i xs ys low high h m = mix_at (bit_xor c 1) xs ys high m.lengths m.high_length (λ k l. m.high_done k (omega arith))

-- the halves of a block
pub halves : (l : ℕ) (xs low high : List ℕ) → l ≢ 0 → length xs ≡ 2 ^ l → length low ≡ length xs / 2 → length high + length xs / 2 ≡ length xs → (length low ≡ 2 ^ (l - 1)) × (length high ≡ 2 ^ (l - 1))
halves zero xs low high z h a b = absurd (z refl)
halves (suc l) xs low high z h a b =
    let e : suc l - 1 ≡ l = omega arith in
    let p : 2 ^ suc l ≡ 2 * 2 ^ l = omega arith in
    subst (λ k. (length low ≡ 2 ^ k) × (length high ≡ 2 ^ k)) (sym e) (omega arith, omega arith)

pub mixed_length : (c n : ℕ) (low high ys : List ℕ) → length low ≡ n → length high ≡ n → ys ≡ mix c low high → length ys ≡ n
mixed_length c n low high ys h k e = ap length e ∙ length-mix c low high (h ∙ sym k) ∙ h

-- the blocks of the halves
pub record BlockFits (l b n : ℕ) : Type 0 where
  pub below : l - 1 < n
  pub position : (b * 2 ^ l) % 2 ^ 64 ≡ b * 2 ^ l
  pub within : b * 2 ^ l < 2 ^ n
  pub low : (2 * b + 1) * 2 ^ (l - 1) ≤ 2 ^ n
  pub high : (2 * b + 1 + 1) * 2 ^ (l - 1) ≤ 2 ^ n
  pub small : 2 * b + 1 < 2 ^ 64

pow_within : (a b : ℕ) → a ≤ b → 2 ^ a ≤ 2 ^ b
pow_within a b h = pow-le-pow_right {n = 2} (omega arith) h

record Parted (b n w t : ℕ) : Type 0 where
  pub within : b * w < t
  pub low : (2 * b + 1) * n ≤ t
  pub high : (2 * b + 1 + 1) * n ≤ t
  pub small : 2 * b + 1 < 2 * t
  pub half : n < t

parted : (b n t : ℕ) → 0 < n → (b + 1) * (2 * n) ≤ t → Parted b n (2 * n) t
parted b n t p h =
    let s : (b + 1) * (2 * n) ≡ b * (2 * n) + 2 * n = grind arith in
    let x : (2 * b + 1 + 1) * n ≡ b * (2 * n) + 2 * n = grind arith in
    let y : (2 * b + 1) * n ≡ b * (2 * n) + n = grind arith in
    let z : b * 1 ≤ b * (2 * n) = mul-le-mul_left b (omega arith) in
    record { within = omega arith; low = omega arith; high = omega arith; small = omega arith; half = omega arith }

pub block_fits : (l b n : ℕ) → l ≢ 0 → n ≤ 24 → (b + 1) * 2 ^ l ≤ 2 ^ n → BlockFits l b n
block_fits zero b n z m h = absurd (z refl)
block_fits (suc l) b n z m h =
    let e : suc l - 1 ≡ l = omega arith in
    let w = pow_within n 24 m in
    let q : 2 ^ suc l ≡ 2 * 2 ^ l = omega arith in
    let p = parted b (2 ^ l) (2 ^ n) (pow_pos l) (subst (λ k. (b + 1) * k ≤ 2 ^ n) q h) in
    let i : b * 2 ^ suc l < 2 ^ n = subst (λ k. b * k < 2 ^ n) (sym q) p.within in
    let small = p.small in
    record {
      below = go p.half (cases_lt l n);
      position = mod-eq_of_lt (omega arith);
      within = i;
      low = subst (λ k. (2 * b + 1) * 2 ^ k ≤ 2 ^ n) (sym e) p.low;
      high = subst (λ k. (2 * b + 1 + 1) * 2 ^ k ≤ 2 ^ n) (sym e) p.high;
      small = omega arith;
    }
  where
    go : 2 ^ l < 2 ^ n → (l < n) ⊎ (n ≤ l) → suc l - 1 < n
    go h (inl k) = omega arith
    go h (inr k) = let v = pow_within n l k in absurd (omega arith)

pub encode_base : (l b : ℕ) (xs : List ℕ) → l ≡ 0 → xs ≡ encode l b xs
encode_base zero b xs e = refl
encode_base (suc l) b xs e = absurd (omega arith)

pub encode_next : (l b c : ℕ) (xs low high us vs ms ns : List ℕ) → l ≢ 0 → length xs ≡ 2 ^ l → c ≡ hat (l - 1) (b * 2 ^ l)
    → low ≡ take (length xs / 2) xs → high ≡ drop (length xs / 2) xs → ms ≡ mix c low high → ns ≡ mix (bit_xor c 1) low high
    → us ≡ encode (l - 1) (2 * b) ms → vs ≡ encode (l - 1) (2 * b + 1) ns → us ++ vs ≡ encode l b xs
encode_next zero b c xs low high us vs ms ns z h ec el eh em en eu ev = absurd (z refl)
encode_next (suc l) b c xs low high us vs ms ns z h ec el eh em en eu ev =
    let e : suc l - 1 ≡ l = omega arith in
    let p : 2 ^ suc l ≡ 2 * 2 ^ l = omega arith in
    let q : length xs / 2 ≡ 2 ^ l = omega arith in
    cc

-- one block more of a word
pub word_more : (k b : ℕ) (table out now : List ℕ) → length table ≡ 2 ^ k → out ≡ tabulate (b * 2 ^ k) (word 0 k table) → now ≡ out ++ encode k b table → now ≡ tabulate ((b + 1) * 2 ^ k) (word 0 k table)
word_more k b table out now h eo en =
    let s : (b + 1) * 2 ^ k ≡ b * 2 ^ k + 2 ^ k = grind arith in
    en ∙ (λ i. eo i ++ encode_word k b table h i) ∙ sym (ap (λ m. tabulate m (word 0 k table)) s ∙ tabulate-add (b * 2 ^ k) (2 ^ k) (word 0 k table))

-- each block of a word is one of the basis
pub block_within : (k r n b : ℕ) → k + r ≤ n → n ≤ 24 → b < 2 ^ r % 2 ^ 64 → (b + 1) * 2 ^ k ≤ 2 ^ n
block_within k r n b h m l =
    let w = pow_within n 24 m in
    let v = pow_within (k + r) n h in
    let p = pow-add 2 k r in
    let s = pow_within r n (omega arith) in
    let t : 2 ^ r % 2 ^ 64 ≡ 2 ^ r = mod-eq_of_lt (omega arith) in
    let u : b + 1 ≤ 2 ^ r = omega arith in
    let x = mul-le-mul_right (2 ^ k) u in
    omega arith

-- all blocks
pub word_all : (k r n b : ℕ) (table out : List ℕ) → k + r ≤ n → n ≤ 24 → b ≡ 2 ^ r % 2 ^ 64 → out ≡ tabulate (b * 2 ^ k) (word 0 k table) → out ≡ tabulate (2 ^ (k + r)) (word 0 k table)
word_all k r n b table out h m l f =
    let w = pow_within n 24 m in
    let s = pow_within r n (omega arith) in
    let t : 2 ^ r % 2 ^ 64 ≡ 2 ^ r = mod-eq_of_lt (omega arith) in
    let p = pow-add 2 k r in
    let x : b ≡ 2 ^ r = omega arith in
    let z : 2 ^ r * 2 ^ k ≡ 2 ^ k * 2 ^ r = mul_comm (2 ^ r) (2 ^ k) in
    let y : b * 2 ^ k ≡ 2 ^ (k + r) = ap (λ w. w * 2 ^ k) x ∙ z ∙ sym p in
    f ∙ ap (λ c. tabulate c (word 0 k table)) y
