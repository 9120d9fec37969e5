-- Products with bytes, a byte at a place at a time.
use Rattle.std.proofs.Common.{◌≡◌, ℕ, zero, suc, ◌+◌, ◌-◌, ◌*◌, ◌/◌, ◌%◌, ◌^◌, ◌<◌, ◌≤◌, inl, inr, [], ◌∷◌, bit_xor, bit_and, refl, sym, ◌∙◌, ap, subst, arith, lit<}
use Rattle.std.proofs.Math.Nat.{mod-eq_of_lt, mod-lt, pow-suc, pow-le-pow_right}
use Rattle.std.proofs.lemmas.Nat.{pow_pos, pow-add, mod-pow-add, and_mask}
use Rattle.std.proofs.lemmas.Bool.{cases_lt}
use Rattle.tower_laws.specs.Tower.{mul}
use Rattle.tower_laws.proofs.Levels.{field_comm, field_assoc, field_one, field_zero}
use Rattle.tower_laws.proofs.Rules.{field_add_r}
use Rattle.tower_laws.proofs.Roots.{as_join}
use Rattle.tower_laws.proofs.Field.{identity, field_terms}
use Rattle.column_laws.proofs.Powers.{generator_times}
use Rattle.packed_words.proofs.Places.{xor_apart}

swap : (a b : ℕ) → mul a b ≡ bit_xor 0 (mul b a)
swap a b = identity (a ∷ b ∷ []) (search field_terms depth 60 fits 20000) refl

-- b · 2 ^ n lies below 2 ^ m
block_below : (b k n m : ℕ) → b < 2 ^ k → n + k ≤ m → b * 2 ^ n < 2 ^ m
block_below b k n m h l =
    let s : 2 ^ (n + k) ≤ 2 ^ m = pow-le-pow_right {n = 2} (omega arith) l in
    let e = pow-add 2 n k in
    let p = pow_pos n in
    grind arith

-- a byte times 2 ^ (8 · u) is the byte at place u
at_place : (i u b : ℕ) → u < 2 ^ i → b < 256 → mul (2 ^ (8 * u)) b ≡ b * 2 ^ (8 * u)
at_place zero u b h l = let e : u ≡ 0 = omega arith in ap (λ u. mul (2 ^ (8 * u)) b) e ∙ field_one b ∙ omega arith ∙ ap (λ u. b * 2 ^ (8 * u)) (sym e)
at_place (suc i) u b h l =
    elim (cases_lt u (2 ^ i)) [
      | inl below ↦ at_place i u b below l
      | inr above ↦ upper (u - 2 ^ i) (omega arith) (omega (arith, pow-suc 2 i)) (at_place i (u - 2 ^ i) b (omega (arith, pow-suc 2 i)) l)
    ]
  where
    upper : (w : ℕ) → u ≡ 2 ^ i + w → w < 2 ^ i → mul (2 ^ (8 * w)) b ≡ b * 2 ^ (8 * w) → mul (2 ^ (8 * u)) b ≡ b * 2 ^ (8 * u)
    upper w e below known =
        let n : ℕ = 2 ^ (i + 3) in
        let eight : n ≡ 2 ^ i * 8 = pow-add 2 i 3 in
        let c : ℕ = b * 2 ^ (8 * w) in
        let small : c < 2 ^ n = block_below b 8 (8 * w) n l (omega arith) in
        let powers : 2 ^ (8 * u) ≡ mul (2 ^ n) (2 ^ (8 * w)) = ap (λ m. 2 ^ m) (omega arith) ∙ sym (generator_times (i + 3) (8 * w) (omega arith)) in
        let together : c * 2 ^ n + 0 ≡ b * 2 ^ (8 * u) = let s = pow-add 2 (8 * w) n in let t : 2 ^ (8 * u) ≡ 2 ^ (8 * w + n) = ap (λ m. 2 ^ m) (omega arith) in grind arith in
        ap (λ x. mul x b) powers ∙ field_assoc (2 ^ n) (2 ^ (8 * w)) b ∙ ap (mul (2 ^ n)) known ∙ swap (2 ^ n) c ∙ as_join (i + 3) c 0 small (pow_pos n) ∙ together

-- the product with a byte at a place is the product of the bytes there
scaled_place : (f b p : ℕ) → mul b f < 256 → b < 256 → p < 16 → mul f (b * 2 ^ (8 * p)) ≡ mul b f * 2 ^ (8 * p)
scaled_place f b p c hb hp =
    let s = field_assoc (2 ^ (8 * p)) f b in
    let t = field_assoc f (2 ^ (8 * p)) b in
    let u : mul (2 ^ (8 * p)) f ≡ mul f (2 ^ (8 * p)) = field_comm (2 ^ (8 * p)) f in
    let v : mul f b ≡ mul b f = field_comm f b in
    ap (mul f) (sym (at_place 4 p b hp hb)) ∙ sym t ∙ ap (λ x. mul x b) (sym u) ∙ s ∙ ap (mul (2 ^ (8 * p))) v ∙ at_place 4 p (mul b f) hp c

pub none_yet : (f a : ℕ) → 0 ≡ mul f (a % 1)
none_yet f a = let e : a % 1 ≡ 0 = omega arith in sym (ap (mul f) e ∙ field_comm f 0 ∙ field_zero f)

-- one place more
pub place_more : (f a p s x b : ℕ) → x < 256 → p < 16 → s ≡ mul f (a % 2 ^ (8 * p)) → b ≡ bit_and (a / 2 ^ (8 * p)) 255 → x ≡ mul b f
    → bit_xor s (x * 2 ^ (8 * p) % 2 ^ 128) ≡ mul f (a % 2 ^ (8 * (p + 1)))
place_more f a p s x b small hp es eb ex =
    let masked : bit_and (a / 2 ^ (8 * p)) 255 ≡ a / 2 ^ (8 * p) % 2 ^ 8 = and_mask (a / 2 ^ (8 * p)) 8 in
    let is : b ≡ a / 2 ^ (8 * p) % 2 ^ 8 = eb ∙ masked in
    let byte : b < 256 = let l = mod-lt (a / 2 ^ (8 * p)) {m = 256} (lit< tt) in omega arith in
    let product : mul b f < 256 = subst (λ y. y < 256) ex small in
    let whole : x * 2 ^ (8 * p) % 2 ^ 128 ≡ x * 2 ^ (8 * p) = mod-eq_of_lt (block_below x 8 (8 * p) 128 small (omega arith)) in
    let part : x * 2 ^ (8 * p) ≡ mul f (b * 2 ^ (8 * p)) = ap (λ y. y * 2 ^ (8 * p)) ex ∙ sym (scaled_place f b p product byte hp) in
    let w : 8 + 8 * p ≡ 8 * (p + 1) = omega arith in
    let m : a % 2 ^ (8 * (p + 1)) ≡ b * 2 ^ (8 * p) + a % 2 ^ (8 * p) = ap (λ n. a % 2 ^ n) (sym w) ∙ mod-pow-add a 8 (8 * p) ∙ ap (λ y. y * 2 ^ (8 * p) + a % 2 ^ (8 * p)) (sym is) in
    let apart : bit_xor (a % 2 ^ (8 * p)) (b * 2 ^ (8 * p)) ≡ b * 2 ^ (8 * p) + a % 2 ^ (8 * p) = xor_apart (8 * p) b (a % 2 ^ (8 * p)) (mod-lt a (pow_pos (8 * p))) in
    let sums = field_add_r f (a % 2 ^ (8 * p)) (b * 2 ^ (8 * p)) in
    ap (bit_xor s) (whole ∙ part) ∙ ap (λ y. bit_xor y (mul f (b * 2 ^ (8 * p)))) es ∙ sym sums ∙ ap (mul f) (apart ∙ sym m)

pub all_places : (f a s : ℕ) → a < 2 ^ 128 → s ≡ mul f (a % 2 ^ 128) → s ≡ mul f a
all_places f a s h e = e ∙ ap (mul f) (mod-eq_of_lt h)
