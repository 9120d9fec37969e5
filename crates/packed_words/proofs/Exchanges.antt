-- Steps of a transpose.
use Rattle.std.proofs.Common.{◌≡◌, ◌≢◌, ℕ, zero, suc, ◌+◌, ◌-◌, ◌*◌, ◌/◌, ◌%◌, ◌^◌, ◌<◌, ◌≤◌, ◌⊎◌, inl, inr, List, [], ◌∷◌, length, get_or, set, bit_xor, bit_and, refl, sym, ◌∙◌, ap, subst, arith}
use Rattle.std.proofs.lemmas.Bool.{cases_lt}
use Rattle.std.proofs.lemmas.Nat.{shr-shr, pow_pos, one_shl}
use Rattle.std.proofs.lemmas.Nat.Bits.{bit_at_and, bit_at_xor, bit_at-zero, bit_at-lt, bit_at_cat_low, bit_at_cat_high, shr_and_one}
use Rattle.std.proofs.lemmas.List.{get_or-set_same, get_or-set_other}
use Rattle.std.proofs.Math.ListN.{length-set}
use Rattle.cube_laws.specs.Extension.{bit}
use Rattle.packed_words.specs.Exchange.{with_bit}
use Rattle.packed_words.specs.declared.transpose.TheConstants.{CLEAR}
use Rattle.packed_words.proofs.Sevens.{clear_at, before_one, before_zero, beside, cleared, within, mixed, mixed_more}

bit_cases : (n k : ℕ) → (bit n k ≡ 0) ⊎ (bit n k ≡ 1)
bit_cases n k = go (bit n k) (bit_at-lt n k)
  where
    go : (b : ℕ) → b < 2 → (b ≡ 0) ⊎ (b ≡ 1)
    go zero h = inl refl
    go (suc zero) h = inr refl
    go (suc (suc b)) h = absurd (omega arith)

-- ---- two words
abbrev moved : ℕ → ℕ → ℕ → ℕ
moved k a b = bit_and (bit_xor (a / 2 ^ (2 ^ k)) b) (get_or CLEAR k 0)

moved_one : (k a b v : ℕ) → k < 7 → v < 128 → bit v k ≡ 1 → bit (moved k a b) v ≡ 0
moved_one k a b v h l e =
    let m = clear_at k v h l in
    let t = bit_at_and (bit_xor (a / 2 ^ (2 ^ k)) b) (get_or CLEAR k 0) v in
    t ∙ omega arith

moved_zero : (k a b v : ℕ) → k < 7 → v < 128 → bit v k ≡ 0 → bit (moved k a b) v ≡ (bit a (2 ^ k + v) + bit b v) % 2
moved_zero k a b v h l e =
    let m = clear_at k v h l in
    let t = bit_at_and (bit_xor (a / 2 ^ (2 ^ k)) b) (get_or CLEAR k 0) v in
    let x = bit_at_xor (a / 2 ^ (2 ^ k)) b v in
    let s : bit (a / 2 ^ (2 ^ k)) v ≡ bit a (2 ^ k + v) = ap (λ n. n % 2) (shr-shr a (2 ^ k) v) in
    let f : bit (a / 2 ^ (2 ^ k)) v < 2 = bit_at-lt (a / 2 ^ (2 ^ k)) v in
    t ∙ omega arith

shifted_bit : (x s v : ℕ) → v < 128 → bit (x * 2 ^ s % 2 ^ 128) v ≡ bit (x * 2 ^ s) v
shifted_bit x s v l =
    let y : ℕ = x * 2 ^ s in
    let e : y / 2 ^ 128 * 2 ^ 128 + y % 2 ^ 128 ≡ y = omega arith in
    sym (bit_at_cat_low (y / 2 ^ 128) 128 (y % 2 ^ 128) v l) ∙ ap (λ n. bit n v) e

shifted_low : (x s v : ℕ) → v < 128 → v < s → bit (x * 2 ^ s % 2 ^ 128) v ≡ 0
shifted_low x s v l h =
    let e : x * 2 ^ s ≡ x * 2 ^ s + 0 = omega arith in
    shifted_bit x s v l ∙ ap (λ n. bit n v) e ∙ bit_at_cat_low x s 0 v h ∙ bit_at-zero v

shifted_high : (x s v : ℕ) → v < 128 → s ≤ v → bit (x * 2 ^ s % 2 ^ 128) v ≡ bit x (v - s)
shifted_high x s v l h =
    let e : x * 2 ^ s ≡ x * 2 ^ s + 0 = omega arith in
    shifted_bit x s v l ∙ ap (λ n. bit n v) e ∙ bit_at_cat_high x s 0 v (pow_pos s) h

abbrev chosen : ℕ → ℕ → ℕ → ℕ
chosen a b d = get_or (a ∷ b ∷ []) d 0

first_bit : (k a b v : ℕ) → k < 7 → v < 128 → bit (bit_xor a (moved k a b * 2 ^ (2 ^ k) % 2 ^ 128)) v ≡ bit (chosen a b (bit v k)) (with_bit k v 0)
first_bit k a b v h l = bit_at_xor a (moved k a b * 2 ^ (2 ^ k) % 2 ^ 128) v ∙ go (bit_cases v k)
  where
    zeros : (t p : ℕ) → t ≡ 0 → p < 2 → (p + t) % 2 ≡ p
    zeros t p e q = omega arith

    ones : (t p q : ℕ) → t ≡ (p + q) % 2 → p < 2 → q < 2 → (p + t) % 2 ≡ q
    ones t p q e m n = omega arith

    none : bit v k ≡ 0 → bit (moved k a b * 2 ^ (2 ^ k) % 2 ^ 128) v ≡ 0
    none e = elim (cases_lt v (2 ^ k)) [
      | inl m ↦ shifted_low (moved k a b) (2 ^ k) v l m
      | inr m ↦ shifted_high (moved k a b) (2 ^ k) v l m ∙ moved_one k a b (v - 2 ^ k) h (omega arith) (before_zero k h v e m)
    ]

    go : (bit v k ≡ 0) ⊎ (bit v k ≡ 1) → (bit a v + bit (moved k a b * 2 ^ (2 ^ k) % 2 ^ 128) v) % 2 ≡ bit (chosen a b (bit v k)) (with_bit k v 0)
    go (inl e) =
        let w : with_bit k v 0 ≡ v = ap (λ d. v + 0 * 2 ^ k - d * 2 ^ k) e ∙ omega arith in
        zeros (bit (moved k a b * 2 ^ (2 ^ k) % 2 ^ 128) v) (bit a v) (none e) (bit_at-lt a v)
        ∙ ap (bit a) (sym w) ∙ ap (λ d. bit (chosen a b d) (with_bit k v 0)) (sym e)
    go (inr e) =
        let m = before_one k h v e in
        let m0 : 2 ^ k ≤ v = m.0 in
        let w : with_bit k v 0 ≡ v - 2 ^ k = ap (λ d. v + 0 * 2 ^ k - d * 2 ^ k) e ∙ omega arith in
        let p : 2 ^ k + (v - 2 ^ k) ≡ v = omega arith in
        let t : bit (moved k a b * 2 ^ (2 ^ k) % 2 ^ 128) v ≡ (bit a v + bit b (v - 2 ^ k)) % 2 =
        shifted_high (moved k a b) (2 ^ k) v l m0 ∙ moved_zero k a b (v - 2 ^ k) h (omega arith) m.1 ∙ ap (λ n. (bit a n + bit b (v - 2 ^ k)) % 2) p in
        ones (bit (moved k a b * 2 ^ (2 ^ k) % 2 ^ 128) v) (bit a v) (bit b (v - 2 ^ k)) t (bit_at-lt a v) (bit_at-lt b (v - 2 ^ k))
        ∙ ap (bit b) (sym w) ∙ ap (λ d. bit (chosen a b d) (with_bit k v 0)) (sym e)

second_bit : (k a b v : ℕ) → k < 7 → v < 128 → bit (bit_xor b (moved k a b)) v ≡ bit (chosen a b (bit v k)) (with_bit k v 1)
second_bit k a b v h l = bit_at_xor b (moved k a b) v ∙ go (bit_cases v k)
  where
    zeros : (t p : ℕ) → t ≡ 0 → p < 2 → (p + t) % 2 ≡ p
    zeros t p e q = omega arith

    ones : (t p q : ℕ) → t ≡ (p + q) % 2 → p < 2 → q < 2 → (q + t) % 2 ≡ p
    ones t p q e m n = omega arith

    go : (bit v k ≡ 0) ⊎ (bit v k ≡ 1) → (bit b v + bit (moved k a b) v) % 2 ≡ bit (chosen a b (bit v k)) (with_bit k v 1)
    go (inl e) =
        let w : with_bit k v 1 ≡ 2 ^ k + v = ap (λ d. v + 1 * 2 ^ k - d * 2 ^ k) e ∙ omega arith in
        ones (bit (moved k a b) v) (bit a (2 ^ k + v)) (bit b v) (moved_zero k a b v h l e) (bit_at-lt a (2 ^ k + v)) (bit_at-lt b v)
        ∙ ap (bit a) (sym w) ∙ ap (λ d. bit (chosen a b d) (with_bit k v 1)) (sym e)
    go (inr e) =
        let w : with_bit k v 1 ≡ v = ap (λ d. v + 1 * 2 ^ k - d * 2 ^ k) e ∙ omega arith in
        zeros (bit (moved k a b) v) (bit b v) (moved_one k a b v h l e) (bit_at-lt b v)
        ∙ ap (bit b) (sym w) ∙ ap (λ d. bit (chosen a b d) (with_bit k v 1)) (sym e)

-- the same, as the code has them
pub width_is : (k : ℕ) → k < 7 → 1 * 2 ^ k % 4294967296 ≡ 2 ^ k
width_is k h = one_shl k 32 (omega arith)

pub first_is : (k a b v w : ℕ) → k < 7 → v < 128 → w ≡ 2 ^ k → bit (bit_xor a (bit_and (bit_xor (a / 2 ^ w) b) (get_or CLEAR k 0) * 2 ^ w % 2 ^ 128)) v ≡ bit (chosen a b (bit v k)) (with_bit k v 0)
first_is k a b v w h l e = subst (λ w. bit (bit_xor a (bit_and (bit_xor (a / 2 ^ w) b) (get_or CLEAR k 0) * 2 ^ w % 2 ^ 128)) v ≡ bit (chosen a b (bit v k)) (with_bit k v 0)) (sym e) (first_bit k a b v h l)

pub second_is : (k a b v w : ℕ) → k < 7 → v < 128 → w ≡ 2 ^ k → bit (bit_xor b (bit_and (bit_xor (a / 2 ^ w) b) (get_or CLEAR k 0))) v ≡ bit (chosen a b (bit v k)) (with_bit k v 1)
second_is k a b v w h l e = subst (λ w. bit (bit_xor b (bit_and (bit_xor (a / 2 ^ w) b) (get_or CLEAR k 0))) v ≡ bit (chosen a b (bit v k)) (with_bit k v 1)) (sym e) (second_bit k a b v h l)

-- ---- 128 words
-- what has become of rows when those below u, and each with the one beside it, have been visited
pub record Exchanged (k u : ℕ) (before now : List ℕ) : Type 0 where
  pub long : length now ≡ 128
  pub done : (j v : ℕ) → j < 128 → v < 128 → with_bit k j 0 < u → bit (get_or now j 0) v ≡ bit (get_or before (with_bit k j (bit v k)) 0) (with_bit k v (bit j k))
  pub left : (j : ℕ) → u ≤ with_bit k j 0 → get_or now j 0 ≡ get_or before j 0

pub none_exchanged : (k : ℕ) (rows : List ℕ) → length rows ≡ 128 → Exchanged k 0 rows rows
none_exchanged k rows e = record { long = e; done = λ j v l m h. absurd (omega arith); left = λ j h. refl }

skipped : (k u : ℕ) (before now : List ℕ) → k < 7 → bit u k ≢ 0 → Exchanged k u before now → Exchanged k (u + 1) before now
skipped k u before now h ne i = record {
  long = i.long;
  done = λ j v l m below. elim (cases_lt (with_bit k j 0) u) [
    | inl lt ↦ i.done j v l m lt
    | inr ge ↦ let e : with_bit k j 0 ≡ u = omega arith in absurd (ne (ap (λ n. bit n k) (sym e) ∙ cleared k h j))
  ];
  left = λ j above. i.left j (omega arith);
}

-- which of two rows a bit is taken from
picked : (k u d : ℕ) (rows : List ℕ) → bit u k ≡ 0 → d < 2 → chosen (get_or rows u 0) (get_or rows (u + 2 ^ k) 0) d ≡ get_or rows (with_bit k u d) 0
picked k u zero rows e l = let w : u ≡ with_bit k u 0 = omega arith ∙ ap (λ d. u + 0 * 2 ^ k - d * 2 ^ k) (sym e) in ap (λ n. get_or rows n 0) w
picked k u (suc zero) rows e l = let w : u + 2 ^ k ≡ with_bit k u 1 = omega arith ∙ ap (λ d. u + 1 * 2 ^ k - d * 2 ^ k) (sym e) in ap (λ n. get_or rows n 0) w
picked k u (suc (suc d)) rows e l = absurd (omega arith)

both_exchanged : (k u a b : ℕ) (before now : List ℕ) → k < 7 → u < 128 → bit u k ≡ 0
    → ((v : ℕ) → v < 128 → bit a v ≡ bit (chosen (get_or now u 0) (get_or now (u + 2 ^ k) 0) (bit v k)) (with_bit k v 0))
    → ((v : ℕ) → v < 128 → bit b v ≡ bit (chosen (get_or now u 0) (get_or now (u + 2 ^ k) 0) (bit v k)) (with_bit k v 1))
    → Exchanged k u before now → Exchanged k (u + 1) before (set (set now u a) (u + 2 ^ k) b)
both_exchanged k u a b before now h l e ea eb i =
    let s : ℕ = 2 ^ k in
    let pos : 0 < s = pow_pos k in
    let near = beside k h u l e in
    let near0 : u + s < 128 = near.0 in
    let cu : with_bit k u 0 ≡ u = ap (λ d. u + 0 * s - d * s) e ∙ omega arith in
    let cs : with_bit k (u + s) 0 ≡ u = ap (λ d. (u + s) + 0 * s - d * s) near.1 ∙ omega arith in
    let here : get_or now u 0 ≡ get_or before u 0 = i.left u (omega arith) in
    let there : get_or now (u + s) 0 ≡ get_or before (u + s) 0 = i.left (u + s) (omega arith) in
    let both : (d : ℕ) → chosen (get_or now u 0) (get_or now (u + s) 0) d ≡ chosen (get_or before u 0) (get_or before (u + s) 0) d = λ d. ap (λ x. chosen x (get_or now (u + s) 0) d) here ∙ ap (λ x. chosen (get_or before u 0) x d) there in
    let now1 : List ℕ = set now u a in
    let long1 : length now1 ≡ 128 = length-set now u a ∙ i.long in
    let at_u : get_or (set now1 (u + s) b) u 0 ≡ a = get_or-set_other now1 (u + s) u b 0 (omega arith) ∙ get_or-set_same now u a 0 (let g = i.long in omega arith) in
    let at_s : get_or (set now1 (u + s) b) (u + s) 0 ≡ b = get_or-set_same now1 (u + s) b 0 (omega arith) in
    let other : (j : ℕ) → j ≢ u → j ≢ u + s → get_or (set now1 (u + s) b) j 0 ≡ get_or now j 0 = λ j p q. get_or-set_other now1 (u + s) j b 0 q ∙ get_or-set_other now u j a 0 p in
    let apart : (j : ℕ) → with_bit k j 0 ≢ u → get_or (set now1 (u + s) b) j 0 ≡ get_or now j 0 = λ j p. other j (λ q. p (ap (λ n. with_bit k n 0) q ∙ cu)) (λ q. p (ap (λ n. with_bit k n 0) q ∙ cs)) in
    record {
      long = length-set now1 (u + s) b ∙ long1;
      done = λ j v lj lv below. elim (cases_lt (with_bit k j 0) u) [
        | inl lt ↦ ap (λ n. bit n v) (apart j (omega arith)) ∙ i.done j v lj lv lt
        | inr ge ↦ let ej : with_bit k j 0 ≡ u = omega arith in elim (bit_cases j k) [
          | inl z ↦
              let q : j ≡ u = sym (ap (λ d. j + 0 * s - d * s) z ∙ omega arith) ∙ ej in
              ap (λ n. bit (get_or (set now1 (u + s) b) n 0) v) q ∙ ap (λ n. bit n v) at_u ∙ ea v lv
              ∙ ap (λ n. bit n (with_bit k v 0)) (both (bit v k) ∙ picked k u (bit v k) before e (bit_at-lt v k) ∙ ap (λ n. get_or before (with_bit k n (bit v k)) 0) (sym q))
              ∙ ap (λ d. bit (get_or before (with_bit k j (bit v k)) 0) (with_bit k v d)) (sym z)
          | inr z ↦
              let m = before_one k h j z in
              let m0 : s ≤ j = m.0 in
              let q0 : j - s ≡ u = sym (ap (λ d. j + 0 * s - d * s) z ∙ omega arith) ∙ ej in
              let q : j ≡ u + s = omega arith in
              let w : with_bit k u (bit v k) ≡ with_bit k j (bit v k) =
              ap (λ d. u + bit v k * s - d * s) e ∙ omega arith ∙ ap (λ d. j + bit v k * s - d * s) (sym z) in
              ap (λ n. bit (get_or (set now1 (u + s) b) n 0) v) q ∙ ap (λ n. bit n v) at_s ∙ eb v lv
              ∙ ap (λ n. bit n (with_bit k v 1)) (both (bit v k) ∙ picked k u (bit v k) before e (bit_at-lt v k) ∙ ap (λ n. get_or before n 0) w)
              ∙ ap (λ d. bit (get_or before (with_bit k j (bit v k)) 0) (with_bit k v d)) (sym z)
        ]
      ];
      left = λ j above. apart j (omega arith) ∙ i.left j (omega arith);
    }

-- the steps of the loop, as the code has them
pub shift_is : (k : ℕ) → k < 7 → 1 * 2 ^ k % 18446744073709551616 ≡ 2 ^ k
shift_is k h = one_shl k 64 (omega arith)

is_clear : (u k : ℕ) → bit_and (u / 2 ^ k) 1 ≡ 0 → bit u k ≡ 0
is_clear u k e = sym (shr_and_one u k) ∙ e

pub is_within : (k u w : ℕ) → k < 7 → u < 128 → bit_and (u / 2 ^ k) 1 ≡ 0 → w ≡ 1 * 2 ^ k % 18446744073709551616 → u + w < 128
is_within k u w h l e q = let n = (beside k h u l (is_clear u k e)).0 in let s = shift_is k h in omega arith

not_clear : (u k : ℕ) → bit_and (u / 2 ^ k) 1 ≢ 0 → bit u k ≢ 0
not_clear u k e z = e (shr_and_one u k ∙ z)

pub both_are : (k u a b w : ℕ) (before now after : List ℕ) → k < 7 → u < 128 → bit_and (u / 2 ^ k) 1 ≡ 0 → w ≡ 2 ^ k
    → ((v : ℕ) → v < 128 → bit a v ≡ bit (chosen (get_or now u 0) (get_or now (u + w) 0) (bit v k)) (with_bit k v 0))
    → ((v : ℕ) → v < 128 → bit b v ≡ bit (chosen (get_or now u 0) (get_or now (u + w) 0) (bit v k)) (with_bit k v 1))
    → after ≡ set (set now u a) (u + w) b → Exchanged k u before now → Exchanged k (u + 1) before after
both_are k u a b w before now after h l e q ea eb r i =
    subst (Exchanged k (u + 1) before) (sym (r ∙ ap (λ w. set (set now u a) (u + w) b) q))
    (both_exchanged k u a b before now h l (is_clear u k e) (λ v m. ea v m ∙ ap (λ w. bit (chosen (get_or now u 0) (get_or now (u + w) 0) (bit v k)) (with_bit k v 0)) q)
    (λ v m. eb v m ∙ ap (λ w. bit (chosen (get_or now u 0) (get_or now (u + w) 0) (bit v k)) (with_bit k v 1)) q) i)

pub neither : (k u : ℕ) (before now after : List ℕ) → k < 7 → bit_and (u / 2 ^ k) 1 ≢ 0 → after ≡ now → Exchanged k u before now → Exchanged k (u + 1) before after
neither k u before now after h ne r i = subst (Exchanged k (u + 1) before) (sym r) (skipped k u before now h (not_clear u k ne) i)

-- ---- all passes
pub record Mixed (k : ℕ) (before now : List ℕ) : Type 0 where
  pub at : (u v : ℕ) → u < 128 → v < 128 → bit (get_or now u 0) v ≡ bit (get_or before (mixed k u v) 0) (mixed k v u)

pub none_mixed : (rows : List ℕ) → Mixed 0 rows rows
none_mixed rows = record { at = λ u v l m. let e : u ≡ mixed 0 u v = omega arith in let f : v ≡ mixed 0 v u = omega arith in ap (λ n. bit (get_or rows n 0) v) e ∙ ap (bit (get_or rows (mixed 0 u v) 0)) f }

pub more_mixed : (k : ℕ) (before now next : List ℕ) → k < 7
    → ((u v : ℕ) → u < 128 → v < 128 → bit (get_or next u 0) v ≡ bit (get_or now (with_bit k u (bit v k)) 0) (with_bit k v (bit u k)))
    → Mixed k before now → Mixed (k + 1) before next
more_mixed k before now next h e i = record {
  at = λ u v l m.
      e u v l m ∙ i.at (with_bit k u (bit v k)) (with_bit k v (bit u k)) (within k h u v l) (within k h v u m)
      ∙ ap (λ n. bit (get_or before n 0) (mixed k (with_bit k v (bit u k)) (with_bit k u (bit v k)))) (mixed_more k h u v)
      ∙ ap (bit (get_or before (mixed (k + 1) u v) 0)) (mixed_more k h v u);
}

pub all_mixed : (k : ℕ) (before now : List ℕ) → k ≡ 7 → Mixed k before now → (u v : ℕ) → u < 128 → v < 128 → bit (get_or now u 0) v ≡ bit (get_or before v 0) u
all_mixed k before now e i u v l m =
    let p : mixed 7 u v ≡ v = omega arith in
    let q : mixed 7 v u ≡ u = omega arith in
    i.at u v l m ∙ ap (λ k. bit (get_or before (mixed k u v) 0) (mixed k v u)) e ∙ ap (λ n. bit (get_or before n 0) (mixed 7 v u)) p ∙ ap (bit (get_or before v 0)) q
