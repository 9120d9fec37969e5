-- Steps of the loops over buckets.
use Rattle.std.proofs.Common.{◌≡◌, ◌≢◌, ℕ, suc, ◌+◌, ◌-◌, ◌*◌, ◌/◌, ◌%◌, ◌^◌, ◌<◌, ◌≤◌, ◌⊎◌, inl, inr, List, [], ◌∷◌, map, length, get_or, set, drop, bit_xor, bit_and, refl, sym, ◌∙◌, ap, subst, arith, lit<, min, add-one, drop-cons, drop_of_length-le}
use Rattle.std.proofs.lemmas.Bool.{cases_lt}
use Rattle.std.proofs.lemmas.Nat.{and_mask, one_shl, pow_below, pow-add}
use Rattle.std.proofs.Math.Nat.{mod-lt, pow-le-pow_right}
use Rattle.std.proofs.Math.ListN.{length-set}
use Rattle.std.proofs.lemmas.List.{get_or-set_same, get_or-set_other, get_or_default}
use Rattle.tower_laws.specs.Tower.{mul}
use Rattle.tower_laws.proofs.Levels.{field_zero, field_one}
use Rattle.tower_laws.proofs.Rules.{plus_zero}
use Rattle.tower_laws.proofs.Field.{identity, field_terms}
use Rattle.cube_laws.proofs.Dots.{dot_nil}
use Rattle.cube_laws.specs.Sums.{sum_to}
use Rattle.cube_laws.specs.Extension.{bit}
use Rattle.cube_laws.proofs.Weights.{sum_to-same}
use Rattle.cube_laws.proofs.Positions.{sum_to-more}
use Rattle.packed_words.specs.Bytes.{bucket, byte_of, is_byte}
use Rattle.packed_words.proofs.ByteSums.{is_byte_same, is_byte_other, upper_half, both_halves, nothing_plus}

pub eq_cases : (a b : ℕ) → (a ≡ b) ⊎ (a ≢ b)
eq_cases a b = elim (cases_lt a b) [
  | inl l ↦ inr (λ e. omega arith)
  | inr g ↦ elim (cases_lt b a) [ inl l ↦ inr (λ e. omega arith) | inr h ↦ inl (omega arith) ]
]

-- ---- an element is added to the buckets at the first p places
pub record Added (p e w : ℕ) (old now : List ℕ) : Type 0 where
  pub long : length now ≡ 4096
  pub done : (i b : ℕ) → i < p → b < 256 → get_or now (256 * i + b) 0 ≡ bit_xor (get_or old (256 * i + b) 0) (mul (is_byte b (byte_of i w)) e)
  pub left : (k : ℕ) → 256 * p ≤ k → get_or now k 0 ≡ get_or old k 0

pub none_added : (e w : ℕ) (old : List ℕ) → length old ≡ 4096 → Added 0 e w old old
none_added e w old h = record { long = h; done = λ i b l m. absurd (omega arith); left = λ k l. refl }

pub slot_is : (w p : ℕ) → bit_and (w / 2 ^ (8 * p)) 255 ≡ byte_of p w
slot_is w p = and_mask (w / 2 ^ (8 * p)) 8

pub slot_lt : (w p : ℕ) → p < 16 → 256 * p + bit_and (w / 2 ^ (8 * p)) 255 < 4096
slot_lt w p h =
    let m = slot_is w p in
    let l = mod-lt (w / 2 ^ (8 * p)) {m = 256} (lit< tt) in
    omega arith

more_added_at : (p e w x : ℕ) (old now : List ℕ) → p < 16 → Added p e w old now → x ≡ byte_of p w → Added (p + 1) e w old (set now (256 * p + x) (bit_xor (get_or now (256 * p + x) 0) e))
more_added_at p e w x old now h a ex =
    let lx : x < 256 = let l = mod-lt (w / 2 ^ (8 * p)) {m = 256} (lit< tt) in omega arith in
    let k : ℕ = 256 * p + x in
    let v : ℕ = bit_xor (get_or now k 0) e in
    let lk : k < length now = let l = a.long in omega arith in
    record {
      long = length-set now k v ∙ a.long;
      done = λ i b li lb. elim (cases_lt i p) [
        | inl l ↦ get_or-set_other now k (256 * i + b) v 0 (omega arith) ∙ a.done i b l lb
        | inr g ↦
            let ei : i ≡ p = omega arith in
            let there : get_or now (256 * p + b) 0 ≡ get_or old (256 * p + b) 0 = a.left (256 * p + b) (omega arith) in
            ap (λ i. get_or (set now k v) (256 * i + b) 0) ei
            ∙ elim (eq_cases b x) [
              | inl eb ↦
                  ap (λ b. get_or (set now k v) (256 * p + b) 0) eb ∙ get_or-set_same now k v 0 lk ∙ ap (λ b. bit_xor (get_or now (256 * p + b) 0) e) (sym eb)
                  ∙ (λ t. bit_xor (there t) ((sym (field_one e) ∙ ap (λ d. mul d e) (sym (is_byte_same b)) ∙ ap (λ x. mul (is_byte b x) e) (eb ∙ ex)) t))
              | inr nb ↦
                  get_or-set_other now k (256 * p + b) v 0 (λ q. nb (omega arith)) ∙ there
                  ∙ sym (ap (bit_xor (get_or old (256 * p + b) 0)) (ap (λ d. mul d e) (is_byte_other b (byte_of p w) (λ q. nb (q ∙ sym ex))) ∙ field_zero e) ∙ plus_zero (get_or old (256 * p + b) 0))
            ]
            ∙ ap (λ i. bit_xor (get_or old (256 * i + b) 0) (mul (is_byte b (byte_of i w)) e)) (sym ei)
      ];
      left = λ j l. get_or-set_other now k j v 0 (omega arith) ∙ a.left j (omega arith);
    }

pub more_added : (p e w x y : ℕ) (old now : List ℕ) → p < 16 → Added p e w old now → x ≡ get_or now (256 * p + bit_and (w / 2 ^ (8 * p)) 255) x
    → y ≡ bit_xor x e → Added (p + 1) e w old (set now (256 * p + bit_and (w / 2 ^ (8 * p)) 255) y)
more_added p e w x y old now h a ex ey =
    let k : ℕ = 256 * p + bit_and (w / 2 ^ (8 * p)) 255 in
    let l : k < length now = let s = slot_lt w p h in let n = a.long in omega arith in
    subst (λ y. Added (p + 1) e w old (set now k y)) (sym (ey ∙ ap (λ x. bit_xor x e) (ex ∙ get_or_default now k x 0 l))) (more_added_at p e w (bit_and (w / 2 ^ (8 * p)) 255) old now h a (slot_is w p))

-- ---- an upper half is added to the lower one, for the first n
pub record HalfAdded (first half n sum : ℕ) (old now : List ℕ) : Type 0 where
  pub long : length now ≡ length old
  pub total : sum ≡ sum_to n (λ b. get_or old (first + (half + b)) 0)
  pub added : (b : ℕ) → b < n → get_or now (first + b) 0 ≡ bit_xor (get_or old (first + b) 0) (get_or old (first + (half + b)) 0)
  pub left : (k : ℕ) → first + n ≤ k → get_or now k 0 ≡ get_or old k 0

pub none_half : (first half : ℕ) (old : List ℕ) → HalfAdded first half 0 0 old old
none_half first half old = record { long = refl; total = refl; added = λ b l. absurd (omega arith); left = λ k l. refl }

pub more_half : (first half n sum more u x y : ℕ) (old now : List ℕ) → n < half → first + (half + n) < length old → HalfAdded first half n sum old now
    → u ≡ get_or now (first + (half + n)) u → more ≡ bit_xor u sum → x ≡ get_or now (first + n) x → y ≡ bit_xor x u → HalfAdded first half (n + 1) more old (set now (first + n) y)
more_half first half n sum more u x y old now h l a eu em ex ey =
    let ln : length now ≡ length old = a.long in
    let pu : u ≡ get_or old (first + (half + n)) 0 = eu ∙ get_or_default now (first + (half + n)) u 0 (omega arith) ∙ a.left (first + (half + n)) (omega arith) in
    let px : x ≡ get_or old (first + n) 0 = ex ∙ get_or_default now (first + n) x 0 (omega arith) ∙ a.left (first + n) (omega arith) in
    record {
      long = length-set now (first + n) y ∙ ln;
      total = sum_to-more n sum u more (λ b. get_or old (first + (half + b)) 0) a.total pu em;
      added = λ b lb. elim (cases_lt b n) [
        | inl m ↦ get_or-set_other now (first + n) (first + b) y 0 (omega arith) ∙ a.added b m
        | inr g ↦
            let e : b ≡ n = omega arith in
            ap (λ b. get_or (set now (first + n) y) (first + b) 0) e ∙ get_or-set_same now (first + n) y 0 (omega arith) ∙ ey
            ∙ (λ t. bit_xor (px t) (pu t)) ∙ ap (λ b. bit_xor (get_or old (first + b) 0) (get_or old (first + (half + b)) 0)) (sym e)
      ];
      left = λ k m. get_or-set_other now (first + n) k y 0 (omega arith) ∙ a.left k (omega arith);
    }

-- ---- the sums for the highest bits of one place are made
abbrev at_place : ℕ → List ℕ → ℕ → ℕ
at_place p buckets b = get_or buckets (256 * p + b) 0

pub record PlaceSummed (p step : ℕ) (sums old now : List ℕ) : Type 0 where
  pub long : length now ≡ 4096
  pub sums_long : length sums ≡ 8
  pub made : (k : ℕ) → 8 ≤ k + step → k < 8 → get_or sums k 0 ≡ sum_to 256 (λ b. mul (bit b k) (at_place p old b))
  pub rest : (k : ℕ) → k + step < 8 → sum_to (2 ^ (8 - step)) (λ b. mul (bit b k) (at_place p now b)) ≡ sum_to 256 (λ b. mul (bit b k) (at_place p old b))
  pub after : (k : ℕ) → 256 * (p + 1) ≤ k → get_or now k 0 ≡ get_or old k 0

pub none_summed : (p : ℕ) (sums old : List ℕ) → length sums ≡ 8 → length old ≡ 4096 → PlaceSummed p 0 sums old old
none_summed p sums old h l = record { long = l; sums_long = h; made = λ k m n. absurd (omega arith); rest = λ k m. refl; after = λ k m. refl }

more_summed_at : (p j step v : ℕ) (sums old now next : List ℕ) → suc (j + step) ≡ 8 → length next ≡ length now
    → v ≡ sum_to (2 ^ j) (λ b. at_place p now (2 ^ j + b))
    → ((b : ℕ) → b < 2 ^ j → at_place p next b ≡ bit_xor (at_place p now b) (at_place p now (2 ^ j + b)))
    → ((k : ℕ) → 256 * p + 2 ^ j ≤ k → get_or next k 0 ≡ get_or now k 0) → 2 ^ j ≤ 256
    → PlaceSummed p step sums old now → PlaceSummed p (step + 1) (set sums j v) old next
more_summed_at p j step v sums old now next e ln ev ea ek small s =
    let w : 8 - step ≡ suc j = omega arith in
    let w' : 8 - (step + 1) ≡ j = omega arith in
    let lj : j < length sums = let l = s.sums_long in omega arith in
    record {
      long = ln ∙ s.long;
      sums_long = length-set sums j v ∙ s.sums_long;
      made = λ k m n. elim (eq_cases k j) [
        | inl q ↦
            ap (λ k. get_or (set sums j v) k 0) q ∙ get_or-set_same sums j v 0 lj ∙ ev ∙ sym (upper_half j (at_place p now))
            ∙ ap (λ n. sum_to (2 ^ n) (λ b. mul (bit b j) (at_place p now b))) (sym w) ∙ s.rest j (omega arith) ∙ ap (λ k. sum_to 256 (λ b. mul (bit b k) (at_place p old b))) (sym q)
        | inr q ↦ get_or-set_other sums j k v 0 q ∙ s.made k (omega arith) n
      ];
      rest = λ k m.
          ap (λ n. sum_to (2 ^ n) (λ b. mul (bit b k) (at_place p next b))) w'
          ∙ sum_to-same (2 ^ j) (λ b. mul (bit b k) (at_place p next b)) (λ b. mul (bit b k) (bit_xor (at_place p now b) (at_place p now (2 ^ j + b)))) (λ b l. ap (mul (bit b k)) (ea b l))
          ∙ sym (both_halves k j (at_place p now) (omega arith))
          ∙ ap (λ n. sum_to (2 ^ n) (λ b. mul (bit b k) (at_place p now b))) (sym w) ∙ s.rest k (omega arith);
      after = λ k m. ek k (omega arith) ∙ s.after k m;
    }

pub more_summed : (p step v : ℕ) (sums old now next : List ℕ) → step < 8 → length next ≡ length now
    → v ≡ sum_to (2 ^ (7 - step)) (λ b. get_or now (256 * p + (2 ^ (7 - step) + b)) 0)
    → ((b : ℕ) → b < 2 ^ (7 - step) → get_or next (256 * p + b) 0 ≡ bit_xor (get_or now (256 * p + b) 0) (get_or now (256 * p + (2 ^ (7 - step) + b)) 0))
    → ((k : ℕ) → 256 * p + 2 ^ (7 - step) ≤ k → get_or next k 0 ≡ get_or now k 0)
    → PlaceSummed p step sums old now → PlaceSummed p (step + 1) (set sums (7 - step) v) old next
more_summed p step v sums old now next h ln ev ea ek s = more_summed_at p (7 - step) step v sums old now next (omega arith) ln ev ea ek (le_of_lt (pow_below (7 - step) 8 (omega arith))) s
  where
    le_of_lt : {a b : ℕ} → a < b → a ≤ b
    le_of_lt h = omega arith

half_fits : (p j : ℕ) → p < 16 → j < 8 → 256 * p + 2 ^ (j + 1) ≤ 4096
half_fits p j h l = let k : j + 1 ≤ 8 = omega arith in let m : 2 ^ (j + 1) ≤ 2 ^ 8 = pow-le-pow_right {n = 2} (omega arith) k in omega arith

pub place_fits : (p step : ℕ) → p < 16 → 256 * p + 2 ^ (7 - step + 1) ≤ 4096
place_fits p step h = half_fits p (7 - step) h (omega arith)

pub half_is : (bit : ℕ) → bit < 8 → 1 * 2 ^ bit % 18446744073709551616 ≡ 2 ^ bit
half_is bit h = one_shl bit 64 (omega arith)

pub upper_in : (bit first n m : ℕ) → bit < 8 → n < 1 * 2 ^ bit % 18446744073709551616 → first + 2 ^ (bit + 1) ≤ m → first + (1 * 2 ^ bit % 18446744073709551616 + n) < m
upper_in bit first n m h l f = let e = half_is bit h in let p : 2 ^ (bit + 1) ≡ 2 * 2 ^ bit = pow-add 2 bit 1 ∙ omega arith in omega arith

pub more_half_at : (first place n sum more u x y : ℕ) (old now : List ℕ) → place < 8 → n < 1 * 2 ^ place % 18446744073709551616 → first + 2 ^ (place + 1) ≤ length old
    → HalfAdded first (1 * 2 ^ place % 18446744073709551616) n sum old now
    → u ≡ get_or now (first + (1 * 2 ^ place % 18446744073709551616 + n)) u → more ≡ bit_xor u sum → x ≡ get_or now (first + n) x → y ≡ bit_xor x u
    → HalfAdded first (1 * 2 ^ place % 18446744073709551616) (n + 1) more old (set now (first + n) y)
more_half_at first place n sum more u x y old now h l f a eu em ex ey = more_half first (1 * 2 ^ place % 18446744073709551616) n sum more u x y old now l (upper_in place first n (length old) h l f) a eu em ex ey

-- ---- lists are put into the buckets
pub record Filled (k : ℕ) (words es buckets : List ℕ) : Type 0 where
  pub long : length buckets ≡ 4096
  pub each : (i b : ℕ) → i < 16 → b < 256 → bit_xor (get_or buckets (256 * i + b) 0) (bucket i b (drop k words) (drop k es)) ≡ bucket i b words es

pub none_filled : (words es buckets : List ℕ) → length buckets ≡ 4096 → ((k : ℕ) → get_or buckets k 0 ≡ 0) → Filled 0 words es buckets
none_filled words es buckets l h = record { long = l; each = λ i b li lb. ap (λ x. bit_xor x (bucket i b words es)) (h (256 * i + b)) ∙ nothing_plus (bucket i b words es) }

assoc_step : (s t r : ℕ) → bit_xor (bit_xor s t) r ≡ bit_xor s (bit_xor t r)
assoc_step s t r = identity (s ∷ t ∷ r ∷ []) (search field_terms depth 60 fits 20000) refl

pub more_filled : (k w e : ℕ) (words es buckets next : List ℕ) → k < length words → k < length es → w ≡ get_or words k w → e ≡ get_or es k e → length next ≡ length buckets
    → ((i b : ℕ) → i < 16 → b < 256 → get_or next (256 * i + b) 0 ≡ bit_xor (get_or buckets (256 * i + b) 0) (mul (is_byte b (byte_of i w)) e))
    → Filled k words es buckets → Filled (k + 1) words es next
more_filled k w e words es buckets next lw le ew ee ln en f = record {
  long = ln ∙ f.long;
  each = λ i b li lb.
      let dw : drop k words ≡ w ∷ drop (k + 1) words = drop-cons words k w lw ∙ rw add-one (ap (λ x. x ∷ drop (suc k) words) (sym ew)) in
      let de : drop k es ≡ e ∷ drop (k + 1) es = drop-cons es k e le ∙ rw add-one (ap (λ x. x ∷ drop (suc k) es) (sym ee)) in
      ap (λ x. bit_xor x (bucket i b (drop (k + 1) words) (drop (k + 1) es))) (en i b li lb)
      ∙ assoc_step (get_or buckets (256 * i + b) 0) (mul (is_byte b (byte_of i w)) e) (bucket i b (drop (k + 1) words) (drop (k + 1) es))
      ∙ ap (bit_xor (get_or buckets (256 * i + b) 0)) (sym (λ t. bucket i b (dw t) (de t))) ∙ f.each i b li lb;
}

bucket_end : (k i b : ℕ) (words es : List ℕ) → (length words ≤ k) ⊎ (length es ≤ k) → bucket i b (drop k words) (drop k es) ≡ 0
bucket_end k i b words es (inl h) = ap (λ ws. bucket i b ws (drop k es)) (drop_of_length-le words h)
bucket_end k i b words es (inr h) = ap (bucket i b (drop k words)) (drop_of_length-le es h) ∙ dot_nil (map (λ w. is_byte b (byte_of i w)) (drop k words))

pub all_filled : (k : ℕ) (words es buckets : List ℕ) → (length words ≤ k) ⊎ (length es ≤ k) → Filled k words es buckets → (i b : ℕ) → i < 16 → b < 256 → get_or buckets (256 * i + b) 0 ≡ bucket i b words es
all_filled k words es buckets h f i b li lb = sym (ap (bit_xor (get_or buckets (256 * i + b) 0)) (bucket_end k i b words es h) ∙ plus_zero (get_or buckets (256 * i + b) 0)) ∙ f.each i b li lb

-- ---- the sums of places are put together
pub record Collected (p : ℕ) (all old now : List ℕ) : Type 0 where
  pub long : length now ≡ 4096
  pub all_long : length all ≡ 128
  pub made : (i k : ℕ) → i < p → k < 8 → get_or all (8 * i + k) 0 ≡ sum_to 256 (λ b. mul (bit b k) (at_place i old b))
  pub left : (k : ℕ) → 256 * p ≤ k → get_or now k 0 ≡ get_or old k 0

pub none_collected : (all old : List ℕ) → length all ≡ 128 → length old ≡ 4096 → Collected 0 all old old
none_collected all old n l = record { long = l; all_long = n; made = λ i k m n. absurd (omega arith); left = λ k m. refl }

pub more_collected : (p : ℕ) (sums all more old now next : List ℕ) → length more ≡ 128 → length next ≡ length now
    → ((k : ℕ) → k < 8 → get_or sums k 0 ≡ sum_to 256 (λ b. mul (bit b k) (get_or now (256 * p + b) 0)))
    → ((k : ℕ) → 256 * (p + 1) ≤ k → get_or next k 0 ≡ get_or now k 0)
    → ((k : ℕ) → k < 8 → get_or more (8 * p + k) 0 ≡ get_or sums k 0) → ((k : ℕ) → k < 8 * p → get_or more k 0 ≡ get_or all k 0)
    → Collected p all old now → Collected (p + 1) more old next
more_collected p sums all more old now next la ln es ek eh eb c = record {
  long = ln ∙ c.long;
  all_long = la;
  made = λ i k li lk. elim (cases_lt i p) [
    | inl l ↦ eb (8 * i + k) (omega arith) ∙ c.made i k l lk
    | inr g ↦
        let e : i ≡ p = omega arith in
        ap (λ i. get_or more (8 * i + k) 0) e ∙ eh k lk ∙ es k lk
        ∙ sum_to-same 256 (λ b. mul (bit b k) (get_or now (256 * p + b) 0)) (λ b. mul (bit b k) (at_place p old b)) (λ b l. ap (mul (bit b k)) (c.left (256 * p + b) (omega arith)))
        ∙ ap (λ i. sum_to 256 (λ b. mul (bit b k) (at_place i old b))) (sym e)
  ];
  left = λ k l. ek k (omega arith) ∙ c.left k (omega arith);
}

pub record Put (p n : ℕ) (sums old now : List ℕ) : Type 0 where
  pub long : length now ≡ 128
  pub here : (k : ℕ) → k < n → get_or now (8 * p + k) 0 ≡ get_or sums k 0
  pub before : (k : ℕ) → k < 8 * p → get_or now k 0 ≡ get_or old k 0

pub none_put : (p : ℕ) (sums old : List ℕ) → length old ≡ 128 → Put p 0 sums old old
none_put p sums old l = record { long = l; here = λ k m. absurd (omega arith); before = λ k m. refl }

pub more_put : (p n x : ℕ) (sums old now : List ℕ) → p < 16 → n < 8 → n < length sums → x ≡ get_or sums n x → Put p n sums old now → Put p (n + 1) sums old (set now (8 * p + n) x)
more_put p n x sums old now hp hn hl ex u = record {
  long = length-set now (8 * p + n) x ∙ u.long;
  here = λ k l. elim (cases_lt k n) [
    | inl m ↦ get_or-set_other now (8 * p + n) (8 * p + k) x 0 (omega arith) ∙ u.here k m
    | inr g ↦
        let e : k ≡ n = omega arith in
        ap (λ k. get_or (set now (8 * p + n) x) (8 * p + k) 0) e ∙ get_or-set_same now (8 * p + n) x 0 (let l = u.long in omega arith)
        ∙ ex ∙ get_or_default sums n x 0 hl ∙ ap (λ k. get_or sums k 0) (sym e)
  ];
  before = λ k l. get_or-set_other now (8 * p + n) k x 0 (omega arith) ∙ u.before k l;
}

pub ended : (a b k : ℕ) → min a b ≤ k → (b ≤ k) ⊎ (a ≤ k)
ended a b k h = elim (cases_lt a b) [ inl l ↦ inr (omega arith) | inr g ↦ inl (omega arith) ]

-- a power of 2 as the code has it
pub power_is : (u : ℕ) → u < 128 → 1 * 2 ^ u % 2 ^ 128 ≡ 2 ^ u
power_is u h = one_shl u 128 h

pub more_powers : (u s x e m t : ℕ) (sums : List ℕ) → u < 128 → length sums ≡ 128 → s ≡ sum_to u (λ u. mul (get_or sums u 0) (2 ^ u))
    → e ≡ 1 * 2 ^ u % 2 ^ 128 → m ≡ mul (get_or sums u x) e → t ≡ bit_xor m s → t ≡ sum_to (u + 1) (λ u. mul (get_or sums u 0) (2 ^ u))
more_powers u s x e m t sums h l es ee em et =
    sum_to-more u s m t (λ u. mul (get_or sums u 0) (2 ^ u)) es
    (em ∙ (λ i. mul (get_or_default sums u x 0 (omega arith) i) ((ee ∙ power_is u h) i))) et
