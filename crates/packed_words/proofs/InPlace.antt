-- Lists that are scaled and folded in place.
use Rattle.std.proofs.Common.{◌≡◌, ℕ, ◌+◌, ◌*◌, ◌<◌, ◌≤◌, length, get_or, take, map, List, bit_xor, refl, sym, ◌∙◌, ap, arith, le_refl}
use Rattle.std.proofs.Math.ListN.{set, length-set}
use Rattle.std.proofs.lemmas.List.{take_more_same, take-set-le, take_all, get_or-set_other, length-map, get_or_default}
use Rattle.std.proofs.lemmas.Grind.{get_or-set_at}
use Rattle.tower_laws.specs.Tower.{mul}
use Rattle.tower_laws.proofs.Lists.{get_or-scaled}
use Rattle.cube_laws.specs.Extension.{fold_low}
use Rattle.cube_laws.proofs.Folding.{get_or-fold_low, length-fold_low}

-- the first i numbers are scaled
pub record Scaled (x i : ℕ) (old now : List ℕ) : Type 0 where
  pub long : length now ≡ length old
  pub done : take i now ≡ take i (map (mul x) old)
  pub kept : (k : ℕ) → i ≤ k → get_or now k 0 ≡ get_or old k 0

pub none_scaled : (x : ℕ) (old : List ℕ) → Scaled x 0 old old
none_scaled x old = record { long = refl; done = refl; kept = λ k le. refl }

pub more_scaled : (x i : ℕ) (old now : List ℕ) (a v : ℕ) → i < length now → Scaled x i old now → a ≡ get_or now i a → v ≡ mul x a → Scaled x (i + 1) old (set now i v)
more_scaled x i old now a v h s ea ev =
    let pa : a ≡ get_or old i 0 = ea ∙ get_or_default now i a 0 h ∙ s.kept i (le_refl i) in
    record {
      long = length-set now i v ∙ s.long;
      done = take_more_same (set now i v) (map (mul x) old) i 0
          (omega (arith, length-set now i v)) (omega (arith, length-map old (mul x), s.long)) (take-set-le i now i v (le_refl i) ∙ s.done)
          (get_or-set_at now i i v 0 refl h ∙ ev ∙ ap (mul x) pa ∙ sym (get_or-scaled x i old));
      kept = λ k le. get_or-set_other now i k v 0 (omega arith) ∙ s.kept k (omega arith);
    }

pub all_scaled : (x i : ℕ) (old now : List ℕ) → length now ≤ i → Scaled x i old now → now ≡ map (mul x) old
all_scaled x i old now h s = sym (take_all i now h) ∙ s.done ∙ take_all i (map (mul x) old) (omega (arith, length-map old (mul x), s.long))

-- the first i pairs are folded
pub record Folded (x half i : ℕ) (old now : List ℕ) : Type 0 where
  pub old_long : length old ≡ 2 * half
  pub now_long : length now ≡ 2 * half
  pub done : take i now ≡ take i (fold_low x old)
  pub kept : (k : ℕ) → 2 * i ≤ k → get_or now k 0 ≡ get_or old k 0

pub none_folded : (x half : ℕ) (old : List ℕ) → length old ≡ 2 * half → Folded x half 0 old old
none_folded x half old e = record { old_long = e; now_long = e; done = refl; kept = λ k le. refl }

pub more_folded : (x half i : ℕ) (old now : List ℕ) (a b v : ℕ) → i < half → Folded x half i old now
    → a ≡ get_or now (2 * i) a → b ≡ get_or now (2 * i + 1) b → v ≡ bit_xor a (mul x (bit_xor a b)) → Folded x half (i + 1) old (set now i v)
more_folded x half i old now a b v h s ea eb ev =
    let pa : a ≡ get_or old (2 * i) 0 = ea ∙ get_or_default now (2 * i) a 0 (omega (arith, s.now_long)) ∙ s.kept (2 * i) (omega arith) in
    let pb : b ≡ get_or old (2 * i + 1) 0 = eb ∙ get_or_default now (2 * i + 1) b 0 (omega (arith, s.now_long)) ∙ s.kept (2 * i + 1) (omega arith) in
    record {
      old_long = s.old_long;
      now_long = length-set now i v ∙ s.now_long;
      done = take_more_same (set now i v) (fold_low x old) i 0
          (omega (arith, length-set now i v, s.now_long)) (omega (arith, length-fold_low x half old s.old_long)) (take-set-le i now i v (le_refl i) ∙ s.done)
          (get_or-set_at now i i v 0 refl (omega (arith, s.now_long)) ∙ ev ∙ ap (λ w. bit_xor w (mul x (bit_xor w b))) pa ∙ ap (λ w. bit_xor (get_or old (2 * i) 0) (mul x (bit_xor (get_or old (2 * i) 0) w))) pb
          ∙ sym (get_or-fold_low x i old (omega (arith, s.old_long))));
      kept = λ k le. get_or-set_other now i k v 0 (omega arith) ∙ s.kept k (omega arith);
    }

pub all_folded : (x half i : ℕ) (old now : List ℕ) → i ≡ half → Folded x half i old now → take half now ≡ fold_low x old
all_folded x half i old now e s = rw (← e) s.done ∙ take_all half (fold_low x old) (omega (arith, length-fold_low x half old s.old_long))
