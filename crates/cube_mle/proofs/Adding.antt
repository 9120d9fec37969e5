-- The table of a shift at two points, bit by bit.
use Rattle.std.proofs.Common.{◌≡◌, ℕ, zero, suc, ◌+◌, ◌*◌, ◌/◌, ◌%◌, ◌^◌, ◌<◌, ◌≤◌, ◌≢◌, ◌⊎◌, inl, inr, eqb, true, false, List, [], ◌∷◌, length, drop, get_or, bit_xor, refl, sym, ◌∙◌, ap, subst, arith}
use Rattle.std.proofs.lemmas.Bool.Decides.{eqb_tells}
use Rattle.std.proofs.lemmas.List.{drop_all}
use Rattle.tower_laws.specs.Tower.{mul}
use Rattle.tower_laws.proofs.Field.{identity, field_terms}
use Rattle.shift_laws.specs.Shifts.{rol, carried, pairs_at, shift_at, pick}
use Rattle.shift_laws.proofs.Carries.{carry_start, carry_step, round_is}
use Rattle.shift_laws.proofs.Moves.{mod_below}
use Rattle.cube_mle.specs.Moving.{HasAddedOne, HasAddedZero}
use Rattle.cube_mle.proofs.Folds.{opened}

-- what is left of all bits: with the weights of no carry and of a carry into them
pub record Added (offset : ℕ) (ys xs : List ℕ) (rest without carry : ℕ) (ys' xs' : List ℕ) : Type 0 where
  pub equal : length ys' ≡ length xs'
  pub small : rest < 2 ^ length xs'
  pub sums : (d : ℕ) → pairs_at (length xs) (carried (length xs) offset 0 d) ys xs
      ≡ bit_xor (mul without (pairs_at (length xs') (carried (length xs') rest 0 d) ys' xs')) (mul carry (pairs_at (length xs') (carried (length xs') rest 1 d) ys' xs'))

first : (u v : ℕ) → u ≡ bit_xor (mul 1 u) (mul 0 v)
first u v = identity (u ∷ v ∷ []) (search field_terms depth 60 fits 20000) refl

pub add_start : (offset : ℕ) (ys xs : List ℕ) → length ys ≡ length xs → offset < 2 ^ length xs → Added offset ys xs offset 1 0 ys xs
add_start offset ys xs e l = record { equal = e; small = l; sums = λ d. first _ _ }

-- a bit with a carry into it, where the offset has s
bit_at : (b o c d x y s : ℕ) (xs ys : List ℕ) → length xs ≡ b → length ys ≡ b → o % 2 ≡ s
    → pairs_at (suc b) (carried (suc b) o c d) (y ∷ ys) (x ∷ xs)
    ≡ bit_xor (mul (mul (bit_xor 1 x) (pick ((s + c) % 2) y)) (pairs_at b (carried b (o / 2) ((s + c) / 2) d) ys xs))
    (mul (mul x (pick ((1 + s + c) % 2) y)) (pairs_at b (carried b (o / 2) ((1 + s + c) / 2) d) ys xs))
bit_at b o c d x y s xs ys hx hy e =
    carry_step b o c d x y xs ys hx hy
    ∙ ap (λ s. bit_xor (mul (mul (bit_xor 1 x) (pick ((s + c) % 2) y)) (pairs_at b (carried b (o / 2) ((s + c) / 2) d) ys xs))
    (mul (mul x (pick ((1 + s + c) % 2) y)) (pairs_at b (carried b (o / 2) ((1 + s + c) / 2) d) ys xs))) e

zero_adds : (x y p q u v : ℕ)
    → bit_xor (mul p (bit_xor (mul (mul (bit_xor 1 x) (bit_xor 1 y)) u) (mul (mul x y) u))) (mul q (bit_xor (mul (mul (bit_xor 1 x) y) u) (mul (mul x (bit_xor 1 y)) v)))
    ≡ bit_xor (mul (bit_xor (mul (bit_xor (bit_xor 1 x) y) p) (mul (mul (bit_xor 1 x) y) q)) u) (mul (mul (mul x (bit_xor 1 y)) q) v)
zero_adds x y p q u v = identity (x ∷ y ∷ p ∷ q ∷ u ∷ v ∷ []) (search field_terms depth 60 fits 20000) refl

one_adds : (x y p q u v : ℕ)
    → bit_xor (mul p (bit_xor (mul (mul (bit_xor 1 x) y) u) (mul (mul x (bit_xor 1 y)) v))) (mul q (bit_xor (mul (mul (bit_xor 1 x) (bit_xor 1 y)) v) (mul (mul x y) v)))
    ≡ bit_xor (mul (mul (mul (bit_xor 1 x) y) p) u) (mul (bit_xor (mul (mul x (bit_xor 1 y)) p) (mul (bit_xor (bit_xor 1 x) y) q)) v)
one_adds x y p q u v = identity (x ∷ y ∷ p ∷ q ∷ u ∷ v ∷ []) (search field_terms depth 60 fits 20000) refl

half_small : (o : ℕ) (x : ℕ) (xs : List ℕ) → o < 2 ^ length (x ∷ xs) → o / 2 < 2 ^ length xs
half_small o x xs h = let e : 2 ^ suc (length xs) ≡ 2 * 2 ^ length xs = omega arith in omega arith

pub add_zero : (offset rest p q p' q' x y : ℕ) (ys xs ys' xs' : List ℕ) → rest % 2 ≡ 0 → HasAddedZero y x p q p' q' → Added offset ys xs rest p q (y ∷ ys') (x ∷ xs') → Added offset ys xs (rest / 2) p' q' ys' xs'
add_zero offset rest p q p' q' x y ys xs ys' xs' s n h =
    let e : length ys' ≡ length xs' = let l = h.equal in omega arith in
    record {
      equal = e;
      small = half_small rest x xs' h.small;
      sums = λ d.
          h.sums d
          ∙ (λ i. bit_xor (mul p (bit_at (length xs') rest 0 d x y 0 xs' ys' refl e s i)) (mul q (bit_at (length xs') rest 1 d x y 0 xs' ys' refl e s i)))
          ∙ zero_adds x y p q _ _
          ∙ (λ i. bit_xor (mul (sym n.without_is i) (pairs_at (length xs') (carried (length xs') (rest / 2) 0 d) ys' xs')) (mul (sym n.with_is i) (pairs_at (length xs') (carried (length xs') (rest / 2) 1 d) ys' xs')));
    }

pub add_one : (offset rest p q p' q' x y : ℕ) (ys xs ys' xs' : List ℕ) → rest % 2 ≡ 1 → HasAddedOne y x p q p' q' → Added offset ys xs rest p q (y ∷ ys') (x ∷ xs') → Added offset ys xs (rest / 2) p' q' ys' xs'
add_one offset rest p q p' q' x y ys xs ys' xs' s n h =
    let e : length ys' ≡ length xs' = let l = h.equal in omega arith in
    record {
      equal = e;
      small = half_small rest x xs' h.small;
      sums = λ d.
          h.sums d
          ∙ (λ i. bit_xor (mul p (bit_at (length xs') rest 0 d x y 1 xs' ys' refl e s i)) (mul q (bit_at (length xs') rest 1 d x y 1 xs' ys' refl e s i)))
          ∙ one_adds x y p q _ _
          ∙ (λ i. bit_xor (mul (sym n.without_is i) (pairs_at (length xs') (carried (length xs') (rest / 2) 0 d) ys' xs')) (mul (sym n.with_is i) (pairs_at (length xs') (carried (length xs') (rest / 2) 1 d) ys' xs')));
    }

last_without : (p q : ℕ) → bit_xor (mul p 1) (mul q 0) ≡ p
last_without p q = identity (p ∷ q ∷ []) (search field_terms depth 60 fits 20000) refl

last_with : (p q : ℕ) → bit_xor (mul p 0) (mul q 1) ≡ q
last_with p q = identity (p ∷ q ∷ []) (search field_terms depth 60 fits 20000) refl

-- no bit is left
pub all_added : (offset rest p q : ℕ) (ys xs : List ℕ) → Added offset ys xs rest p q [] []
    → (p ≡ pairs_at (length xs) (carried (length xs) offset 0 0) ys xs) × (q ≡ pairs_at (length xs) (carried (length xs) offset 0 1) ys xs)
all_added offset rest p q ys xs h = at rest (let s = h.small in omega arith) h.sums
  where
    at : (rest : ℕ) → rest ≡ 0 → ((d : ℕ) → pairs_at (length xs) (carried (length xs) offset 0 d) ys xs ≡ bit_xor (mul p (pairs_at 0 (carried 0 rest 0 d) [] [])) (mul q (pairs_at 0 (carried 0 rest 1 d) [] [])))
        → (p ≡ pairs_at (length xs) (carried (length xs) offset 0 0) ys xs) × (q ≡ pairs_at (length xs) (carried (length xs) offset 0 1) ys xs)
    at zero e sums = (
      sym (sums 0 ∙ (λ i. bit_xor (mul p (carry_start 0 0 0 i)) (mul q (carry_start 0 1 0 i))) ∙ last_without p q),
      sym (sums 1 ∙ (λ i. bit_xor (mul p (carry_start 0 0 1 i)) (mul q (carry_start 0 1 1 i))) ∙ last_with p q),
    )
    at (suc n) e sums = absurd (omega arith)

-- round by an offset within the block
pub round_within : (b o : ℕ) (ys xs : List ℕ) → o < 2 ^ b → shift_at rol b o ys xs ≡ bit_xor (pairs_at b (carried b o 0 0) ys xs) (pairs_at b (carried b o 0 1) ys xs)
round_within b o ys xs h = round_is b o ys xs ∙ ap (λ r. bit_xor (pairs_at b (carried b r 0 0) ys xs) (pairs_at b (carried b r 0 1) ys xs)) (mod_below o (2 ^ b) h)

-- the next bit, whatever it is
pub add_next : (offset i rest p q p' q' x y : ℕ) (ys xs : List ℕ) → x ≡ get_or xs i x → y ≡ get_or ys i y → i < length xs → i < length ys
    → (eqb (rest % 2) 1 ≡ false → HasAddedZero y x p q p' q') → (eqb (rest % 2) 1 ≡ true → HasAddedOne y x p q p' q')
    → Added offset ys xs rest p q (drop i ys) (drop i xs) → Added offset ys xs (rest / 2) p' q' (drop (i + 1) ys) (drop (i + 1) xs)
add_next offset i rest p q p' q' x y ys xs ex ey lx ly zero_bit one_bit h = by_bit (eqb_tells (rest % 2) 1)
  where
    here : Added offset ys xs rest p q (y ∷ drop (i + 1) ys) (x ∷ drop (i + 1) xs)
    here = subst (λ zs. Added offset ys xs rest p q zs (x ∷ drop (i + 1) xs)) (opened ys i y ey ly) (subst (Added offset ys xs rest p q (drop i ys)) (opened xs i x ex lx) h)

    by_bit : ((eqb (rest % 2) 1 ≡ true) × (rest % 2 ≡ 1)) ⊎ ((eqb (rest % 2) 1 ≡ false) × (rest % 2 ≢ 1)) → Added offset ys xs (rest / 2) p' q' (drop (i + 1) ys) (drop (i + 1) xs)
    by_bit (inl (t, e)) = add_one offset rest p q p' q' x y ys xs (drop (i + 1) ys) (drop (i + 1) xs) e (one_bit t) here
    by_bit (inr (t, e)) = add_zero offset rest p q p' q' x y ys xs (drop (i + 1) ys) (drop (i + 1) xs) (omega arith) (zero_bit t) here

pub added_end : (offset i rest p q : ℕ) (ys xs : List ℕ) → length xs ≤ i → Added offset ys xs rest p q (drop i ys) (drop i xs)
    → (p ≡ pairs_at (length xs) (carried (length xs) offset 0 0) ys xs) × (q ≡ pairs_at (length xs) (carried (length xs) offset 0 1) ys xs)
added_end offset i rest p q ys xs l h = at (drop i ys) (drop i xs) (drop_all i xs l) h
  where
    at : (ys' xs' : List ℕ) → xs' ≡ [] → Added offset ys xs rest p q ys' xs' → (p ≡ pairs_at (length xs) (carried (length xs) offset 0 0) ys xs) × (q ≡ pairs_at (length xs) (carried (length xs) offset 0 1) ys xs)
    at [] [] e h = all_added offset rest p q ys xs h
    at (y ∷ ys') [] e h = absurd (let l = h.equal in omega arith)
    at ys' (x ∷ xs') e h = absurd (cc)
