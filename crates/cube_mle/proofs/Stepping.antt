-- The step, coordinate by coordinate.
use Rattle.std.proofs.Common.{◌≡◌, ℕ, zero, suc, ◌+◌, ◌*◌, ◌/◌, ◌%◌, ◌^◌, ◌<◌, ◌≤◌, List, [], ◌∷◌, ◌++◌, length, take, get_or, bit_xor, sym, ◌∙◌, ap, arith, length-append}
use Rattle.std.proofs.lemmas.List.{take_more}
use Rattle.tower_laws.specs.Tower.{mul}
use Rattle.shift_laws.specs.Shifts.{step_down}
use Rattle.shift_laws.proofs.Steps.{step_none, step_above, step_low, step_high}

-- the step of the rows' low bits at the coordinates so far, and the rest of the rows
pub record Stepped (rows : ℕ) (low : List ℕ) (rest step : ℕ) : Type 0 where
  pub below : ℕ
  pub small : below < 2 ^ length low
  pub rows_are : rows ≡ rest * 2 ^ length low + below
  pub so_far : step ≡ step_down below low

pub step_start : (rows : ℕ) → Stepped rows [] rows 0
step_start rows = record { below = 0; small = omega arith; rows_are = grind arith; so_far = sym (step_none []) }

long : (low : List ℕ) (x : ℕ) → 2 ^ length (low ++ x ∷ []) ≡ 2 * 2 ^ length low
long low x = ap (λ n. 2 ^ n) (length-append low (x ∷ []) ∙ last (length low)) ∙ doubled (length low)
  where
    last : (n : ℕ) → n + 1 ≡ suc n
    last n = omega arith

    doubled : (n : ℕ) → 2 ^ suc n ≡ 2 * 2 ^ n
    doubled n = omega arith

pub step_even : (rows x rest step next : ℕ) (low : List ℕ) → rest % 2 ≡ 0 → Stepped rows low rest step → next ≡ mul (bit_xor 1 x) step → Stepped rows (low ++ x ∷ []) (rest / 2) next
step_even rows x rest step next low e h n = record {
  below = h.below;
  small = let l = long low x in let s = h.small in omega arith;
  rows_are = h.rows_are ∙ halves rest (2 ^ length low) h.below e ∙ ap (λ m. rest / 2 * m + h.below) (sym (long low x));
  so_far = n ∙ ap (mul (bit_xor 1 x)) h.so_far ∙ sym (step_low h.below x low (let s = h.small in omega arith));
}
  where
    halves : (rest m below : ℕ) → rest % 2 ≡ 0 → rest * m + below ≡ rest / 2 * (2 * m) + below
    halves rest m below e = let d : rest ≡ rest / 2 * 2 = omega arith in ap (λ r. r * m + below) d ∙ grind arith

pub step_odd : (rows x rest step next : ℕ) (low : List ℕ) → rest % 2 ≡ 1 → Stepped rows low rest step → next ≡ bit_xor (bit_xor 1 x) (mul x step) → Stepped rows (low ++ x ∷ []) (rest / 2) next
step_odd rows x rest step next low e h n = record {
  below = 2 ^ length low + h.below;
  small = let l = long low x in let s = h.small in omega arith;
  rows_are = h.rows_are ∙ halves rest (2 ^ length low) h.below e ∙ ap (λ m. rest / 2 * m + (2 ^ length low + h.below)) (sym (long low x));
  so_far = n ∙ ap (λ s. bit_xor (bit_xor 1 x) (mul x s)) h.so_far ∙ sym (step_high h.below x low);
}
  where
    halves : (rest m below : ℕ) → rest % 2 ≡ 1 → rest * m + below ≡ rest / 2 * (2 * m) + (m + below)
    halves rest m below e = let d : rest ≡ rest / 2 * 2 + 1 = omega arith in ap (λ r. r * m + below) d ∙ grind arith

-- the next coordinate, by its place
pub taken : (point : List ℕ) (i x : ℕ) → x ≡ get_or point i x → i < length point → take (i + 1) point ≡ take i point ++ x ∷ []
taken point i x e l = take_more point i x l ∙ ap (λ y. take i point ++ y ∷ []) (sym e)

pub step_end : (rows step : ℕ) (point : List ℕ) → Stepped rows point 0 step → step ≡ step_down rows point
step_end rows step point h = let e = h.rows_are in let r : h.below ≡ rows = omega arith in h.so_far ∙ ap (λ n. step_down n point) r

pub step_whole : (rows rest step : ℕ) (point : List ℕ) → 0 < rest → Stepped rows point rest step → 1 ≡ step_down rows point
step_whole rows rest step point p h = sym (step_above rows point (whole rest (2 ^ length point) h.below p h.rows_are))
  where
    whole : (rest m below : ℕ) → 0 < rest → rows ≡ rest * m + below → m ≤ rows
    whole zero m below p e = absurd (omega arith)
    whole (suc rest) m below p e = let d : suc rest * m ≡ m + rest * m = grind arith in omega arith
