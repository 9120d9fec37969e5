-- The laws of shifts and steps, as statements.
-- Source: docs/LAWS.md, "shift_laws: shifts within blocks and steps".
use Rattle.std.specs.Prelude.{◌≡◌, ◌≤◌, ◌==◌, ◌+◌, ◌*◌, ◌/◌, ◌%◌, ◌^◌, ℕ, suc, List, [], ◌∷◌, ◌++◌, length, bit_xor}
use Rattle.tower_laws.specs.Tower.{mul}
use Rattle.tower_laws.specs.Lists.{AllFit}
use Rattle.cube_laws.specs.Extension.{extension}
use Rattle.cube_laws.specs.SumClaim.{sum_at}
use Rattle.shift_laws.specs.Shifts.{Shift, shl, shr, rol, flag, step_down, shifted, pairs_at, shift_at, shift_sum, carried, pick}

-- the step, by its last coordinate
pub record AreSteps : Type 0 where
  pub none_below : (z : List ℕ) → step_down 0 z ≡ 0
  pub all_below : (z : List ℕ) → step_down (2 ^ length z) z ≡ 1
  pub in_lower_half : (n x : ℕ) (low : List ℕ) → n ≤ 2 ^ length low → step_down n (low ++ x ∷ []) ≡ mul (bit_xor 1 x) (step_down n low)
  pub in_upper_half : (n x : ℕ) (low : List ℕ) → step_down (2 ^ length low + n) (low ++ x ∷ []) ≡ bit_xor (bit_xor 1 x) (mul x (step_down n low))
  -- where each row has a power of 2 of values, the step is that of the rows
  pub rows : (n : ℕ) (low high : List ℕ) → step_down (n * 2 ^ length low) (low ++ high) ≡ step_down n high

-- a value of a shifted column is a sum over a block
pub record AreShifts : Type 0 where
  pub sum : (s : Shift) (b o : ℕ) (c low high : List ℕ) → length low ≡ b → extension (shifted s b o (2 ^ length high * 2 ^ b) c) (low ++ high) ≡ sum_at (shift_sum s b o c low high) [] b
  pub final : (s : Shift) (b o : ℕ) (c low high x : List ℕ) → length x ≡ b → sum_at (shift_sum s b o c low high) x 0 ≡ mul (shift_at s b o low x) (extension c (x ++ high))

-- a shifted column has the level of the column
abbrev pub ShiftsStayInLevel : Type 0
ShiftsStayInLevel = (i : ℕ) (s : Shift) (b o n : ℕ) (c : List ℕ) → AllFit i c → AllFit i (shifted s b o n c)

-- the table of a shift at two points, by a carry along the bits
pub record AreCarries : Type 0 where
  pub up : (b o : ℕ) (ys xs : List ℕ) → shift_at shl b o ys xs ≡ pairs_at b (carried b o 0 0) ys xs
  pub down : (b o : ℕ) (ys xs : List ℕ) → shift_at shr b o ys xs ≡ pairs_at b (carried b o 0 0) xs ys
  pub round : (b o : ℕ) (ys xs : List ℕ) → shift_at rol b o ys xs ≡ bit_xor (pairs_at b (carried b (o % 2 ^ b) 0 0) ys xs) (pairs_at b (carried b (o % 2 ^ b) 0 1) ys xs)
  -- no bit
  pub start : (o c d : ℕ) → pairs_at 0 (carried 0 o c d) [] [] ≡ flag (d == o + c)
  -- one more bit, the lowest
  pub step : (b o c d x y : ℕ) (xs ys : List ℕ) → length xs ≡ b → length ys ≡ b
      → pairs_at (suc b) (carried (suc b) o c d) (y ∷ ys) (x ∷ xs)
      ≡ bit_xor (mul (mul (bit_xor 1 x) (pick ((o % 2 + c) % 2) y)) (pairs_at b (carried b (o / 2) ((o % 2 + c) / 2) d) ys xs))
      (mul (mul x (pick ((1 + o % 2 + c) % 2) y)) (pairs_at b (carried b (o / 2) ((1 + o % 2 + c) / 2) d) ys xs))

-- values worked out by hand: the weights of 4 are 5 and 4, those of 2 are 3 and 2
pub record AreWorked : Type 0 where
  pub shifted_up : shifted shl 2 1 4 (5 ∷ 6 ∷ 7 ∷ 8 ∷ []) ≡ 0 ∷ 5 ∷ 6 ∷ 7 ∷ []
  pub shifted_down : shifted shr 2 1 4 (5 ∷ 6 ∷ 7 ∷ 8 ∷ []) ≡ 6 ∷ 7 ∷ 8 ∷ 0 ∷ []
  pub shifted_round : shifted rol 2 1 4 (5 ∷ 6 ∷ 7 ∷ 8 ∷ []) ≡ 8 ∷ 5 ∷ 6 ∷ 7 ∷ []
  pub in_blocks : shifted shl 1 1 4 (5 ∷ 6 ∷ 7 ∷ 8 ∷ []) ≡ 0 ∷ 5 ∷ 0 ∷ 7 ∷ []
  pub step_is : step_down 1 (4 ∷ []) ≡ 5
  pub shift_is : shift_at rol 1 1 (4 ∷ []) (2 ∷ []) ≡ 6
