-- Columns shifted within blocks, and positions below a number.
-- Source: docs/LAWS.md, "shift_laws: shifts within blocks and steps".
use Rattle.std.specs.Prelude.{ℕ, ◌+◌, ◌-◌, ◌*◌, ◌%◌, ◌^◌, leb, ltb, ◌==◌, Bool, cond, List, ◌++◌, length, get_or, bit_xor}
use Rattle.cube_laws.specs.Sums.{tabulate}
use Rattle.batch_laws.specs.Batch.{pair_sum}
use Rattle.cube_laws.specs.Extension.{extension, bits_of}
use Rattle.cube_laws.specs.SumClaim.{Sum}

-- a test as a number
abbrev pub flag : Bool → ℕ
flag b = cond b 1 0

-- ---- positions below n
-- the extension of the table that is 1 at the positions below n, and 0 at the others
abbrev pub step_down : ℕ → List ℕ → ℕ
step_down n z = extension (tabulate (2 ^ length z) (λ p. flag (ltb p n))) z

-- ---- shifts within blocks of 2 ^ b values
-- up by o, down by o, and round by o
pub data Shift : Type 0 where
  shl : Shift
  shr : Shift
  rol : Shift

-- the value at x of a shifted column, which is 0 where it comes from outside the block
abbrev pub shifted_value : Shift → ℕ → ℕ → List ℕ → ℕ → ℕ
shifted_value shl b o c x = cond (leb o (x % 2 ^ b)) (get_or c (x - o) 0) 0
shifted_value shr b o c x = cond (ltb (x % 2 ^ b + o) (2 ^ b)) (get_or c (x + o) 0) 0
shifted_value rol b o c x = get_or c (x - x % 2 ^ b + (x % 2 ^ b + (2 ^ b - o % 2 ^ b)) % 2 ^ b) 0

-- n values of a shifted column
abbrev pub shifted : Shift → ℕ → ℕ → ℕ → List ℕ → List ℕ
shifted s b o n c = tabulate n (shifted_value s b o c)

-- within a block the value at p goes to q
abbrev pub goes : Shift → ℕ → ℕ → ℕ → ℕ → Bool
goes shl b o q p = q == p + o
goes shr b o q p = q + o == p
goes rol b o q p = q == (p + o) % 2 ^ b

-- the extension of a table of two positions of b bits, at ys for the first and xs for the second
abbrev pub pairs_at : ℕ → (ℕ → ℕ → ℕ) → List ℕ → List ℕ → ℕ
pairs_at b f ys xs = extension (tabulate (2 ^ b) (λ q. extension (tabulate (2 ^ b) (f q)) xs)) ys

-- the extension of the table that is 1 where the value at xs goes to ys
abbrev pub shift_at : Shift → ℕ → ℕ → List ℕ → List ℕ → ℕ
shift_at s b o ys xs = pairs_at b (λ q p. flag (goes s b o q p)) ys xs

-- the sum for a value of a shifted column at (low, high), over the positions of a block
abbrev pub shift_sum : Shift → ℕ → ℕ → List ℕ → List ℕ → List ℕ → Sum
shift_sum s b o c low high =
    pair_sum (tabulate (2 ^ b) (λ p. extension (tabulate (2 ^ b) (λ q. flag (goes s b o q p))) low)) (tabulate (2 ^ b) (λ p. extension c (bits_of b p ++ high)))

-- ---- by a carry along the bits
-- 1 where p, o and a carry c add up to q, with a carry d out of b bits
abbrev pub carried : ℕ → ℕ → ℕ → ℕ → ℕ → ℕ → ℕ
carried b o c d q p = flag (q + d * 2 ^ b == p + o + c)

-- the coordinate of a bit: y at 1 and 1 + y at 0
abbrev pub pick : ℕ → ℕ → ℕ
pick s y = cond (s == 1) y (bit_xor 1 y)
