-- How values move within blocks, by the program's kinds.
-- Source: docs/LAWS.md, "shift_laws: shifts within blocks and steps".
use Rattle.std.specs.Prelude.{◌≡◌, ℕ, bit_xor}
use Rattle.tower_laws.specs.Tower.{mul}
use Rattle.shift_laws.specs.Shifts.{Shift, shl, shr, rol}
use Rattle.cube_mle.specs.declared.shift.ShiftKind.{ShiftKind}
use Rattle.cube_mle.specs.declared.shift.ShiftKind.TheVariants as kind

abbrev pub shift_of : ShiftKind → Shift
shift_of kind.Shl = shl
shift_of kind.Shr = shr
shift_of kind.Rol = rol

-- one more bit of a sum, at which the offset has 0: old and new weights without a carry and with one
pub record HasAddedZero (y x without carry new_without new_carry : ℕ) : Type 0 where
  pub without_is : new_without ≡ bit_xor (mul (bit_xor (bit_xor 1 x) y) without) (mul (mul (bit_xor 1 x) y) carry)
  pub with_is : new_carry ≡ mul (mul x (bit_xor 1 y)) carry

-- and at which it has 1
pub record HasAddedOne (y x without carry new_without new_carry : ℕ) : Type 0 where
  pub without_is : new_without ≡ mul (mul (bit_xor 1 x) y) without
  pub with_is : new_carry ≡ bit_xor (mul (mul x (bit_xor 1 y)) without) (mul (bit_xor (bit_xor 1 x) y) carry)
