-- Values that satisfy tables satisfy the lowered statement.
use Rattle.std.proofs.Common.{◌≡◌, ℕ, ◌<◌, ◌^◌, ltb, Bool, true, false, List, Some, refl, sym, ap, ◌∙◌}
use Rattle.std.specs.Prelude.{slice_get, slice_index}
use Rattle.std.proofs.lemmas.Bool.{ltb-true}
use Rattle.tower_laws.specs.Tower.{mul}
use Rattle.tower_laws.proofs.Rules.{times_zero, zero_times}
use Rattle.shift_laws.specs.Shifts.{flag}
use Rattle.multiset_laws.proofs.Leaves.{balanced_products}
use Rattle.table_text.specs.declared.decl.Side.TheVariants.{Push, Pull}
use Rattle.table_shape.specs.declared.shape.ConstraintShape.{ConstraintShape}
use Rattle.table_shape.specs.Channels.{tuples}
use Rattle.table_shape.specs.Filling.{Filling, IsFilling}
use Rattle.table_shape.specs.Fits.{ShapeFits}
use Rattle.table_shape.specs.Lowering.{IsZeroThroughout, LoweredHolds, step}
use Rattle.table_shape.specs.Parts.{ShapeParts}
use Rattle.table_shape.specs.Satisfies.{IsZeroOnRows, Satisfies, value_at}
use Rattle.oracle_lowering.proofs.Flushed.{has_bits, side_is}

zero_here : (b : Bool) (v : ℕ) → (b ≡ true → v ≡ 0) → mul (flag b) v ≡ 0
zero_here true v h = ap (mul 1) (h refl) ∙ sym (times_zero 1)
zero_here false v h = sym (zero_times v)

-- a constraint that is 0 on the first rows is 0 throughout, times the step
pub zero_throughout : (filling : Filling) (t : ℕ) (constraint : ConstraintShape) (m : ℕ) → IsZeroOnRows filling t constraint m → IsZeroThroughout filling t constraint m
zero_throughout filling t constraint m h row index within own =
    zero_here (ltb row m) (value_at filling t constraint row index) (λ e. h row index (ltb-true row m e) own)

pub satisfied : (shape : ShapeParts) (rows : List ℕ) (filling : Filling) → ShapeFits shape → IsFilling shape.tables rows filling → Satisfies shape rows filling → (a g : ℕ) → LoweredHolds shape rows filling a g
satisfied shape rows filling fits fills holds a g =
    let bits = has_bits shape rows filling fits fills in
    record {
      zero = λ t table z constraint at own. zero_throughout filling t constraint (slice_index rows t) (holds.zero t table z constraint at own);
      products = λ channel c at.
          side_is Push shape rows filling a g channel bits
          ∙ balanced_products (tuples Push shape rows filling channel) (tuples Pull shape rows filling channel) (holds.balanced channel c at) a g
          ∙ sym (side_is Pull shape rows filling a g channel bits);
    }
