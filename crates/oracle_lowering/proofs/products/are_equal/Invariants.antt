use Rattle.std.proofs.Common.{◌≡◌, ◌<◌, ℕ}
use Rattle.std.specs.Prelude.{slice_get, Some}
use Rattle.oracle_lowering.specs.declared.products.Pair.{Pair}
use Rattle.oracle_lowering.proofs.products.are_equal.Given as goal

abbrev pub invariant-loop-pair : goal.invariant-loop-pair
invariant-loop-pair l = (channel : ℕ) (pair : Pair) → channel < l.pair-index → slice_get l.pairs channel ≡ Some pair → pair.push ≡ pair.pull
