use Rattle.std.proofs.Common.{◌≡◌, ℕ, length}
use Rattle.std.specs.Prelude.{slice_get, Some}
use Rattle.table_text.specs.declared.decl.Side.TheVariants.{Push, Pull}
use Rattle.table_shape.specs.Lowering.{side_product}
use Rattle.oracle_lowering.specs.declared.products.Pair.{Pair}
use Rattle.oracle_lowering.proofs.products.pairs_at.Given as goal

abbrev pub invariant-loop-channel : goal.invariant-loop-channel
invariant-loop-channel l = record {
  count : length l.pairs ≡ l.channel;
  push : (channel : ℕ) (pair : Pair) → slice_get l.pairs channel ≡ Some pair → pair.push ≡ side_product Push l.store.shape l.store.rows l.store.filling l.alpha l.gamma channel;
  pull : (channel : ℕ) (pair : Pair) → slice_get l.pairs channel ≡ Some pair → pair.pull ≡ side_product Pull l.store.shape l.store.rows l.store.filling l.alpha l.gamma channel;
}
