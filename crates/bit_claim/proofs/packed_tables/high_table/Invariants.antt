use Rattle.std.proofs.Common.{◌≡◌, length}
use Rattle.bit_claim.specs.PackedSum.{high_of}
use Rattle.bit_claim.proofs.PackedSteps.{HighLeft}
use Rattle.bit_claim.proofs.packed_tables.high_table.Given as goal

abbrev pub invariant-loop-i : goal.invariant-loop-i
invariant-loop-i l = record {
  long : length l.cells.items ≡ l.count;
  left : HighLeft (high_of l.fn.batch.blocks) l.fn.batch.claims l.finals l.i l.cells.items;
}
