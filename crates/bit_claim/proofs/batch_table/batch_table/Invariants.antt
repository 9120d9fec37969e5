use Rattle.std.proofs.Common.{◌≡◌, ◌^◌, length}
use Rattle.table_shape.specs.Placement.{places_log}
use Rattle.bit_claim.proofs.TablePlaces.{BatchLeft}
use Rattle.bit_claim.proofs.batch_table.batch_table.Given as goal

abbrev pub invariant-loop-i : goal.invariant-loop-i
invariant-loop-i l = record {
  long : length l.cells.items ≡ 2 ^ places_log l.fn.batch.blocks;
  left : BatchLeft l.fn.batch.blocks l.fn.batch.claims l.fn.batch.lambda l.i l.factor l.cells.items;
}
