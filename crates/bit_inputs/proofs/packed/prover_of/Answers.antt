use Rattle.std.proofs.Common.{◌^◌, sym}
use Rattle.table_shape.specs.Placement.{places_log}
use Rattle.bit_claim.proofs.SumSteps.{words_whole}
use Rattle.bit_inputs.proofs.packed.prover_of.Goals as goal

pub begin_packed-requires : goal.begin_packed-requires
begin_packed-requires c = record {
  whole = words_whole (2 ^ places_log c.args.placement.now) c.as_slice.result.now c.args.table.now (sym (rw (sym c.as_slice.ensures.value) at c.in_ok-words.ensures)) c.requires.whole;
}
