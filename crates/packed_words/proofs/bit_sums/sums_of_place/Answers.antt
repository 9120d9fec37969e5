use Rattle.std.proofs.Common.{arith}
use Rattle.packed_words.proofs.Filling.{more_summed, place_fits}
use Rattle.packed_words.proofs.bit_sums.sums_of_place.Goals as goal

pub add_upper_half-requires-clause-within : goal.add_upper_half-requires-clause-within
add_upper_half-requires-clause-within c = let f = place_fits c.args.place c.loop-step.step c.requires.place_exists in let l = c.loop-step.invariant.long in omega arith

pub loop-step-preserved : goal.loop-step-preserved
loop-step-preserved c = more_summed c.args.place c.loop-step.step c.add_upper_half.result c.loop-step.sums c.args.buckets.now c.loop-step.buckets c.add_upper_half.new.buckets
    c.loop-step-test.true c.add_upper_half.auto.buckets c.add_upper_half.ensures.sum c.add_upper_half.ensures.added c.add_upper_half.ensures.after c.loop-step.invariant

pub returns-clause-sums : goal.returns-clause-sums
returns-clause-sums c k l = c.loop-step.invariant.made k (omega arith) l
