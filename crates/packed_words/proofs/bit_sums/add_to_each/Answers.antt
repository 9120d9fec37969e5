use Rattle.packed_words.proofs.Filling.{more_added}
use Rattle.packed_words.proofs.bit_sums.add_to_each.Goals as goal

pub loop-place-preserved : goal.loop-place-preserved
loop-place-preserved c = more_added c.loop-place.place c.args.element c.args.word c.index-buckets-k.result c.add.result c.args.buckets.now c.loop-place.buckets c.loop-place-test.true c.loop-place.invariant c.index-buckets-k.is c.add.ensures
