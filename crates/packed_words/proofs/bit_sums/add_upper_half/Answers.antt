use Rattle.packed_words.proofs.Filling.{more_half_at}
use Rattle.packed_words.proofs.bit_sums.add_upper_half.Goals as goal

pub loop-b-preserved : goal.loop-b-preserved
loop-b-preserved c = more_half_at c.args.first c.args.bit c.loop-b.b c.loop-b.sum c.add-sum.result c.index-buckets-first.result c.index-buckets-first-in-loop-b.result c.add.result c.args.buckets.now c.loop-b.buckets
    c.requires.bit_exists c.loop-b-test.true c.requires.within c.loop-b.invariant c.index-buckets-first.is c.add-sum.ensures c.index-buckets-first-in-loop-b.is c.add.ensures
