use Rattle.packed_words.proofs.Filling.{more_powers}
use Rattle.packed_words.proofs.bit_sums.under_powers.Goals as goal

pub loop-u-preserved : goal.loop-u-preserved
loop-u-preserved c = more_powers c.loop-u.u c.loop-u.total c.index-sums-u.result c.element_of.result c.mul.result c.add-total.result c.args.sums.now
    c.loop-u-test.true c.told-sums c.loop-u.invariant c.element_of.ensures c.mul.ensures c.add-total.ensures
