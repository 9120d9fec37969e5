use Rattle.std.proofs.Common.{arith}
use Rattle.cube_mle.proofs.Adding.{add_start, add_next, added_end}
use Rattle.cube_mle.proofs.shift.add_bits.Goals as goal

pub loop-k-init : goal.loop-k-init
loop-k-init c = add_start c.args.offset c.args.y.now c.args.x.now c.requires.equal c.requires.within

pub loop-k-preserved : goal.loop-k-preserved
loop-k-preserved c =
    let l = c.loop-k-test.true in
    let e = c.requires.equal in
    add_next c.args.offset c.loop-k.k c.loop-k.rest c.loop-k.carries.without c.loop-k.carries.with c.add_bit-carries.result.without c.add_bit-carries.result.with c.index-x-k.result c.index-y-k.result c.args.y.now c.args.x.now c.index-x-k.is c.index-y-k.is l (omega arith)
    c.add_bit-carries.ensures.at_zero c.add_bit-carries.ensures.at_one c.loop-k.invariant

pub returns-clause-without : goal.returns-clause-without
returns-clause-without c = (added_end c.args.offset c.loop-k.k c.loop-k.rest c.loop-k.carries.without c.loop-k.carries.with c.args.y.now c.args.x.now c.loop-k-test.false c.loop-k.invariant).0

pub returns-clause-with : goal.returns-clause-with
returns-clause-with c = (added_end c.args.offset c.loop-k.k c.loop-k.rest c.loop-k.carries.without c.loop-k.carries.with c.args.y.now c.args.x.now c.loop-k-test.false c.loop-k.invariant).1
