use Rattle.std.proofs.Common.{arith}
use Rattle.bit_inputs.proofs.Equal.{all_taken}
use Rattle.bit_inputs.proofs.packed.are_equal.Goals as goal

pub returns : goal.returns
returns c t = all_taken c.loop-i.i c.args.xs.now c.args.ys.now (let e = c.loop-i-test.false in omega (arith, e)) c.loop-i.invariant.lengths c.loop-i.invariant.same
