use Rattle.std.proofs.Common.{arith, rules}
use Rattle.additive_transform.proofs.Butterflies.{mixed_none, mixed_more, mixed_low, mixed_high}
use Rattle.additive_transform.proofs.encode.butterflies.Goals as goal

pub loop-i-init : goal.loop-i-init
loop-i-init c = mixed_none c.args.point c.args.low.now c.args.high.now c.requires

pub loop-i-preserved : goal.loop-i-preserved
loop-i-preserved c = mixed_more c.args.point c.loop-i.i _ _ c.loop-i.low c.loop-i.high c.index-low-i.result c.index-high-i.result c.add-sum.result c.add.result (search rules) c.loop-i.invariant (search rules) (search rules) (search rules) (search rules)

pub returns-clause-low : goal.returns-clause-low
returns-clause-low c = mixed_low c.args.point c.loop-i.i _ _ c.loop-i.low c.loop-i.high (omega (arith, c.loop-i.invariant.low_length)) c.loop-i.invariant

pub returns-clause-high : goal.returns-clause-high
returns-clause-high c = mixed_high c.args.point c.loop-i.i _ _ c.loop-i.low c.loop-i.high (omega (arith, c.loop-i.invariant.low_length)) c.loop-i.invariant
