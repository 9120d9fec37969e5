use Rattle.std.proofs.Common.{arith}
use Rattle.packed_words.proofs.InPlace.{none_scaled, more_scaled, all_scaled}
use Rattle.packed_words.proofs.multiples.Multiples.scale.Goals as goal

pub loop-i-init : goal.loop-i-init
loop-i-init c = none_scaled c.args.self.now c.args.values.now

pub loop-i-preserved : goal.loop-i-preserved
loop-i-preserved c = more_scaled c.args.self.now c.loop-i.i c.args.values.now c.loop-i.values c.index-values-i.result c.times.result (omega arith) c.loop-i.invariant c.index-values-i.is c.times.ensures

pub returns : goal.returns
returns c = all_scaled c.args.self.now c.loop-i.i c.args.values.now c.loop-i.values (omega arith) c.loop-i.invariant
