use Rattle.cube_laws.specs.Extension.{bit}
use Rattle.reduction_inputs.proofs.Bits.{tabulated_more}
use Rattle.reduction_inputs.proofs.given.push_value.Goals as goal

pub loop-u-preserved : goal.loop-u-preserved
loop-u-preserved c = tabulated_more c.loop-u.u c.element.result (bit c.args.value) c.args.bits.now.items c.loop-u.bits.items c.push.new.self.items c.loop-u.invariant c.in_ok-push.ensures.items (cc)
