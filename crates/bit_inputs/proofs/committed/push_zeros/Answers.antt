use Rattle.std.proofs.Common.{refl}
use Rattle.reduction_inputs.proofs.Bits.{tabulated_more}
use Rattle.bit_inputs.proofs.committed.push_zeros.Goals as goal

pub loop-preserved : goal.loop-preserved
loop-preserved c = tabulated_more c.loop.counter 0 (λ _. 0) c.args.table.now.items c.loop.table.items c.push.new.self.items c.loop.invariant c.in_ok-push.ensures.items refl
