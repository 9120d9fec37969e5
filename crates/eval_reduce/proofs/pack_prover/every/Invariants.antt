use Rattle.std.proofs.Common.{◌+◌, ◌-◌, length}
use Rattle.eval_reduce.proofs.VirtualSteps.{Parted}
use Rattle.eval_reduce.proofs.pack_prover.every.Given as goal

abbrev pub invariant-loop-p : goal.invariant-loop-p
invariant-loop-p l = Parted l.values l.size l.index l.p l.part.items

abbrev pub decreases-loop-p : goal.decreases-loop-p
decreases-loop-p l = length l.values + l.size - l.p
