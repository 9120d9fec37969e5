use Rattle.std.proofs.Common.{◌≡◌, ◌+◌, length}
use Rattle.sumcheck.specs.Machine.{Filling}
use Rattle.walk_example.specs.Meeting.{IsTrueOf}
use Rattle.walk_example.proofs.meeting.meet.Given as goal

abbrev pub invariant-loop-k : goal.invariant-loop-k
invariant-loop-k g l = record {
  follows : (F : Filling) × g.P.Honest.follows l.prover F l.walk;
  follow : (F : Filling) → g.P.Honest.follows l.fn.prover F l.fn.walk → g.P.Honest.follows l.prover F l.walk;
  count : length (g.P.Walk.Steps.machine.entries l.fn.walk) ≡ l.k + length (g.P.Walk.Steps.machine.entries l.walk);
  true_so_far : (F : Filling) → g.P.Honest.follows l.fn.prover F l.fn.walk → IsTrueOf g.P.Walk.Steps.machine F l.fn.walk → g.P.Honest.follows l.prover F l.walk × IsTrueOf g.P.Walk.Steps.machine F l.walk;
}
