use Rattle.std.proofs.Common.{◌≡◌, drop}
use Rattle.m3_walk.specs.Course.{walked}
use Rattle.m3_verifier.specs.Reading.{reading}
use Rattle.m3_verifier.proofs.ReadingSteps.{Alike}
use Rattle.m3_verifier.proofs.reading.read_through.Given as goal

abbrev pub invariant-loop-number : goal.invariant-loop-number
invariant-loop-number g l = record {
  due : walked (drop l.number l.plan.entries) ≡ g.W.Steps.machine.entries l.reader.state;
  alike : Alike (reading g.W.Steps.machine l.plan.entries 0 l.initial.reader) (reading g.W.Steps.machine (drop l.number l.plan.entries) l.number l.reader);
}
