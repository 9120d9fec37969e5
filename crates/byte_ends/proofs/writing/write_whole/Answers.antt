use Rattle.std.proofs.Common.{arith, length-drop}
use Rattle.std.proofs.lemmas.List.{take_rest}
use Rattle.byte_ends.proofs.ReadSteps.{faults_then}
use Rattle.byte_ends.proofs.WriteSteps.{append_more}
use Rattle.byte_ends.proofs.writing.write_whole.Goals as goal

pub loop-done-preserved : goal.loop-done-preserved
loop-done-preserved g c =
    let held = c.loop-done.invariant in
    let room = c.in-Ok.ensures.taken.at_most in
    record {
      within = omega (arith, length-drop c.loop-done.done c.args.bytes.now, room);
      added = append_more c.args.bytes.now c.loop-done.done c.in-Ok.count held.added (rw take_rest at c.in-Ok.ensures.added) c.in-Ok.ensures.telling;
      faults = faults_then held.faults c.in-Ok.ensures.quiet;
      telling = λ told. held.telling (c.in-Ok.ensures.telling told);
    }
