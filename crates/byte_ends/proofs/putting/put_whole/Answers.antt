use Rattle.std.proofs.Common.{arith, ◌∙◌, length-drop}
use Rattle.std.proofs.lemmas.List.{take_rest}
use Rattle.byte_ends.proofs.PutSteps.{put_more}
use Rattle.byte_ends.proofs.putting.put_whole.Goals as goal

pub loop-done-preserved : goal.loop-done-preserved
loop-done-preserved g c =
    let before = g.W.Sink.state c.args.sink.now in
    let middle = g.W.Sink.state c.loop-done.sink in
    let after = g.W.Sink.state c.put.new.self in
    let held = c.loop-done.invariant in
    let room = c.in-Ok.ensures.taken.at_most in
    record {
      within = omega (arith, length-drop c.loop-done.done c.args.bytes.now, room);
      put = put_more before middle after c.args.bytes.now c.loop-done.done c.in-Ok.count held.telling held.put (rw take_rest at c.in-Ok.ensures.added);
      quiet = c.in-Ok.ensures.quiet ∙ held.quiet;
      telling = c.in-Ok.ensures.telling ∙ held.telling;
    }
