use Rattle.std.proofs.Common.{◌≡◌, ◌%◌, sym, ◌∙◌, arith}
use Rattle.std.proofs.lemmas.Grind.{common_steps}
use Rattle.eval_reduce.proofs.VirtualSteps.{bits_more}
use Rattle.eval_reduce.proofs.project_step.append_bits.Goals.{then-rest-eq0, else-rest-eq0}
use Rattle.eval_reduce.proofs.project_step.append_bits.Goals as goal

pub loop-preserved : goal.loop-preserved
loop-preserved c =
    let bit : c.if-rest-eq0.bit ≡ c.loop.rest % 2 = elim c.if-rest-eq0.branch [
      | then-rest-eq0 w ↦ w.bit-is ∙ sym w.if-rest-eq0.true
      | else-rest-eq0 w ↦ w.bit-is ∙ (let t = w.if-rest-eq0.false in omega arith)
    ] in
    let pushed = c.push.ensures.items in
    record {
      bits = bits_more c.args.log c.loop.counter c.loop.rest c.if-rest-eq0.bit c.loop.point.items c.push.new.self.items _ c.loop-test.true bit (grind (arith, common_steps)) c.loop.invariant.bits;
      long = grind (arith, common_steps);
      capacity = grind (arith, common_steps);
    }
