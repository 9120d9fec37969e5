use Rattle.std.proofs.Common.{Option, Some, refl, subst}
use Rattle.sumcheck.specs.Proving.{Proving}
use Rattle.sumcheck.specs.declared.summand.Pair.{Pair}
use Rattle.eval_reduce.specs.declared.shift_prover.ShiftProver.{ShiftProver}
use Rattle.eval_reduce.specs.ShiftProver.{FollowsBlock}
use Rattle.eval_reduce.proofs.ShiftSteps.{draw_goes_on, none_drawn}
use Rattle.eval_reduce.proofs.shift_prover.ShiftProverHonest.draw.Goals as goal

pub unreachable-requires : goal.unreachable-requires
unreachable-requires c =
    let p : ShiftProver = c.args.self.now in
    none_drawn p c.requires.0 c.requires.1 (subst (λ (o : Option (Proving Pair)). FollowsBlock p o c.requires.0 c.requires.1) c.in-None.is c.requires.2) c.requires.3

pub returns : goal.returns
returns c = λ F s h w.
    let p : ShiftProver = c.args.self.now in
    draw_goes_on p (record p { sum = Some c.bind.new.self; ending = c.set.new.self }) c.in-Some.sum c.bind.new.self c.args.c c.bind.ensures refl c.set.ensures F s
    (subst (λ (o : Option (Proving Pair)). FollowsBlock p o F s) c.in-Some.is h) w
