use Rattle.std.proofs.Common.{◌≡◌, ◌∙◌, Option, Some, drop, ap, subst, sym}
use Rattle.sumcheck.specs.Proving.{Proving}
use Rattle.sumcheck.specs.declared.summand.Pair.{Pair}
use Rattle.eval_reduce.specs.declared.shift_prover.ShiftProver.{ShiftProver}
use Rattle.eval_reduce.specs.Shift.{shift_honest, shift_message}
use Rattle.eval_reduce.specs.ShiftProver.{FollowsBlock}
use Rattle.eval_reduce.proofs.ShiftSteps.{message_follows, message_values}
use Rattle.eval_reduce.proofs.shift_prover.ShiftProverHonest.message.Goals as goal

pub returns-clause-values : goal.returns-clause-values
returns-clause-values c = λ F s h w.
    let p : ShiftProver = c.start.new.self in
    message_values p (record p { ending = c.give.new.ending }) c.in-Some.sum _ c.args.out.now.items c.give.new.out.items (c.split_at.ensures.back ∙ ap (drop c.start.new.self.shifting.block) c.deref.ensures.value) c.in_ok-give.ensures F s
    (subst (λ (o : Option (Proving Pair)). FollowsBlock p o F s) c.in-Some.is (c.in-Ok.ensures.follows F s h w)) w

pub returns-clause-state : goal.returns-clause-state
returns-clause-state c = λ F s h w.
    let p : ShiftProver = c.start.new.self in
    let next : ShiftProver = record p { ending = c.give.new.ending } in
    let same : next ≡ record p { sum = Some c.in-Some.sum; ending = c.give.new.ending } = ap (λ (o : Option (Proving Pair)). record p { sum = o; ending = c.give.new.ending }) c.in-Some.is in
    subst (λ (o : Option (Proving Pair)). FollowsBlock next o F (shift_message s (shift_honest F s))) (sym c.in-Some.is)
    (message_follows p next c.in-Some.sum _ c.args.out.now.items c.give.new.out.items (c.split_at.ensures.back ∙ ap (drop c.start.new.self.shifting.block) c.deref.ensures.value) same c.in_ok-give.ensures F s
    (subst (λ (o : Option (Proving Pair)). FollowsBlock p o F s) c.in-Some.is (c.in-Ok.ensures.follows F s h w)) w)
