use Rattle.std.proofs.Common.{Option, subst, sym}
use Rattle.sumcheck.specs.Proving.{Proving}
use Rattle.sumcheck.specs.declared.summand.Pair.{Pair}
use Rattle.eval_reduce.specs.declared.merge_prover.MergeProver.{MergeProver}
use Rattle.eval_reduce.specs.Following.{FollowsSum}
use Rattle.eval_reduce.specs.Merge.{merge_honest, merge_message}
use Rattle.eval_reduce.proofs.ProverSteps.{message_follows, message_values}
use Rattle.eval_reduce.proofs.merge_prover.MergeProverHonest.message.Goals as goal

pub returns-clause-values : goal.returns-clause-values
returns-clause-values c = λ F s h w.
    let p : MergeProver = c.start.new.self in
    message_values p (record p { ending = c.give.new.ending }) c.in-Some.sum c.args.out.now.items c.give.new.out.items c.in_ok-give.ensures F s
    (subst (λ (o : Option (Proving Pair)). FollowsSum p o F s) c.in-Some.is (c.in-Ok.ensures.follows F s h w)) w

pub returns-clause-state : goal.returns-clause-state
returns-clause-state c = λ F s h w.
    let p : MergeProver = c.start.new.self in
    let next : MergeProver = record p { ending = c.give.new.ending } in
    subst (λ (o : Option (Proving Pair)). FollowsSum next o F (merge_message s (merge_honest F s))) (sym c.in-Some.is)
    (message_follows p next c.in-Some.sum c.args.out.now.items c.give.new.out.items c.in_ok-give.ensures F s
    (subst (λ (o : Option (Proving Pair)). FollowsSum p o F s) c.in-Some.is (c.in-Ok.ensures.follows F s h w)) w)
