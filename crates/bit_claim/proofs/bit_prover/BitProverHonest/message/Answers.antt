use Rattle.std.proofs.Common.{ap, Option, Some, refl, subst, sym}
use Rattle.sumcheck.specs.Proving.{Proving}
use Rattle.sumcheck.specs.declared.summand.Pair.{Pair}
use Rattle.bit_claim.specs.declared.bit_prover.BitProver.{BitProver}
use Rattle.bit_claim.specs.Batching.{batching_honest, batching_message}
use Rattle.bit_claim.specs.BatchFollowing.{FollowsSum}
use Rattle.bit_claim.proofs.ProverSteps.{kept, message_follows, message_values}
use Rattle.bit_claim.proofs.bit_prover.BitProverHonest.message.Goals as goal

pub returns-in-Some-told-clause-values : goal.returns-in-Some-told-clause-values
returns-in-Some-told-clause-values c = λ F s h w.
    let p : BitProver = c.start.new.self in
    message_values p c.in-Some.sum c.in-Ok-give.told c.args.out.now.items c.give.new.out.items c.in-Ok-give.ensures.given F s
    (subst (λ (o : Option (Proving Pair)). FollowsSum p o F s) c.in-Some.is (c.in-Ok.ensures.follows F s h w)) w

pub returns-in-Some-told-clause-state : goal.returns-in-Some-told-clause-state
returns-in-Some-told-clause-state c = λ F s h w.
    let p : BitProver = c.start.new.self in
    let next : BitProver = record p { sum = Some c.give.new.sum; value = c.in-Some-told.value } in
    subst (λ (q : Proving Pair). FollowsSum next (Some q) F (batching_message s (batching_honest F s))) (sym c.give.ensures.kept)
    (message_follows p next c.in-Some.sum c.in-Ok-give.told c.args.out.now.items c.give.new.out.items c.in-Ok-give.ensures.given refl (sym (ap (λ o. kept o p.value) c.in-Some-told.is)) F s
    (subst (λ (o : Option (Proving Pair)). FollowsSum p o F s) c.in-Some.is (c.in-Ok.ensures.follows F s h w)) w)

pub returns-in_default-told-clause-values : goal.returns-in_default-told-clause-values
returns-in_default-told-clause-values c = λ F s h w.
    let p : BitProver = c.start.new.self in
    message_values p c.in-Some.sum c.in-Ok-give.told c.args.out.now.items c.give.new.out.items c.in-Ok-give.ensures.given F s
    (subst (λ (o : Option (Proving Pair)). FollowsSum p o F s) c.in-Some.is (c.in-Ok.ensures.follows F s h w)) w
