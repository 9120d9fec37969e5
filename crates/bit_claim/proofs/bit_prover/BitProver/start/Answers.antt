use Rattle.std.proofs.Common.{◌≡◌, ◌^◌, ◌∙◌, Option, Some, None, refl, subst, sym}
use Rattle.cube_laws.specs.SumClaim.{AllLong}
use Rattle.sumcheck.specs.Proving.{Proving}
use Rattle.sumcheck.specs.declared.summand.Pair.{Pair}
use Rattle.table_shape.specs.Placement.{places_log}
use Rattle.bit_claim.specs.declared.bit_prover.BitProver.{BitProver}
use Rattle.bit_claim.specs.BatchFollowing.{FollowsSum}
use Rattle.bit_claim.specs.BatchSum.{begun}
use Rattle.bit_claim.specs.Batching.{Batched}
use Rattle.bit_claim.proofs.ProverSteps.{none_of, start_follows}
use Rattle.bit_claim.proofs.bit_prover.BitProver.start.Goals as goal

pub returns-clause-follows : goal.returns-clause-follows
returns-clause-follows c = λ F s h w.
    let p : BitProver = c.args.self.now in
    let none : p.sum ≡ None = none_of p.sum (sym c.is_some.ensures ∙ c.if-is_some.false) in
    let batch = c.replace-batched.ensures.value in
    start_follows p (record p { batched = c.replace-batched.new.dest; bits = c.replace-bits.new.dest; sum = Some c.in_ok-sum.sum }) c.in_ok-sum.sum refl
    (c.in_ok-sum.ensures.sum ∙ (λ j. begun (batch j) (c.replace-bits.ensures.value j)))
    (subst (λ (b : Batched). AllLong (2 ^ places_log b.blocks) c.in_ok-sum.sum.lists) batch c.in_ok-sum.ensures.long) F s
    (subst (λ (o : Option (Proving Pair)). FollowsSum p o F s) none h) w
