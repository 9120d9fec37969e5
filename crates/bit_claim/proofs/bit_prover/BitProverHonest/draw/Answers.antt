use Rattle.std.proofs.Common.{◌≡◌, ◌≤◌, ◌++◌, ◌∷◌, [], Option, Some, subst, sym, vec_capacity, arith}
use Rattle.std.proofs.lemmas.Grind.{common_steps}
use Rattle.sumcheck.specs.Proving.{Proving}
use Rattle.sumcheck.specs.declared.summand.Pair.{Pair}
use Rattle.bit_claim.specs.declared.bit_prover.BitProver.{BitProver}
use Rattle.bit_claim.specs.Batching.{batching_draw}
use Rattle.bit_claim.specs.BatchFollowing.{FollowsSum}
use Rattle.bit_claim.proofs.ProverSteps.{draw_begins, draw_goes_on}
use Rattle.bit_claim.proofs.bit_prover.BitProverHonest.draw.Goals as goal

pub returns-else-is_err : goal.returns-else-is_err
returns-else-is_err c = λ F s h w.
    let p : BitProver = c.args.self.now in
    let pushed : c.push.new.self.items ≡ p.draws.items ++ c.args.c ∷ [] = grind (arith, common_steps) in
    let room : vec_capacity p.draws ≤ vec_capacity c.push.new.self = grind (arith, common_steps) in
    draw_goes_on p (record p { sum = Some c.bind.new.self; draws = c.push.new.self }) c.in-Some.sum c.bind.new.self c.args.c c.bind.ensures pushed room F s
    (subst (λ (o : Option (Proving Pair)). FollowsSum p o F s) c.in-Some.is h) w

pub returns-in-None : goal.returns-in-None
returns-in-None c = λ F s h w.
    let p : BitProver = c.args.self.now in
    let next : BitProver = record p { batched = c.join.new.self } in
    subst (λ (o : Option (Proving Pair)). FollowsSum next o F (batching_draw s c.args.c)) (sym c.in-None.is)
    (draw_begins p next c.args.c (λ i. record p { batched = c.join.ensures i }) F s (subst (λ (o : Option (Proving Pair)). FollowsSum p o F s) c.in-None.is h) w)
