use Rattle.std.proofs.Common.{Option, Some, refl, subst, sym}
use Rattle.sumcheck.specs.Proving.{Proving}
use Rattle.sumcheck.specs.declared.summand.Pair.{Pair}
use Rattle.eval_reduce.specs.declared.merge_prover.MergeProver.{MergeProver}
use Rattle.eval_reduce.specs.Following.{FollowsSum}
use Rattle.eval_reduce.specs.Merge.{merge_draw}
use Rattle.eval_reduce.proofs.ProverSteps.{draw_begins, draw_goes_on}
use Rattle.eval_reduce.proofs.merge_prover.MergeProverHonest.draw.Goals as goal

pub returns-in-Some : goal.returns-in-Some
returns-in-Some c = λ F s h w.
    let p : MergeProver = c.args.self.now in
    draw_goes_on p (record p { sum = Some c.bind.new.self; ending = c.set.new.self }) c.in-Some.sum c.bind.new.self c.args.c c.bind.ensures c.set.ensures F s
    (subst (λ (o : Option (Proving Pair)). FollowsSum p o F s) c.in-Some.is h) w

pub returns-in-None : goal.returns-in-None
returns-in-None c = λ F s h w.
    let p : MergeProver = c.args.self.now in
    let next : MergeProver = record p { mu = Some c.args.c } in
    subst (λ (o : Option (Proving Pair)). FollowsSum next o F (merge_draw s c.args.c)) (sym c.in-None.is)
    (draw_begins p next c.args.c refl F s (subst (λ (o : Option (Proving Pair)). FollowsSum p o F s) c.in-None.is h) w)
