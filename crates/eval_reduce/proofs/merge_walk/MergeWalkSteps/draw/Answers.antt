use Rattle.std.proofs.Common.{◌∙◌, ap, subst, sym}
use Rattle.sumcheck.specs.Rounds.{DrawIsDue}
use Rattle.eval_reduce.specs.declared.merge_walk.MergeWalk.TheInside.{Inside}
use Rattle.eval_reduce.proofs.Steps.{bind_due}
use Rattle.eval_reduce.proofs.merge_walk.MergeWalkSteps.draw.Goals as goal

pub bind-requires : goal.bind-requires
bind-requires c =
    let v = c.self-inside.view_is in
    subst DrawIsDue (sym (ap (λ (w : Inside). w.rounds) v)) (bind_due _ _ _ _ _ _ c.self.view_is (sym (ap (λ (w : Inside). w.stage) v) ∙ c.in-Adding.is) c.requires)
