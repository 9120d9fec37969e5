use Rattle.std.proofs.Common.{◌∙◌, ap, subst, sym}
use Rattle.eval_reduce.specs.Room.{Space}
use Rattle.eval_reduce.specs.Merge.{Merge, Takes, state_claims}
use Rattle.eval_reduce.proofs.Steps.{stage_same, states_same, takes_same}
use Rattle.eval_reduce.proofs.merge_walk.MergeWalk.enter.Goals as goal

pub invariant_of-self : goal.invariant_of-self
invariant_of-self c =
    let w = c.self.inside in
    stage_same w.stage w.joined w.rounds w.closed w.room c.fill-copies.new.self (ap (λ (m : Space). m.vars) c.fill-copies.ensures.none) c.self.invariant

pub enter_owned-requires : goal.enter_owned-requires
enter_owned-requires c =
    let w = c.self.inside in
    let h = c.requires.claims in (
      h.0,
      h.1,
      takes_same w.stage w.joined w.rounds w.closed w.room c.fill-copies.new.self h.0 h.1 c.args.claims.now c.fill-copies.result.items c.fill-copies.ensures.copies
          (subst (λ (m : Merge). Takes h.0 h.1 c.args.claims.now m) (sym c.self.view_is) h.2),
    )

pub returns : goal.returns
returns c = λ t k h.
    let w = c.self.inside in
    let g = subst (λ (m : Merge). Takes t k c.args.claims.now m) (sym c.self.view_is) h in
    c.enter_owned.ensures t k (takes_same w.stage w.joined w.rounds w.closed w.room c.fill-copies.new.self t k c.args.claims.now c.fill-copies.result.items c.fill-copies.ensures.copies g)
    ∙ states_same w.stage w.joined w.rounds w.closed w.room c.fill-copies.new.self t k c.args.claims.now c.fill-copies.result.items c.fill-copies.ensures.copies g
    ∙ ap (state_claims t k c.args.claims.now) c.self.view_is
