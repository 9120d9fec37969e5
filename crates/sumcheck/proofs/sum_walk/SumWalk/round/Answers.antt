use Rattle.std.proofs.Common.{◌∙◌, ap, subst, sym}
use Rattle.sumcheck.specs.Rounds.{rounds_message, rounds_refusal, RoundsHold}
use Rattle.sumcheck.specs.SumWalk.{Walking}
use Rattle.sumcheck.proofs.Promise.{round_sound}
use Rattle.sumcheck.proofs.sum_walk.SumWalk.round.Goals as goal

pub returns-clause-sound : goal.returns-clause-sound
returns-clause-sound c = λ s f wrong h.
    let v = c.args.values.now in
    let e = ap (λ (w : Walking). w.rounds) c.self.view_is in
    let p = ap (λ r. rounds_refusal r v) (sym e) ∙ c.in_default-round.ensures.answer in
    let n = c.in_default-round.ensures.state ∙ ap (λ r. rounds_message r v) e in
    wrong (round_sound c.args.self.now.rounds v c.requires p s f (subst (RoundsHold s) n h))
