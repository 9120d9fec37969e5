use Rattle.std.proofs.Common.{Option, Some, ◌+◌, refl, ap, subst, sym}
use Rattle.sumcheck.specs.Proving.{Proving}
use Rattle.sumcheck.specs.declared.summand.Pair.{Pair}
use Rattle.ring_switch.specs.Switching.{Switched, switching_draw}
use Rattle.ring_switch.specs.SwitchProver.{FollowsSum}
use Rattle.ring_switch.specs.declared.switch_prover.SwitchProver.{SwitchProver}
use Rattle.ring_switch.proofs.ProverSteps.{draw_goes_on, draw_sets_one, not_all_drawn}
use Rattle.ring_switch.proofs.switch_prover.SwitchProverHonest.draw.Goals as goal

pub set-requires-in-None : goal.set-requires-in-None
set-requires-in-None c =
    not_all_drawn c.args.self.now c.requires.0 c.requires.1 (subst (λ (q : Option (Proving Pair)). FollowsSum c.args.self.now q c.requires.0 c.requires.1) c.in-None.is c.requires.2) c.requires.3

pub returns-in-Some : goal.returns-in-Some
returns-in-Some c = λ F s h w.
    let p : SwitchProver = c.args.self.now in
    let next : SwitchProver = record p { sum = Some c.bind.new.self; ending = c.set.new.self } in
    draw_goes_on p next c.in-Some.sum c.bind.new.self c.args.c c.bind.ensures c.set.ensures refl F s
    (subst (λ (o : Option (Proving Pair)). FollowsSum p o F s) c.in-Some.is h) w

pub returns-in-None : goal.returns-in-None
returns-in-None c = λ F s h w.
    let p : SwitchProver = c.args.self.now in
    let next : SwitchProver = record p { switched = c.set-in-None.new.self; drawn = p.drawn + 1 } in
    subst (λ (q : Option (Proving Pair)). FollowsSum next q F (switching_draw s c.args.c)) (sym c.in-None.is)
    (draw_sets_one p next c.args.c (ap (λ (t : Switched). record p { switched = t; drawn = p.drawn + 1 }) c.set-in-None.ensures) F s
    (subst (λ (q : Option (Proving Pair)). FollowsSum p q F s) c.in-None.is h) w)
