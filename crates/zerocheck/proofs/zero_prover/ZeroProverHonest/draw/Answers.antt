use Rattle.std.proofs.Common.{Option, Some, refl, subst, sym}
use Rattle.sumcheck.specs.Proving.{Proving}
use Rattle.zerocheck.specs.Opening.{CanDraw, Opening}
use Rattle.zerocheck.specs.Zero.{Zeroed, zero_draw}
use Rattle.zerocheck.specs.ZeroProver.{FollowsSum}
use Rattle.zerocheck.specs.declared.zero_prover.ZeroProver.{ZeroProver}
use Rattle.zerocheck.proofs.ProverSteps.{draw_facts, draw_goes_on, draw_opens, same_opening}
use Rattle.zerocheck.proofs.zero_prover.ZeroProverHonest.draw.Goals as goal

pub draw-requires : goal.draw-requires
draw-requires c =
    let p : ZeroProver = c.args.self.now in
    let o = c.in-Some-opening.opening in
    let facts = draw_facts p c.requires.0 c.requires.1 (subst (λ (q : Option (Proving Zeroed)). FollowsSum p q c.requires.0 c.requires.1) c.in-None.is c.requires.2) c.requires.3 in
    subst (λ (x : Opening). CanDraw x.stage x.zeroed) (same_opening facts.0 o p.opening facts.1.here c.in-Some-opening.is) facts.1.can

pub returns-in-Some : goal.returns-in-Some
returns-in-Some c = λ F s h w.
    let p : ZeroProver = c.args.self.now in
    draw_goes_on p (record p { sum = Some c.bind.new.self; ending = c.set.new.self }) c.in-Some.sum c.bind.new.self c.args.c c.bind.ensures c.set.ensures F s
    (subst (λ (o : Option (Proving Zeroed)). FollowsSum p o F s) c.in-Some.is h) w

pub returns-in-Some-opening : goal.returns-in-Some-opening
returns-in-Some-opening c = λ F s h w.
    let p : ZeroProver = c.args.self.now in
    let next : ZeroProver = record p { opening = Some c.draw.new.self } in
    subst (λ (q : Option (Proving Zeroed)). FollowsSum next q F (zero_draw s c.args.c)) (sym c.in-None.is)
    (draw_opens p next c.in-Some-opening.opening c.draw.new.self c.args.c c.in-Some-opening.is c.draw.ensures refl F s
    (subst (λ (q : Option (Proving Zeroed)). FollowsSum p q F s) c.in-None.is h) w)
