use Rattle.std.proofs.Common.{◌≡◌, ◌∙◌, Option, Some, None, refl, subst, sym}
use Rattle.sumcheck.specs.Proving.{Proving}
use Rattle.zerocheck.specs.Zero.{Zeroed}
use Rattle.zerocheck.specs.ZeroProver.{FollowsSum}
use Rattle.zerocheck.specs.declared.zero_prover.ZeroProver.{ZeroProver}
use Rattle.zerocheck.proofs.ProverSteps.{not_some, start_follows}
use Rattle.zerocheck.proofs.zero_prover.ZeroProver.start.Goals as goal

pub returns-clause-follows : goal.returns-clause-follows
returns-clause-follows c = λ F s h w.
    let p : ZeroProver = c.args.self.now in
    let none : p.sum ≡ None = not_some p.sum c.is_some.result c.is_some.ensures c.if-is_some.false in
    start_follows p (record p { opening = c.take.new.self; sum = Some c.in_ok-into_sum.field-0 }) c.in-Some.opening c.in_ok-into_sum.field-0 (sym c.take.ensures.value ∙ c.in-Some.is) refl c.in_ok-into_sum.ensures F s
    (subst (λ (q : Option (Proving Zeroed)). FollowsSum p q F s) none h) w
