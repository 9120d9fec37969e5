use Rattle.std.proofs.Common.{◌≡◌, ◌∙◌, ◌++◌, map, ap}
use Rattle.cube_laws.specs.Extension.{extension}
use Rattle.eval_reduce.specs.Linear.{term_claims}
use Rattle.eval_reduce.specs.declared.linear_prover.LinearProver.{LinearProver}
use Rattle.eval_reduce.proofs.LinearSteps.{message_follows}
use Rattle.eval_reduce.proofs.linear_prover.LinearProver.message.Goals as goal

pub returns-clause-state : goal.returns-clause-state
returns-clause-state c = λ F s h w.
    let p : LinearProver = c.args.self.now in
    let own = c.in-Some.claim in
    let values : c.as_slice-4.result.now ≡ map (λ l. extension l own.point) p.lists.items = c.as_slice-4.ensures.value ∙ c.in_ok-append_extensions.ensures ∙ (λ i. c.new-values.ensures.items i ++ map (λ l. extension l (c.as_slice-2.ensures i)) (c.as_slice.ensures.value i)) in
    message_follows p (record p { points = c.tell.new.points; claims = c.tell.new.claims }) own c.in-Some.is (c.tell.ensures.claims ∙ ap (λ v. p.claims.items ++ term_claims own p.combination.terms v) values) F s h w
