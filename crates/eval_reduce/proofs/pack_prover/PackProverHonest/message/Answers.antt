use Rattle.std.proofs.Common.{◌≡◌, ◌∙◌, ◌++◌, refl, subst}
use Rattle.eval_reduce.specs.Pack.{corner_values}
use Rattle.eval_reduce.specs.declared.pack_prover.PackProver.{PackProver}
use Rattle.eval_reduce.proofs.PackSteps.{TellsWhenSet, message_follows}
use Rattle.eval_reduce.proofs.pack_prover.PackProverHonest.message.Goals as goal

pub returns-clause-state : goal.returns-clause-state
returns-clause-state c = λ F s h w.
    let p : PackProver = c.args.self.now in
    let values = c.append_corners.new.out in
    let corners : values.items ≡ corner_values p.source.items p.packing.log p.point.items = c.in-Ok.ensures ∙ (λ i. c.new-values.ensures.items i ++ corner_values (c.as_slice.ensures.value i) p.packing.log (c.as_slice-2.ensures.value i)) in
    message_follows p (record p { values = values; ending = c.tell_when_set.new.ending }) values.items corners refl refl
    (subst (λ z. TellsWhenSet p.ending c.tell_when_set.new.ending z values.items) c.as_slice-4.ensures.value
    (subst (TellsWhenSet p.ending c.tell_when_set.new.ending c.as_slice-4.result.now) c.as_slice-5.ensures.value (record { told = c.tell_when_set.ensures.told; kept = c.tell_when_set.ensures.kept })))
    F s h w
