use Rattle.std.proofs.Common.{refl, subst}
use Rattle.eval_reduce.specs.declared.pack_prover.PackProver.{PackProver}
use Rattle.eval_reduce.proofs.PackSteps.{TellsWhenSet, draw_follows, fold_facts}
use Rattle.eval_reduce.proofs.pack_prover.PackProverHonest.draw.Goals as goal

pub fold_low-requires-clause-some : goal.fold_low-requires-clause-some
fold_low-requires-clause-some c = (fold_facts c.args.self.now c.requires.0 c.requires.1 c.requires.2 c.requires.3).some

pub fold_low-requires-clause-even : goal.fold_low-requires-clause-even
fold_low-requires-clause-even c = (fold_facts c.args.self.now c.requires.0 c.requires.1 c.requires.2 c.requires.3).even

pub returns : goal.returns
returns c = λ F s h w.
    let p : PackProver = c.args.self.now in
    draw_follows p (record p { values = c.fold_low.new.table; ending = c.tell_when_set.new.ending }) c.set.new.self c.args.c c.set.ensures refl c.fold_low.ensures
    (subst (λ z. TellsWhenSet c.set.new.self c.tell_when_set.new.ending z c.fold_low.new.table.items) c.as_slice.ensures.value
    (subst (TellsWhenSet c.set.new.self c.tell_when_set.new.ending c.as_slice.result.now) c.as_slice-2.ensures.value (record { told = c.tell_when_set.ensures.told; kept = c.tell_when_set.ensures.kept })))
    F s h w
