use Rattle.std.proofs.Common.{◌≡◌, ℕ, ◌<◌, List, length, refl, subst}
use Rattle.sumcheck.specs.declared.column_claim.ColumnClaim.{ColumnClaim}
use Rattle.eval_reduce.specs.Merge.{AllOn}
use Rattle.eval_reduce.specs.declared.merge_prover.MergeProver.{MergeProver}
use Rattle.eval_reduce.proofs.ProverSteps.{entered}
use Rattle.eval_reduce.proofs.merge_prover.MergeProver.enter_owned.Goals as goal

pub returns : goal.returns
returns c =
    let p : MergeProver = c.args.self.now in
    entered p (record p { claims = c.args.claims; ending = c.aim.new.ending }) c.args.claims.items c.requires.new refl refl c.requires.new.none refl c.requires.placed
    (subst (λ (cs : List ColumnClaim). (t k n : ℕ) → 0 < length cs → AllOn t k n cs → c.aim.new.ending ≡ record p.ending { table = t; column = k }) c.as_slice.ensures.value c.aim.ensures)
