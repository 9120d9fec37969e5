use Rattle.std.proofs.Common.{◌∙◌, ◌+◌, ◌<◌, ◌^◌, refl, sym, ap, subst}
use Rattle.m3_verifier.specs.Queries.{Words, root_at}
use Rattle.m3_verifier.proofs.QuerySteps.{index_below, passed, refused}
use Rattle.m3_verifier.proofs.queries.Words.check_opening.Goals as goal

pub opening-requires-clause-index : goal.opening-requires-clause-index
opening-requires-clause-index c = index_below c.args.check.now.index c.self.inside.rounds c.self.inside.basis.now c.self.invariant.basis (subst (λ (w : Words). c.args.check.now.index < 2 ^ (w.rounds + 1)) (sym c.self.view_is) c.requires.index)

pub returns-in-Err-clause-fault : goal.returns-in-Err-clause-fault
returns-in-Err-clause-fault c =
    refused c.args.self.now c.args.check.now c.args.opening.now c.root-root.result c.copy_from_slice.new.self c.split_at.result.1.now c.in-Err.fault
    (c.root-root.ensures ∙ ap (root_at c.args.self.now) (sym c.requires.round)) (c.copy_from_slice.ensures.after ∙ c.split_at.ensures.front) c.split_at.ensures.back (c.in-Err.ensures.err)

pub returns-clause-fault : goal.returns-clause-fault
returns-clause-fault c =
    passed c.args.self.now c.args.check.now c.args.opening.now c.root-root.result c.copy_from_slice.new.self c.split_at.result.1.now
    (c.root-root.ensures ∙ ap (root_at c.args.self.now) (sym c.requires.round)) (c.copy_from_slice.ensures.after ∙ c.split_at.ensures.front) c.split_at.ensures.back (c.in_default.ensures.ok.0 refl)
