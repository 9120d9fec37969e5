use Rattle.std.proofs.Common.{◌∙◌, ◌+◌, sym, ap, subst}
use Rattle.std.specs.List.{AllByRecursion}
use Rattle.proof_plan.proofs.SmallShape.{tables_small}
use Rattle.proof_plan.specs.Plan.{flush_count}
use Rattle.proof_plan.specs.Small.{TableIsSmall}
use Rattle.m3_walk.specs.Course.{claim_count}
use Rattle.m3_verifier.proofs.WalkSteps.{entries_are, state_is}
use Rattle.m3_verifier.proofs.walk.first_walk.Goals as goal

pub room_for-requires-clause-small : goal.room_for-requires-clause-small
room_for-requires-clause-small c = subst (AllByRecursion TableIsSmall) (sym c.tables.ensures.all) (tables_small c.args.shape.now c.tables.ensures.fits)

pub returns-clause-state : goal.returns-clause-state
returns-clause-state c = c.begin-2.ensures ∙ state_is c.args.shape.now c.args.rows.now c.in_ok-stages.stages.items c.in_ok-kept.kept c.in_ok-room.room c.in_ok-stages.ensures.stages c.in_ok-kept.ensures (c.in_ok-room.ensures.enough ∙ ap (λ ts. flush_count ts + claim_count ts) c.tables.ensures.all)

pub returns-clause-entries : goal.returns-clause-entries
returns-clause-entries c =
    let state = c.begin-2.ensures ∙ state_is c.args.shape.now c.args.rows.now c.in_ok-stages.stages.items c.in_ok-kept.kept c.in_ok-room.room c.in_ok-stages.ensures.stages c.in_ok-kept.ensures (c.in_ok-room.ensures.enough ∙ ap (λ ts. flush_count ts + claim_count ts) c.tables.ensures.all) in
    entries_are c.is_linked.ensures.lawful c.courses_are_plans.ensures.plans c.args.shape.now c.args.rows.now c.begin-2.result c.tables.ensures.fits c.requires.counts c.requires.few state
