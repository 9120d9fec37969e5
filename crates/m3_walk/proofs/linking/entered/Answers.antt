use Rattle.std.proofs.Common.{◌≡◌, ◌∙◌, ap, sym, subst, refl}
use Rattle.m3_walk.specs.declared.stage.Stage.{Stage}
use Rattle.m3_walk.specs.declared.stage.Stage.TheVariants.{Bits}
use Rattle.m3_walk.specs.Linked.{Takes}
use Rattle.m3_walk.specs.Linking.{entered, sizes, staying}
use Rattle.m3_walk.specs.Kept.{Kept}
use Rattle.m3_walk.proofs.HandOver.{batch_entered, batch_ready, batch_stays, linear_found, linear_taken, merge_ready, pack_found, pack_taken, project_found, project_taken, shift_found, shift_taken}
use Rattle.m3_walk.proofs.linking.entered.Goals as goal

pub merge-requires : goal.merge-requires
merge-requires c =
    let takes = subst (λ (s : Stage). Takes s (sizes c.args.kept.now)) c.in-Merge.is c.requires in
    merge_ready c.in-Merge.merging.table c.in-Merge.merging.column c.in-Merge.merging.walk c.args.kept.now.columns takes

pub take_claim-claim-requires : goal.take_claim-claim-requires
take_claim-claim-requires c =
    let takes = subst (λ (s : Stage). Takes s (sizes c.args.kept.now)) c.in-Linear.is c.requires in
    linear_found c.in-Linear.step c.args.kept.now.columns c.column-table.result.0 c.column-table.result.1 takes c.column-table.ensures

pub enter_owned-requires : goal.enter_owned-requires
enter_owned-requires c =
    let takes = subst (λ (s : Stage). Takes s (sizes c.args.kept.now)) c.in-Linear.is c.requires in
    linear_taken c.in-Linear.step c.args.kept.now.columns c.column-table.result.0 c.column-table.result.1 c.take_claim-claim.result takes c.column-table.ensures c.take_claim-claim.ensures.claim

pub take_claim-claim-requires-in-Project : goal.take_claim-claim-requires-in-Project
take_claim-claim-requires-in-Project c =
    let takes = subst (λ (s : Stage). Takes s (sizes c.args.kept.now)) c.in-Project.is c.requires in
    project_found c.in-Project.step c.args.kept.now.columns c.column-table-in-Project.result.0 c.column-table-in-Project.result.1 takes c.column-table-in-Project.ensures

pub enter_owned-requires-in-Project : goal.enter_owned-requires-in-Project
enter_owned-requires-in-Project c =
    let takes = subst (λ (s : Stage). Takes s (sizes c.args.kept.now)) c.in-Project.is c.requires in
    project_taken c.in-Project.step c.args.kept.now.columns c.column-table-in-Project.result.0 c.column-table-in-Project.result.1 c.take_claim-claim-in-Project.result takes c.column-table-in-Project.ensures c.take_claim-claim-in-Project.ensures.claim

pub take_claim-claim-requires-in-Pack : goal.take_claim-claim-requires-in-Pack
take_claim-claim-requires-in-Pack c =
    let takes = subst (λ (s : Stage). Takes s (sizes c.args.kept.now)) c.in-Pack.is c.requires in
    pack_found c.in-Pack.walk c.args.kept.now.columns c.column-table-in-Pack.result.0 c.column-table-in-Pack.result.1 takes c.column-table-in-Pack.ensures

pub enter_owned-requires-in-Pack : goal.enter_owned-requires-in-Pack
enter_owned-requires-in-Pack c =
    let takes = subst (λ (s : Stage). Takes s (sizes c.args.kept.now)) c.in-Pack.is c.requires in
    pack_taken c.in-Pack.walk c.args.kept.now.columns c.column-table-in-Pack.result.0 c.column-table-in-Pack.result.1 c.take_claim-claim-in-Pack.result takes c.column-table-in-Pack.ensures c.take_claim-claim-in-Pack.ensures.claim

pub take_claim-claim-requires-in-Shift : goal.take_claim-claim-requires-in-Shift
take_claim-claim-requires-in-Shift c =
    let takes = subst (λ (s : Stage). Takes s (sizes c.args.kept.now)) c.in-Shift.is c.requires in
    shift_found c.in-Shift.walk c.args.kept.now.columns c.column-table-in-Shift.result.0 c.column-table-in-Shift.result.1 takes c.column-table-in-Shift.ensures

pub enter_owned-requires-in-Shift : goal.enter_owned-requires-in-Shift
enter_owned-requires-in-Shift c =
    let takes = subst (λ (s : Stage). Takes s (sizes c.args.kept.now)) c.in-Shift.is c.requires in
    shift_taken c.in-Shift.walk c.args.kept.now.columns c.column-table-in-Shift.result.0 c.column-table-in-Shift.result.1 c.take_claim-claim-in-Shift.result takes c.column-table-in-Shift.ensures c.take_claim-claim-in-Shift.ensures.claim

pub batch-requires : goal.batch-requires
batch-requires c =
    let takes = subst (λ (s : Stage). Takes s (sizes c.args.kept.now)) c.in-Bits.is c.requires in
    batch_ready c.in-Bits.walk c.args.kept.now.columns takes

pub returns-in-Bits-clause-state : goal.returns-in-Bits-clause-state
returns-in-Bits-clause-state c =
    let takes = subst (λ (s : Stage). Takes s (sizes c.args.kept.now)) c.in-Bits.is c.requires in
    ap Bits c.batch.ensures.walk ∙ batch_entered c.in-Bits.walk c.args.kept.now.columns takes ∙ ap (λ (s : Stage). entered s c.args.kept.now) (sym c.in-Bits.is)

pub returns-in-Bits-clause-stays : goal.returns-in-Bits-clause-stays
returns-in-Bits-clause-stays c =
    let takes = subst (λ (s : Stage). Takes s (sizes c.args.kept.now)) c.in-Bits.is c.requires in
    c.batch.ensures.none ∙ ap (λ cs. record c.args.kept.now { columns = cs }) (batch_stays c.in-Bits.walk c.args.kept.now.columns takes) ∙ ap (λ (s : Stage). staying s c.args.kept.now) (sym c.in-Bits.is)
