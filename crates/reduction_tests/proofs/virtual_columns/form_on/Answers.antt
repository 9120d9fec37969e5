use Rattle.std.proofs.Common.{rules, ◌≡◌, ◌∙◌, ◌+◌, length, slice_get, option_copied, Some, sym, ap}
use Rattle.table_shape.specs.declared.shape.ShapeForm.TheVariants as form
use Rattle.table_shape.specs.declared.shape.ColumnKind.TheVariants.{Virtual}
use Rattle.eval_reduce.specs.Virtual.{vars_on}
use Rattle.eval_reduce.proofs.Forms.{linear_on, packed_on, projected_on, shl_on, shr_on, rol_on}
use Rattle.reduction_tests.proofs.virtual_columns.form_on.Goals as goal

pub returns-in-Virtual-Linear-clause-linear : goal.returns-in-Virtual-Linear-clause-linear
returns-in-Virtual-Linear-clause-linear c =
    let table = c.in_ok-table.table.now in
    let of = c.in_ok-column.column.now in
    let here : slice_get c.args.shape.now.tables c.args.claim.now.table ≡ Some table = (λ i. slice_get (sym c.tables.ensures.all i) c.args.claim.now.table) ∙ (sym c.at.ensures ∙ ap option_copied c.in_ok-table.was) in
    let there : slice_get table.columns c.args.claim.now.column ≡ Some of = (λ i. slice_get (sym c.as_slice.ensures i) c.args.claim.now.column) ∙ (sym c.at-2.ensures ∙ ap option_copied c.in_ok-column.was) in
    let long : length c.args.claim.now.point ≡ vars_on c.args.rows of = ap length (sym c.as_slice-2.ensures) ∙ (c.if-as_slice-vars.false ∙ ((λ i. (c.from-2.ensures ∙ c.ceil_log.ensures) i + c.from-3.ensures i) ∙ (λ i. vars_on (c.from.ensures i) of))) in
    let is : of.kind ≡ Virtual (form.Linear c.in-Virtual-Linear.field-0-0 c.in-Virtual-Linear.field-0-1) = search rules in
    λ _. linear_on c.args.shape.now.tables c.args.rows c.args.claim.now table of c.in-Virtual-Linear.field-0-0 c.in-Virtual-Linear.field-0-1 here there long is

pub returns-in-Virtual-Pack-clause-packed : goal.returns-in-Virtual-Pack-clause-packed
returns-in-Virtual-Pack-clause-packed c =
    let table = c.in_ok-table.table.now in
    let of = c.in_ok-column.column.now in
    let here : slice_get c.args.shape.now.tables c.args.claim.now.table ≡ Some table = (λ i. slice_get (sym c.tables.ensures.all i) c.args.claim.now.table) ∙ (sym c.at.ensures ∙ ap option_copied c.in_ok-table.was) in
    let there : slice_get table.columns c.args.claim.now.column ≡ Some of = (λ i. slice_get (sym c.as_slice.ensures i) c.args.claim.now.column) ∙ (sym c.at-2.ensures ∙ ap option_copied c.in_ok-column.was) in
    let long : length c.args.claim.now.point ≡ vars_on c.args.rows of = ap length (sym c.as_slice-2.ensures) ∙ (c.if-as_slice-vars.false ∙ ((λ i. (c.from-2.ensures ∙ c.ceil_log.ensures) i + c.from-3.ensures i) ∙ (λ i. vars_on (c.from.ensures i) of))) in
    let is : of.kind ≡ Virtual (form.Pack c.in-Virtual-Pack.field-0-0 c.in-Virtual-Pack.field-0-1) = search rules in
    λ _. packed_on c.args.shape.now.tables c.args.rows c.args.claim.now table of c.in-Virtual-Pack.field-0-0 c.in-Virtual-Pack.field-0-1 here there long is

pub returns-in-Virtual-Project-clause-projected : goal.returns-in-Virtual-Project-clause-projected
returns-in-Virtual-Project-clause-projected c =
    let table = c.in_ok-table.table.now in
    let of = c.in_ok-column.column.now in
    let here : slice_get c.args.shape.now.tables c.args.claim.now.table ≡ Some table = (λ i. slice_get (sym c.tables.ensures.all i) c.args.claim.now.table) ∙ (sym c.at.ensures ∙ ap option_copied c.in_ok-table.was) in
    let there : slice_get table.columns c.args.claim.now.column ≡ Some of = (λ i. slice_get (sym c.as_slice.ensures i) c.args.claim.now.column) ∙ (sym c.at-2.ensures ∙ ap option_copied c.in_ok-column.was) in
    let long : length c.args.claim.now.point ≡ vars_on c.args.rows of = ap length (sym c.as_slice-2.ensures) ∙ (c.if-as_slice-vars.false ∙ ((λ i. (c.from-2.ensures ∙ c.ceil_log.ensures) i + c.from-3.ensures i) ∙ (λ i. vars_on (c.from.ensures i) of))) in
    let is : of.kind ≡ Virtual (form.Project c.in-Virtual-Project.field-0-0 c.in-Virtual-Project.field-0-1 c.in-Virtual-Project.field-0-2) = search rules in
    λ _. projected_on c.args.shape.now.tables c.args.rows c.args.claim.now table of c.in-Virtual-Project.field-0-0 c.in-Virtual-Project.field-0-1 c.in-Virtual-Project.field-0-2 here there long is

pub returns-in-Virtual-Shl-clause-shifted : goal.returns-in-Virtual-Shl-clause-shifted
returns-in-Virtual-Shl-clause-shifted c =
    let table = c.in_ok-table.table.now in
    let of = c.in_ok-column.column.now in
    let here : slice_get c.args.shape.now.tables c.args.claim.now.table ≡ Some table = (λ i. slice_get (sym c.tables.ensures.all i) c.args.claim.now.table) ∙ (sym c.at.ensures ∙ ap option_copied c.in_ok-table.was) in
    let there : slice_get table.columns c.args.claim.now.column ≡ Some of = (λ i. slice_get (sym c.as_slice.ensures i) c.args.claim.now.column) ∙ (sym c.at-2.ensures ∙ ap option_copied c.in_ok-column.was) in
    let long : length c.args.claim.now.point ≡ vars_on c.args.rows of = ap length (sym c.as_slice-2.ensures) ∙ (c.if-as_slice-vars.false ∙ ((λ i. (c.from-2.ensures ∙ c.ceil_log.ensures) i + c.from-3.ensures i) ∙ (λ i. vars_on (c.from.ensures i) of))) in
    let is : of.kind ≡ Virtual (form.Shl c.in-Virtual-Shl.field-0-0 c.in-Virtual-Shl.field-0-1 c.in-Virtual-Shl.field-0-2) = search rules in
    λ _. shl_on c.args.shape.now.tables c.args.rows c.args.claim.now table of c.in-Virtual-Shl.field-0-0 c.in-Virtual-Shl.field-0-1 c.in-Virtual-Shl.field-0-2 here there long is

pub returns-in-Virtual-Shr-clause-shifted : goal.returns-in-Virtual-Shr-clause-shifted
returns-in-Virtual-Shr-clause-shifted c =
    let table = c.in_ok-table.table.now in
    let of = c.in_ok-column.column.now in
    let here : slice_get c.args.shape.now.tables c.args.claim.now.table ≡ Some table = (λ i. slice_get (sym c.tables.ensures.all i) c.args.claim.now.table) ∙ (sym c.at.ensures ∙ ap option_copied c.in_ok-table.was) in
    let there : slice_get table.columns c.args.claim.now.column ≡ Some of = (λ i. slice_get (sym c.as_slice.ensures i) c.args.claim.now.column) ∙ (sym c.at-2.ensures ∙ ap option_copied c.in_ok-column.was) in
    let long : length c.args.claim.now.point ≡ vars_on c.args.rows of = ap length (sym c.as_slice-2.ensures) ∙ (c.if-as_slice-vars.false ∙ ((λ i. (c.from-2.ensures ∙ c.ceil_log.ensures) i + c.from-3.ensures i) ∙ (λ i. vars_on (c.from.ensures i) of))) in
    let is : of.kind ≡ Virtual (form.Shr c.in-Virtual-Shr.field-0-0 c.in-Virtual-Shr.field-0-1 c.in-Virtual-Shr.field-0-2) = search rules in
    λ _. shr_on c.args.shape.now.tables c.args.rows c.args.claim.now table of c.in-Virtual-Shr.field-0-0 c.in-Virtual-Shr.field-0-1 c.in-Virtual-Shr.field-0-2 here there long is

pub returns-in-Virtual-Rol-clause-shifted : goal.returns-in-Virtual-Rol-clause-shifted
returns-in-Virtual-Rol-clause-shifted c =
    let table = c.in_ok-table.table.now in
    let of = c.in_ok-column.column.now in
    let here : slice_get c.args.shape.now.tables c.args.claim.now.table ≡ Some table = (λ i. slice_get (sym c.tables.ensures.all i) c.args.claim.now.table) ∙ (sym c.at.ensures ∙ ap option_copied c.in_ok-table.was) in
    let there : slice_get table.columns c.args.claim.now.column ≡ Some of = (λ i. slice_get (sym c.as_slice.ensures i) c.args.claim.now.column) ∙ (sym c.at-2.ensures ∙ ap option_copied c.in_ok-column.was) in
    let long : length c.args.claim.now.point ≡ vars_on c.args.rows of = ap length (sym c.as_slice-2.ensures) ∙ (c.if-as_slice-vars.false ∙ ((λ i. (c.from-2.ensures ∙ c.ceil_log.ensures) i + c.from-3.ensures i) ∙ (λ i. vars_on (c.from.ensures i) of))) in
    let is : of.kind ≡ Virtual (form.Rol c.in-Virtual-Rol.field-0-0 c.in-Virtual-Rol.field-0-1 c.in-Virtual-Rol.field-0-2) = search rules in
    λ _. rol_on c.args.shape.now.tables c.args.rows c.args.claim.now table of c.in-Virtual-Rol.field-0-0 c.in-Virtual-Rol.field-0-1 c.in-Virtual-Rol.field-0-2 here there long is
