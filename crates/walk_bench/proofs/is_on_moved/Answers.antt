use Rattle.std.proofs.Common.{rules, ◌≡◌, ◌∙◌, ◌+◌, length, slice_get, Some, sym, ap}
use Rattle.std.proofs.lemmas.Bool.{eqb-true}
use Rattle.table_shape.specs.declared.shape.ShapeForm.TheVariants as form
use Rattle.table_shape.specs.declared.shape.ColumnKind.TheVariants.{Virtual}
use Rattle.eval_reduce.specs.Virtual.{vars_on}
use Rattle.eval_reduce.proofs.Forms.{shl_on}
use Rattle.walk_bench.proofs.is_on_moved.Goals as goal

pub returns-in-Virtual-Shl : goal.returns-in-Virtual-Shl
returns-in-Virtual-Shl c =
    let claim = c.args.claim.now in
    let table = c.in-Some.table.now in
    let of = c.in-Some-at.column.now in
    let here : slice_get c.args.shape.now.tables claim.table ≡ Some table = ap (λ xs. slice_get xs claim.table) (sym c.tables.ensures.all) ∙ sym c.in-Some.ensures in
    let there : slice_get table.columns claim.column ≡ Some of = ap (λ xs. slice_get xs claim.column) (sym c.as_slice.ensures) ∙ sym c.in-Some-at.ensures in
    let logs = c.from-2.ensures ∙ c.ceil_log.ensures in
    let vars : c.from-2.result + c.from-3.result ≡ vars_on c.args.rows of = (λ i. logs i + c.from-3.ensures i) ∙ ap (λ rows. vars_on rows of) c.from.ensures in
    let is : of.kind ≡ Virtual (form.Shl c.in-Virtual-Shl.field-0-0 c.in-Virtual-Shl.field-0-1 c.in-Virtual-Shl.field-0-2) = search rules in
    λ yes. shl_on c.args.shape.now.tables c.args.rows claim table of c.in-Virtual-Shl.field-0-0 c.in-Virtual-Shl.field-0-1 c.in-Virtual-Shl.field-0-2 here there (ap length (sym c.as_slice-in-Virtual-Shl.ensures) ∙ eqb-true (length c.as_slice-in-Virtual-Shl.result.now) (c.from-2.result + c.from-3.result) yes ∙ vars) is
