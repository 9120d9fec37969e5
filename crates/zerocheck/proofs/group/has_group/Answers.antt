use Rattle.std.proofs.Common.{◌==◌, ◌∙◌, ap, slice_get, sym}
use Rattle.std.specs.List.{list_any}
use Rattle.table_shape.specs.declared.shape.ConstraintShape.{ConstraintShape}
use Rattle.zerocheck.proofs.GroupSteps.{group_there, none_there}
use Rattle.zerocheck.proofs.group.has_group.Goals as goal

pub returns : goal.returns
returns c = λ rows.
    let v = c.args.log_values in
    let here = ap (λ xs. slice_get xs c.args.table) (sym c.tables.ensures.all) ∙ sym c.in-Some.ensures in
    c.some_wide.ensures ∙ ap (list_any (λ (z : ConstraintShape). z.log_values == v)) c.as_slice.ensures ∙ sym (group_there c.args.shape.now.tables rows c.args.table v c.in-Some.of.now here)

pub returns-in_default : goal.returns-in_default
returns-in_default c = λ rows. sym (none_there c.args.shape.now.tables rows c.args.table c.args.log_values (ap (λ xs. slice_get xs c.args.table) (sym c.tables.ensures.all) ∙ sym c.in_default.ensures))
