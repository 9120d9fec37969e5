use Rattle.std.proofs.Common.{◌∙◌, ap, length, arith}
use Rattle.list_laws.specs.CeilLog.{ceil_log}
use Rattle.zerocheck.proofs.GroupSteps.{ready, rows_small, columns_are, forms_are, degree_is, kept_is, group_made}
use Rattle.zerocheck.proofs.group.Group.of.Goals as goal

pub forms_of-requires : goal.forms_of-requires
forms_of-requires c =
    let table = c.table_at-of.result.now in
    let r = ready c.args.shape.now c.args.table c.args.log_values c.args.rows table c.table_at-of.ensures.fits c.table_at-of.ensures.table c.requires.some in
    let s = r.short in
    let e = ap length (c.as_slice.ensures.value ∙ columns_are c.args.log_values c.len.result table c.as_slice-constraints.result.now c.in_ok-columns.columns.items c.as_slice-constraints.ensures c.len.ensures c.in_ok-columns.ensures) in
    omega arith

pub overflow_add-result : goal.overflow_add-result
overflow_add-result c =
    let r = ready c.args.shape.now c.args.table c.args.log_values c.args.rows c.table_at-of.result.now c.table_at-of.ensures.fits c.table_at-of.ensures.table c.requires.some in
    let v = r.values in
    let l = rows_small c.args.rows c.requires.few in
    let e = c.ceil_log.ensures ∙ ap ceil_log c.from.ensures in
    omega arith

pub invariant_of-result : goal.invariant_of-result
invariant_of-result c =
    let table = c.table_at-of.result.now in
    let zs = c.as_slice-constraints.result.now in
    let v = c.args.log_values in
    let r = ready c.args.shape.now c.args.table v c.args.rows table c.table_at-of.ensures.fits c.table_at-of.ensures.table c.requires.some in
    let cs = columns_are v c.len.result table zs c.in_ok-columns.columns.items c.as_slice-constraints.ensures c.len.ensures c.in_ok-columns.ensures in
    let fs = forms_are v table zs c.as_slice.result.now c.in_ok-forms.forms.items c.as_slice-constraints.ensures (c.as_slice.ensures.value ∙ cs) c.in_ok-forms.ensures in
    let d = degree_is v c.greatest_degree.result table zs c.as_slice-constraints.ensures c.greatest_degree.ensures in
    let k = kept_is c.args.shape.now c.args.table v c.args.rows table r c.requires.few c.in_ok-columns.columns.items c.in_ok-forms.forms.items c.greatest_degree.result c.ceil_log.result cs fs d (c.ceil_log.ensures ∙ ap ceil_log c.from.ensures) in
    record { some = k.some; low = k.low; few = k.few; within = k.within; short = k.short; below = k.below }

pub returns : goal.returns
returns c =
    let table = c.table_at-of.result.now in
    let zs = c.as_slice-constraints.result.now in
    let v = c.args.log_values in
    let r = ready c.args.shape.now c.args.table v c.args.rows table c.table_at-of.ensures.fits c.table_at-of.ensures.table c.requires.some in
    let cs = columns_are v c.len.result table zs c.in_ok-columns.columns.items c.as_slice-constraints.ensures c.len.ensures c.in_ok-columns.ensures in
    let fs = forms_are v table zs c.as_slice.result.now c.in_ok-forms.forms.items c.as_slice-constraints.ensures (c.as_slice.ensures.value ∙ cs) c.in_ok-forms.ensures in
    let d = degree_is v c.greatest_degree.result table zs c.as_slice-constraints.ensures c.greatest_degree.ensures in
    group_made c.args.shape.now c.args.table v c.args.rows table r c.in_ok-columns.columns.items c.in_ok-forms.forms.items c.greatest_degree.result c.ceil_log.result cs fs d (c.ceil_log.ensures ∙ ap ceil_log c.from.ensures)
