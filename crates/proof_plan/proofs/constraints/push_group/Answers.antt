use Rattle.std.proofs.Common.{◌==◌, ◌∙◌, ◌+◌, List, length, map, ap, arith}
use Rattle.std.specs.List.{filter}
use Rattle.list_laws.specs.CeilLog.{ceil_log}
use Rattle.table_shape.specs.Value.{greatest}
use Rattle.table_shape.specs.declared.shape.ConstraintShape.{ConstraintShape}
use Rattle.zerocheck.specs.Group.{named}
use Rattle.proof_plan.proofs.ColumnSteps.{group_pushed}
use Rattle.proof_plan.proofs.EntrySteps.{log_small}
use Rattle.proof_plan.proofs.constraints.push_group.Goals as goal

pub overflow_add-vars : goal.overflow_add-vars
overflow_add-vars c = omega (arith, log_small c.args.rows c.ranges.rows.fits, c.ceil_log.ensures, ap ceil_log c.from.ensures, c.requires.low)

pub returns : goal.returns
returns c =
    let v = c.args.log in
    let all = c.as_slice-constraints.ensures in
    group_pushed c.args.rows v c.group_size-size.result (c.ceil_log.result + v) c.greatest_degree.result c.named_count.result c.args.table.now c.args.entries.now.items c.push.new.self.items c.push_coordinates.new.entries.items c.push_sum.new.entries.items
    (c.group_size-size.ensures ∙ ap (λ (zs : List ConstraintShape). length (filter (λ (z : ConstraintShape). z.log_values == v) zs)) all)
    c.if-size-eq0.false
    (ap (λ n. n + v) (c.ceil_log.ensures ∙ ap ceil_log c.from.ensures))
    (c.greatest_degree.ensures.degree ∙ ap (λ (zs : List ConstraintShape). greatest (map (λ (z : ConstraintShape). z.degree) (filter (λ (z : ConstraintShape). z.log_values == v) zs))) all)
    (c.named_count.ensures ∙ (λ k. length (named (filter (λ (z : ConstraintShape). z.log_values == v) (all k)) (c.len.ensures k))))
    c.in_ok-push.ensures.items c.in_ok-push_coordinates.ensures c.in_ok-push_sum.ensures
