use Rattle.std.proofs.Common.{ℕ, Vec, Global}
use Rattle.m3_tool.proofs.Told.{if_ok, Tells, constraint_told, channel_told}
use Rattle.m3_tool.proofs.lines.violation_line.Goals as goal

pub returns-in-Constraint : goal.returns-in-Constraint
returns-in-Constraint c =
    let at = c.in-Constraint in
    if_ok c.nonzero_line.result _ (λ (line : Vec ℕ Global). Tells c.args.shape.now c.args.violation.now line.items)
    (λ line said. constraint_told c.args.shape.now c.args.violation.now at.table at.constraint at.row at.index at.value c.tables.result.now c.index-tables-table.result c.as_slice.result.now c.index-as_slice-constraint.result line.items
    at.is c.tables.ensures.all c.index-tables-table.is c.as_slice.ensures c.index-as_slice-constraint.is said)
    c.nonzero_line.ensures

pub returns-in-Channel : goal.returns-in-Channel
returns-in-Channel c =
    let at = c.in-Channel in
    if_ok c.unequal_line.result _ (λ (line : Vec ℕ Global). Tells c.args.shape.now c.args.violation.now line.items)
    (λ line said. channel_told c.args.shape.now c.args.violation.now at.channel at.tuple at.pushed at.pulled c.channels.result.now c.index-channels-channel.result c.as_slice-in-Channel.result.now line.items
    at.is c.channels.ensures.all c.index-channels-channel.is c.as_slice-in-Channel.ensures said)
    c.unequal_line.ensures
