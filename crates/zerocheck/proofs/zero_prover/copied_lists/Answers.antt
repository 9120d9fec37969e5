use Rattle.std.proofs.Common.{◌≡◌, ◌^◌, Some, None, ◌∙◌}
use Rattle.zerocheck.proofs.ProverSteps.{column_there}
use Rattle.zerocheck.proofs.zero_prover.copied_lists.Goals as goal

pub unreachable-requires : goal.unreachable-requires
unreachable-requires c =
    let cs = c.args.columns.now in
    let i = c.loop-column.column-index in
    let there = column_there c.args.tables.now c.args.table (2 ^ c.args.vars) i cs c.requires c.loop-column-test.true in
    let e : None ≡ Some there.0 = c.in_default.ensures ∙ there.1 in cc
