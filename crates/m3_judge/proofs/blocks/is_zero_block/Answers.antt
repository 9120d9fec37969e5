use Rattle.std.proofs.Common.{◌+◌}
use Rattle.table_shape.specs.Value.{value}
use Rattle.m3_judge.specs.Judging.{values_in}
use Rattle.m3_judge.proofs.Expanding.{all_zero}
use Rattle.m3_judge.proofs.blocks.is_zero_block.Goals as goal

pub returns-in-Some : goal.returns-in-Some
returns-in-Some g c true i below =
    all_zero g.F.Tower.number c.in-Some.block (λ i. value (values_in c.args.columns.now (c.args.first + i)) c.args.expr.now) c.in-Some.ensures (c.are_zero.ensures true) i below
