use Rattle.list_laws.proofs.CeilLog.{from_floor, from_one}
use Rattle.table_shape.proofs.size.ceil_log.Goals as goal

pub returns-then-x-le1 : goal.returns-then-x-le1
returns-then-x-le1 c = from_one c.args.x c.if-x-le1.true

pub returns-else-x-le1 : goal.returns-else-x-le1
returns-else-x-le1 c = from_floor c.args.x c.ilog2.result c.if-x-le1.false c.ilog2.ensures.power_le c.ilog2.ensures.next_power_gt
