use Rattle.std.proofs.Common.{arith}
use Rattle.tower_field.proofs.Carried.{carried_is}
use Rattle.tower_field.proofs.byte.carried8.Goals as goal

pub returns : goal.returns
returns c = carried_is c.args.a (omega arith)
