use Rattle.std.proofs.Common.{arith}
use Rattle.tower_field.proofs.InverseTable.{inverse_is}
use Rattle.tower_field.proofs.byte.inverse8.Goals as goal

pub returns : goal.returns
returns c = inverse_is c.args.a (omega arith)
