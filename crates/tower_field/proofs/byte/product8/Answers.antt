use Rattle.std.proofs.Common.{arith}
use Rattle.tower_field.proofs.Powers.{byte_is, exponent_le}
use Rattle.tower_field.proofs.byte.product8.Goals as goal

pub bounds-a-2 : goal.bounds-a-2
bounds-a-2 c = omega (arith, exponent_le c.args.a (omega arith), exponent_le c.args.b (omega arith))

pub returns : goal.returns
returns c = byte_is c.args.a c.args.b (omega arith) (omega arith)
