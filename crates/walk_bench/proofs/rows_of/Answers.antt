use Rattle.std.proofs.Common.{◌^◌, ◌≤◌, arith}
use Rattle.std.proofs.Math.Nat.{pow-le-pow_right}
use Rattle.walk_bench.proofs.rows_of.Goals as goal

pub returns : goal.returns
returns c = let few : 2 ^ c.args.log ≤ 2 ^ 20 = pow-le-pow_right {n = 2} (omega arith) c.requires in omega arith
