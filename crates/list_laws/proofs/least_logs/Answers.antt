use Rattle.std.proofs.Common.{arith}
use Rattle.list_laws.proofs.CeilLog.{is_least, at_most}
use Rattle.list_laws.proofs.least_logs.Goals as goal

pub returns : goal.returns
returns c = record { enough = λ x. (is_least x).enough; least = λ x e h. (is_least x).least e (omega arith) h; at_most = at_most }
