use Rattle.std.proofs.Common.{rules}
use Rattle.m3_judge.specs.Sources.{tuple_of}
use Rattle.m3_judge.proofs.Comparing.{compares}
use Rattle.m3_judge.proofs.sorted.in_order.Goals as goal

pub returns-clause-ascending : goal.returns-clause-ascending
returns-clause-ascending c =
    compares (tuple_of c.args.store.now.shape c.args.store.now.filling) c.sort_unstable_by.new.self.items c.sort_unstable_by.ensures.sorted (λ a r d k. search rules)
