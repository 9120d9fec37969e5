use Rattle.std.proofs.Common.{◌∙◌, ◌^◌, sym, ap}
use Rattle.additive_transform.proofs.Logs.{log_is}
use Rattle.additive_transform.proofs.log.log_of.Goals as goal

pub returns-clause-value : goal.returns-clause-value
returns-clause-value c = let e = log_is c.requires.0 c.ilog2.result c.args.count c.requires.1 c.ilog2.ensures.power_le c.ilog2.ensures.next_power_gt in c.requires.1 ∙ ap (λ n. 2 ^ n) (sym e)

pub returns-clause-only : goal.returns-clause-only
returns-clause-only c = λ m h. log_is m c.ilog2.result c.args.count h c.ilog2.ensures.power_le c.ilog2.ensures.next_power_gt
