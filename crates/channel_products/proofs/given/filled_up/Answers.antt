use Rattle.std.proofs.Common.{ap, ◌∙◌, arith}
use Rattle.list_laws.specs.CeilLog.{ceil_log}
use Rattle.channel_products.proofs.GivenSteps.{count_is, few_bits}
use Rattle.channel_products.proofs.given.filled_up.Goals as goal

pub overflow_shl-result : goal.overflow_shl-result
overflow_shl-result c = let l = few_bits c.args.rows c.ranges.rows.fits in let e = c.ceil_log.ensures ∙ ap ceil_log c.from.ensures in omega arith

pub returns : goal.returns
returns c = count_is c.args.rows c.ceil_log.result c.ranges.rows.fits (c.ceil_log.ensures ∙ ap ceil_log c.from.ensures)
