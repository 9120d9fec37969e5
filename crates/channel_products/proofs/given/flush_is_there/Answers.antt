use Rattle.channel_products.proofs.GivenSteps.{flush_else, flush_then}
use Rattle.channel_products.proofs.given.flush_is_there.Goals as goal

pub returns-then-selector : goal.returns-then-selector
returns-then-selector c =
    flush_then c.args.tables.now c.args.flush.now c.filled_up-count.result c.as_slice.result.now c.selector_is_there-selector.result c.are_there-columns.result c.filled_up-count.ensures c.as_slice.ensures c.selector_is_there-selector.ensures c.are_there-columns.ensures c.if-selector.true

pub returns-else-selector : goal.returns-else-selector
returns-else-selector c = flush_else c.args.tables.now c.args.flush.now c.filled_up-count.result c.selector_is_there-selector.result c.filled_up-count.ensures c.selector_is_there-selector.ensures c.if-selector.false
