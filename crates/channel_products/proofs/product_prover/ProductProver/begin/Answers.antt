use Rattle.channel_products.proofs.DescentSteps.{flush_width}
use Rattle.channel_products.proofs.product_prover.ProductProver.begin.Goals as goal

pub of-requires-clause-width : goal.of-requires-clause-width
of-requires-clause-width c = let h = flush_width c.args.shape.now c.args.table c.args.flush c.flush_at-own.result.now c.flush_at-own.ensures.fits c.flush_at-own.ensures.flush in let e = c.in_ok-copy.ensures in rw e h
