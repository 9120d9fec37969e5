use Rattle.channel_products.proofs.ShapeSteps.{flushes_few}
use Rattle.channel_products.proofs.counts.flush_rows.Goals as goal

pub flush_count-requires : goal.flush_count-requires
flush_count-requires c =
    rw c.as_slice.ensures (flushes_few c.args.shape.now c.tables-table-items.result.now c.loop-t.t c.table-item.result c.tables-table-items.ensures.all c.loop-t-test.true c.table-item.is c.tables-table-items.ensures.fits)
