use Rattle.channel_products.proofs.ShapeSteps.{flushes_few}
use Rattle.channel_products.proofs.channels.all_flushes.Goals as goal

pub append_flushes-requires : goal.append_flushes-requires
append_flushes-requires c =
    rw c.as_slice.ensures (flushes_few c.args.shape.now c.tables-table-items.result.now c.loop-t.t c.table-item.result c.tables-table-items.ensures.all c.loop-t-test.true c.table-item.is c.tables-table-items.ensures.fits)
