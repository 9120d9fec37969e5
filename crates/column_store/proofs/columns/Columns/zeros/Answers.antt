use Rattle.column_store.proofs.Kept.{zeros_more}
use Rattle.column_store.proofs.columns.Columns.zeros.Goals as goal

pub loop-shape-preserved : goal.loop-shape-preserved
loop-shape-preserved c =
    zeros_more c.args.rows c.args.shapes.now c.loop-shape.shape-index c.shape-item.result c.count_of-count.result c.in_ok-zeros.field-0 c.loop-shape.columns.items c.push.new.self.items
    c.loop-shape-test.true c.shape-item.is c.count_of-count.ensures.value c.in_ok-zeros.ensures c.in_ok-push.ensures.items c.loop-shape.invariant
