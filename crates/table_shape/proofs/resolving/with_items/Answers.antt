use Rattle.std.proofs.Common.{arith, sym}
use Rattle.table_shape.specs.Shape.{with_items}
use Rattle.table_shape.proofs.ShapeSteps.{item_added}
use Rattle.table_shape.proofs.resolving.with_items.Goals as goal

pub loop-item-preserved : goal.loop-item-preserved
loop-item-preserved c =
    let l = c.loop-item in
    let channels = c.args.channels.now in
    let left = item_added l.item-index l.number c.args.items.now _ c.item-item.result channels l.table c.in_ok-table.table (with_items c.args.first channels c.args.items.now c.args.table)
    c.loop-item-test.true (sym c.item-item.is) l.invariant.levels l.invariant.rest c.in_ok-table.ensures.exact in
    record { fits = c.in_ok-table.ensures.fits; levels = left.0; numbered = omega (arith, l.invariant.numbered); rest = left.1 }
