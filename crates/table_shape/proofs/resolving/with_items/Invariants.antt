use Rattle.std.proofs.Common.{◌≡◌, ◌+◌, drop}
use Rattle.table_text.specs.Valid.{ItemLevelsFit}
use Rattle.table_shape.specs.Fits.{TableFits}
use Rattle.table_shape.specs.Shape.{with_items}
use Rattle.table_shape.proofs.resolving.with_items.Given as goal

abbrev pub invariant-loop-item : goal.invariant-loop-item
invariant-loop-item l = record {
  fits : TableFits l.table;
  levels : ItemLevelsFit (drop l.item-index l.items);
  numbered : l.number ≡ l.first + l.item-index;
  rest : with_items l.number l.channels (drop l.item-index l.items) l.table ≡ with_items l.first l.channels l.items l.fn.table;
}
