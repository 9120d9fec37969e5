use Rattle.std.proofs.Common.{◌≡◌, ◌++◌, drop}
use Rattle.std.specs.List.{flat_map}
use Rattle.table_text.specs.Canonical.{item_line}
use Rattle.table_text.specs.Valid.{ItemLevelsFit}
use Rattle.table_text.proofs.print.Printer.items.Given as goal

-- the text so far and the items that are left make the whole text
abbrev pub invariant-loop-item : goal.invariant-loop-item
invariant-loop-item l = record {
  left : l.self ++ flat_map item_line (drop l.item-index l.items) ≡ l.fn.self ++ flat_map item_line l.items;
  levels : ItemLevelsFit (drop l.item-index l.items);
}
