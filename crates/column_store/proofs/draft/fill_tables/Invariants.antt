use Rattle.std.proofs.Common.{◌≡◌, ◌++◌, take, drop, map, length}
use Rattle.column_store.specs.Column.{lists}
use Rattle.column_store.specs.Filled.{filled_tables}
use Rattle.column_store.proofs.draft.fill_tables.Given as goal

abbrev pub invariant-loop-t : goal.invariant-loop-t
invariant-loop-t l = record {
  len : length l.tables.items ≡ length l.initial.tables.items;
  done : map lists (take l.t l.tables.items) ++ filled_tables (drop l.t l.shapes) (drop l.t l.rows) (map lists (drop l.t l.tables.items)) ≡ filled_tables l.shapes l.rows (map lists l.initial.tables.items);
  left : drop l.t l.tables.items ≡ drop l.t l.initial.tables.items;
}
