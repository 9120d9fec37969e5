use Rattle.std.proofs.Common.{◌≡◌, ◌++◌, map, take}
use Rattle.channel_products.specs.Given.{table_of}
use Rattle.channel_products.proofs.sum_tables.push_columns.Given as goal

abbrev pub invariant-loop-column : goal.invariant-loop-column
invariant-loop-column l = l.lists ≡ l.fn.lists ++ map (table_of l.tables l.table) (take l.column-index l.columns)
