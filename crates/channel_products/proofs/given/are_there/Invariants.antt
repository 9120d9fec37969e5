use Rattle.std.proofs.Common.{◌↔◌, drop}
use Rattle.std.specs.List.{AllByRecursion}
use Rattle.channel_products.specs.Given.{IsThere}
use Rattle.channel_products.proofs.given.are_there.Given as goal

abbrev pub invariant-loop-column : goal.invariant-loop-column
invariant-loop-column l = AllByRecursion (IsThere l.tables l.table l.count) (drop l.column-index l.columns) ↔ AllByRecursion (IsThere l.tables l.table l.count) l.columns
