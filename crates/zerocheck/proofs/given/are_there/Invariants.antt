use Rattle.std.proofs.Common.{◌↔◌, drop}
use Rattle.zerocheck.specs.Given.{AreThere}
use Rattle.zerocheck.proofs.given.are_there.Given as goal

abbrev pub invariant-loop-column : goal.invariant-loop-column
invariant-loop-column l = AreThere l.tables l.table l.count (drop l.column-index l.columns) ↔ AreThere l.tables l.table l.count l.columns
