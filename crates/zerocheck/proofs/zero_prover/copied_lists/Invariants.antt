use Rattle.std.proofs.Common.{◌≡◌, take}
use Rattle.zerocheck.specs.Given.{given_lists}
use Rattle.zerocheck.proofs.zero_prover.copied_lists.Given as goal

abbrev pub invariant-loop-column : goal.invariant-loop-column
invariant-loop-column l = l.lists.items ≡ given_lists l.tables l.table (take l.column-index l.columns)
