use Rattle.std.proofs.Common.{◌≡◌, take}
use Rattle.column_store.specs.Draft.{zeros_of}
use Rattle.column_store.proofs.draft.zero_tables.Given as goal

abbrev pub invariant-loop-t : goal.invariant-loop-t
invariant-loop-t l = l.tables.items ≡ zeros_of (take l.t l.shapes) l.rows
