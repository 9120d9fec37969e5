use Rattle.std.proofs.Common.{◌≡◌, take}
use Rattle.column_store.specs.Draft.{zero_columns}
use Rattle.column_store.proofs.columns.Columns.zeros.Given as goal

abbrev pub invariant-loop-shape : goal.invariant-loop-shape
invariant-loop-shape l = l.columns.items ≡ zero_columns l.rows (take l.shape-index l.shapes)
