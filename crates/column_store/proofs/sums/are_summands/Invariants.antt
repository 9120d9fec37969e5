use Rattle.std.proofs.Common.{◌≡◌, ℕ, ◌<◌, get_or}
use Rattle.table_shape.specs.declared.shape.ShapeTerm.{ShapeTerm}
use Rattle.column_store.specs.Column.{ColumnValues}
use Rattle.column_store.specs.Summands.{IsSummand}
use Rattle.column_store.proofs.sums.are_summands.Given as goal

abbrev pub invariant-loop-term : goal.invariant-loop-term
invariant-loop-term l =
    (i : ℕ) (term : ShapeTerm) (column : ColumnValues) → i < l.term-index → term ≡ get_or l.terms i term → column ≡ get_or l.columns term.column column → IsSummand l.level l.count term column
