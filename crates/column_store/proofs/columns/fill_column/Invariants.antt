use Rattle.std.proofs.Common.{◌≡◌, ℕ, ◌<◌, length, get_or}
use Rattle.table_shape.specs.Forms.{form_value}
use Rattle.column_store.specs.Column.{list_of, lists}
use Rattle.column_store.proofs.columns.fill_column.Given as goal

abbrev pub invariant-loop-position : goal.invariant-loop-position
invariant-loop-position l = record {
  level : l.column.level ≡ l.initial.column.level;
  len : length l.column.values ≡ length l.initial.column.values;
  done : (k : ℕ) → k < l.position → get_or l.column.values k 0 ≡ form_value l.shapes (list_of (lists l.before)) l.form k;
}
