use Rattle.std.proofs.Common.{◌≡◌, ◌≤◌, max, map, drop}
use Rattle.table_shape.specs.Forms.{level_at, linear_level}
use Rattle.table_shape.specs.Value.{greatest}
use Rattle.table_shape.specs.declared.shape.ShapeTerm.{ShapeTerm}
use Rattle.tower_laws.specs.Tower.{level}
use Rattle.table_shape.proofs.levels.linear_level.Given as goal

abbrev pub invariant-loop-term : goal.invariant-loop-term
invariant-loop-term l = record {
  low : l.level ≤ 7;
  rest : max l.level (greatest (map (λ (t : ShapeTerm). max (level t.coefficient) (level_at l.columns t.column)) (drop l.term-index l.terms))) ≡ linear_level l.columns l.fn.constant l.terms;
}
