use Rattle.std.proofs.Common.{◌≡◌, ◌++◌, drop, map}
use Rattle.table_shape.specs.declared.shape.ShapeTerm.{ShapeTerm}
use Rattle.proof_plan.proofs.columns.push_sources.Given as goal

abbrev pub invariant-loop-term : goal.invariant-loop-term
invariant-loop-term l = l.claimed.items ++ map (λ (t : ShapeTerm). t.column) (drop l.term-index l.term-items) ≡ l.initial.claimed.items ++ map (λ (t : ShapeTerm). t.column) l.term-items
