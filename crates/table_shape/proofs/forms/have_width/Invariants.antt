use Rattle.std.proofs.Common.{◌≡◌, ◌==◌, drop}
use Rattle.std.specs.List.{list_all}
use Rattle.table_shape.specs.declared.shape.ShapeTerm.{ShapeTerm}
use Rattle.table_shape.specs.Width.{log_values_at}
use Rattle.table_shape.proofs.forms.have_width.Given as goal

abbrev pub invariant-loop-term : goal.invariant-loop-term
invariant-loop-term l =
    list_all (λ (t : ShapeTerm). log_values_at l.columns t.column == l.log_values) (drop l.term-index l.terms) ≡ list_all (λ (t : ShapeTerm). log_values_at l.columns t.column == l.log_values) l.terms
