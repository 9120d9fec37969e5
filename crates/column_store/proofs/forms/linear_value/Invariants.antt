use Rattle.std.proofs.Common.{◌≡◌, drop, map, bit_xor, get_or}
use Rattle.tower_laws.specs.Tower.{mul}
use Rattle.tower_laws.specs.Lists.{sum_all}
use Rattle.table_shape.specs.declared.shape.ShapeTerm.{ShapeTerm}
use Rattle.column_store.specs.Column.{list_of, lists}
use Rattle.column_store.proofs.forms.linear_value.Given as goal

abbrev pub invariant-loop-term : goal.invariant-loop-term
invariant-loop-term l =
    bit_xor l.sum (sum_all (map (λ (t : ShapeTerm). mul t.coefficient (get_or (list_of (lists l.columns) t.column) l.position 0)) (drop l.term-index l.terms)))
    ≡ bit_xor l.fn.constant (sum_all (map (λ (t : ShapeTerm). mul t.coefficient (get_or (list_of (lists l.columns) t.column) l.position 0)) l.terms))
