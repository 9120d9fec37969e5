use Rattle.std.proofs.Common.{◌≡◌, ◌≤◌, ◌+◌, min, max, map, drop}
use Rattle.table_shape.specs.Value.{degree, greatest}
use Rattle.std.specs.List.{sum}
use Rattle.table_shape.proofs.constraints.+capped_degree.Given as goal

abbrev pub invariant-loop-part : goal.invariant-loop-part
invariant-loop-part l = (l.greatest ≤ 9) × (min 9 (max l.greatest (greatest (map degree (drop l.part-index l.part-items)))) ≡ min 9 (degree l.expr))

abbrev pub invariant-loop-part-2 : goal.invariant-loop-part-2
invariant-loop-part-2 l = (l.total ≤ 9) × (min 9 (l.total + sum (map degree (drop l.part-index l.part-items))) ≡ min 9 (degree l.expr))
