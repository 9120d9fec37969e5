use Rattle.std.proofs.Common.{◌≡◌, ◌≤◌, ◌+◌, ◌-◌, ◌^◌, min, max, map, drop}
use Rattle.cube_laws.specs.Form.{degree}
use Rattle.poly_forms.specs.Form.{form_of, sum_of, product_of}
use Rattle.poly_forms.proofs.form.Form.+degree.Given as goal

abbrev pub invariant-loop-part : goal.invariant-loop-part
invariant-loop-part l = (l.greatest ≤ 2 ^ 64 - 1) × (min (max l.greatest (degree (sum_of (map form_of (drop l.part-index l.part-items))))) (2 ^ 64 - 1) ≡ min (degree (form_of l.self)) (2 ^ 64 - 1))

abbrev pub invariant-loop-part-2 : goal.invariant-loop-part-2
invariant-loop-part-2 l = (l.total ≤ 2 ^ 64 - 1) × (min (l.total + degree (product_of (map form_of (drop l.part-index l.part-items)))) (2 ^ 64 - 1) ≡ min (degree (form_of l.self)) (2 ^ 64 - 1))
