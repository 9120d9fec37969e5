use Rattle.std.proofs.Common.{◌≡◌, map, drop, bit_xor, length}
use Rattle.tower_laws.specs.Tower.{mul}
use Rattle.cube_laws.specs.Form.{value}
use Rattle.poly_forms.specs.Form.{form_of, sum_of, product_of, VariablesBelow}
use Rattle.poly_forms.proofs.form.Form.+values.Given as goal

abbrev pub invariant-eval_sum-loop-part : goal.invariant-eval_sum-loop-part
invariant-eval_sum-loop-part l =
    let rest = sum_of (map form_of (drop l.part-index l.parts)) in
    record { below : VariablesBelow (length l.values) rest; rest : bit_xor l.sum (value rest l.values) ≡ value (sum_of (map form_of l.parts)) l.values }

abbrev pub invariant-eval_product-loop-part : goal.invariant-eval_product-loop-part
invariant-eval_product-loop-part l =
    let rest = product_of (map form_of (drop l.part-index l.parts)) in
    record { below : VariablesBelow (length l.values) rest; rest : mul l.product (value rest l.values) ≡ value (product_of (map form_of l.parts)) l.values }
