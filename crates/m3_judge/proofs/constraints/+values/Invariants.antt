use Rattle.std.proofs.Common.{◌≡◌, drop, map, bit_xor}
use Rattle.tower_laws.specs.Tower.{mul}
use Rattle.table_shape.specs.Value.{value}
use Rattle.tower_laws.specs.Lists.{sum_all, product_all}
use Rattle.m3_judge.specs.Judging.{values_in}
use Rattle.m3_judge.proofs.constraints.+values.Given as goal

abbrev pub invariant-sum_in-loop-part : goal.invariant-sum_in-loop-part
invariant-sum_in-loop-part g l =
    let at = values_in l.columns l.position in
    bit_xor (g.F.Tower.number l.sum) (sum_all (map (value at) (drop l.part-index l.parts))) ≡ sum_all (map (value at) l.parts)

abbrev pub invariant-product_in-loop-part : goal.invariant-product_in-loop-part
invariant-product_in-loop-part g l =
    let at = values_in l.columns l.position in
    mul (g.F.Tower.number l.product) (product_all (map (value at) (drop l.part-index l.others))) ≡ product_all (map (value at) l.parts)
