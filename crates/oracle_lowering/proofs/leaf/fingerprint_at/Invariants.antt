use Rattle.std.proofs.Common.{◌≡◌, bit_xor, drop, map}
use Rattle.tower_laws.specs.Tower.{mul}
use Rattle.poly_laws.specs.Polynomial.{horner}
use Rattle.column_store.specs.Column.{list_of, lists}
use Rattle.oracle_lowering.proofs.ProductSteps.{number_at}
use Rattle.oracle_lowering.proofs.leaf.fingerprint_at.Given as goal

abbrev pub invariant-loop-column : goal.invariant-loop-column
invariant-loop-column l =
    bit_xor l.sum (mul l.power (horner (map (number_at (list_of (lists l.columns)) l.row) (drop l.column-index l.column-items)) l.alpha))
    ≡ bit_xor l.fn.gamma (horner (map (number_at (list_of (lists l.columns)) l.row) l.column-items) l.alpha)
