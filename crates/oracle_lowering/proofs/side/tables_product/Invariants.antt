use Rattle.std.proofs.Common.{◌≡◌, drop}
use Rattle.tower_laws.specs.Tower.{mul}
use Rattle.table_shape.specs.Lowering.{tables_product}
use Rattle.oracle_lowering.proofs.side.tables_product.Given as goal

abbrev pub invariant-loop-t : goal.invariant-loop-t
invariant-loop-t l =
    mul l.product (tables_product l.side l.channel l.alpha l.gamma l.store.filling l.store.rows l.t (drop l.t l.store.shape.tables))
    ≡ tables_product l.side l.channel l.alpha l.gamma l.store.filling l.store.rows 0 l.store.shape.tables
