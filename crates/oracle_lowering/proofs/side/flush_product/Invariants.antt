use Rattle.std.proofs.Common.{◌≡◌}
use Rattle.tower_laws.specs.Lists.{product_all}
use Rattle.cube_laws.specs.Sums.{tabulate}
use Rattle.table_shape.specs.Lowering.{leaf_at}
use Rattle.column_store.specs.Column.{list_of, lists}
use Rattle.oracle_lowering.proofs.side.flush_product.Given as goal

abbrev pub invariant-loop-row : goal.invariant-loop-row
invariant-loop-row l = l.product ≡ product_all (tabulate l.row (leaf_at l.alpha l.gamma (list_of (lists l.columns)) l.rows l.flush))
