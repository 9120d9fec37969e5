use Rattle.std.proofs.Common.{◌≡◌, drop}
use Rattle.std.specs.List.{filter}
use Rattle.tower_laws.specs.Tower.{mul}
use Rattle.counting_laws.specs.Multiset.{product_by}
use Rattle.table_shape.specs.Channels.{is_flush_of}
use Rattle.table_shape.specs.Lowering.{flush_product}
use Rattle.column_store.specs.Column.{list_of, lists}
use Rattle.oracle_lowering.proofs.side.flushes_product.Given as goal

abbrev pub invariant-loop-flush : goal.invariant-loop-flush
invariant-loop-flush l =
    let of_flush = flush_product l.alpha l.gamma (list_of (lists l.columns)) l.rows in
    mul l.product (product_by of_flush (filter (is_flush_of l.side l.channel) (drop l.flush-index l.flushes))) ≡ product_by of_flush (filter (is_flush_of l.side l.channel) l.flushes)
