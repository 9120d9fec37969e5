use Rattle.std.proofs.Common.{◌≡◌, ◌+◌, ◌<◌, ◌≤◌, ℕ, List, length, drop, get_or, sym, ap, ◌∙◌}
use Rattle.std.specs.List.{filter, slice_index}
use Rattle.std.proofs.lemmas.List.{drop_all}
use Rattle.tower_laws.specs.Tower.{mul}
use Rattle.tower_laws.proofs.Rules.{times_one}
use Rattle.counting_laws.specs.Multiset.{product_by}
use Rattle.list_laws.proofs.Lists.{drop_here}
use Rattle.table_shape.specs.Channels.{is_flush_of}
use Rattle.table_shape.specs.Filling.{values_of}
use Rattle.table_shape.specs.Lowering.{flush_product, tables_product}
use Rattle.table_shape.specs.Parts.{ShapeParts}
use Rattle.column_store.specs.Column.{list_of}
use Rattle.oracle_lowering.proofs.ProductSteps.{multiplied, one_times}
use Rattle.oracle_lowering.proofs.side.tables_product.Goals as goal

pub loop-t-init : goal.loop-t-init
loop-t-init c = one_times _

pub loop-t-preserved : goal.loop-t-preserved
loop-t-preserved c =
    let all = c.tables-table-items.ensures.all ∙ ap (λ (s : ShapeParts). s.tables) c.shape.ensures in
    let item = rw all at c.table-item.is in
    let below = rw all at c.loop-t-test.true in
    let tables = c.args.store.now.shape.tables in
    let filling = c.args.store.now.filling in
    let rows = c.args.store.now.rows in
    let of_table = product_by (flush_product c.args.alpha c.args.gamma (values_of filling c.loop-t.t) (slice_index rows c.loop-t.t)) (filter (is_flush_of c.args.side c.args.channel) c.table-item.result.flushes) in
    let value : c.flushes_product.result ≡ of_table =
    c.flushes_product.ensures
    ∙ (λ i. product_by (flush_product c.args.alpha c.args.gamma (list_of (c.columns-columns.ensures i)) (slice_index (c.rows-rows.ensures.value i) c.loop-t.t)) (filter (is_flush_of c.args.side c.args.channel) (c.as_slice-flushes.ensures i))) in
    let more = ap (tables_product c.args.side c.args.channel c.args.alpha c.args.gamma filling rows c.loop-t.t) (drop_here tables c.loop-t.t c.table-item.result below item) in
    multiplied c.loop-t.product of_table (tables_product c.args.side c.args.channel c.args.alpha c.args.gamma filling rows (c.loop-t.t + 1) (drop (c.loop-t.t + 1) tables)) c.mul-product.result _
    (c.mul-product.ensures ∙ ap (mul c.loop-t.product) value) (ap (mul c.loop-t.product) (sym more) ∙ c.loop-t.invariant)

pub returns : goal.returns
returns c =
    let all = c.tables-table-items.ensures.all ∙ ap (λ (s : ShapeParts). s.tables) c.shape.ensures in
    let past = rw all at c.loop-t-test.false in
    let none = ap (tables_product c.args.side c.args.channel c.args.alpha c.args.gamma c.args.store.now.filling c.args.store.now.rows c.loop-t.t) (drop_all c.loop-t.t c.args.store.now.shape.tables past) in
    sym (times_one c.loop-t.product) ∙ ap (mul c.loop-t.product) (sym none) ∙ c.loop-t.invariant
