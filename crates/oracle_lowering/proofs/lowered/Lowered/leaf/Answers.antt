use Rattle.std.proofs.Common.{List, [], get_or, ap, ◌∙◌}
use Rattle.std.specs.List.{slice_index_or}
use Rattle.table_shape.specs.Lowering.{leaf_at}
use Rattle.table_shape.specs.Parts.{ShapeParts}
use Rattle.column_store.specs.Column.{list_of}
use Rattle.column_store.specs.Draft.{Stored}
use Rattle.oracle_lowering.proofs.Decided.{own_flush}
use Rattle.oracle_lowering.proofs.lowered.Lowered.leaf.Goals as goal

pub returns : goal.returns
returns c own is =
    let all = c.tables.ensures.all ∙ ap (λ (s : ShapeParts). s.tables) (c.shape.ensures ∙ ap (λ (s : Stored). s.shape) c.self.view_is) in
    let at = rw all at c.index-tables-table.is in
    let here = rw c.as_slice.ensures at c.index-as_slice-flush.is in
    let same = own_flush c.args.self.now.shape.tables c.args.table c.args.flush c.index-tables-table.result c.index-as_slice-flush.result own is at here in
    let columns = c.columns.ensures ∙ ap (λ (s : Stored). slice_index_or s.filling c.args.table []) c.self.view_is in
    let rows = c.rows.ensures.value ∙ ap (λ (s : Stored). s.rows) c.self.view_is in
    c.leaf_at.ensures ∙ (λ i. leaf_at c.args.alpha c.args.gamma (list_of (columns i)) (get_or (rows i) c.args.table 0) (same i) c.args.row)
