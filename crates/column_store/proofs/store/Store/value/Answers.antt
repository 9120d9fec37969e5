use Rattle.std.proofs.Common.{◌≡◌, ◌+◌, ◌*◌, ◌^◌, ◌<◌, [], length, get_or, sym, ap, subst, ◌∙◌, arith}
use Rattle.std.proofs.lemmas.Nat.{shl_below}
use Rattle.table_shape.specs.Width.{log_values_at}
use Rattle.list_laws.proofs.Powers.{power_bound}
use Rattle.column_store.specs.Column.{list_of}
use Rattle.column_store.specs.Draft.{Stored, columns_of}
use Rattle.column_store.proofs.Pieces.{no_wrap, list_at}
use Rattle.column_store.proofs.Kept.{columns_long, shape_at}
use Rattle.column_store.proofs.store.Store.value.Goals as goal

pub overflow_add-position : goal.overflow_add-position
overflow_add-position c =
    let s = c.self.inside in
    let is = shape_at s.shape c.args.table c.args.column c.index-tables-table.result c.index-as_slice-column.result c.tables.result.now c.as_slice.result.now c.tables.ensures.fits c.tables.ensures.all
    (subst (λ (d : Stored). c.args.table < length d.shape.tables) (sym c.self.view_is) c.requires.table_exists) (subst (λ (d : Stored). c.args.column < length (columns_of d.shape.tables c.args.table)) (sym c.self.view_is) c.requires.column_exists)
    c.index-tables-table.is c.as_slice.ensures c.index-as_slice-column.is in
    let v = c.index-as_slice-column.result.log_values in
    omega (arith, no_wrap c.args.row v (omega arith) is.log_values, shl_below c.args.row 32 v (omega arith), power_bound (32 + v) 39 (omega (arith, is.log_values)))

pub bounds-columns-column : goal.bounds-columns-column
bounds-columns-column c =
    let s = c.self.inside in
    let is = shape_at s.shape c.args.table c.args.column c.index-tables-table.result c.index-as_slice-column.result c.tables.result.now c.as_slice.result.now c.tables.ensures.fits c.tables.ensures.all
    (subst (λ (d : Stored). c.args.table < length d.shape.tables) (sym c.self.view_is) c.requires.table_exists) (subst (λ (d : Stored). c.args.column < length (columns_of d.shape.tables c.args.table)) (sym c.self.view_is) c.requires.column_exists)
    c.index-tables-table.is c.as_slice.ensures c.index-as_slice-column.is in
    let long = columns_long s.shape s.rows s.tables.items c.args.table c.index-tables-table.result c.columns.result.now c.self.invariant is.table_is
    (c.columns.ensures ∙ ap (λ (d : Stored). get_or d.filling c.args.table []) (sym c.self.view_is)) in
    omega (arith, long, is.within)

pub returns : goal.returns
returns c =
    let s = c.self.inside in
    let is = shape_at s.shape c.args.table c.args.column c.index-tables-table.result c.index-as_slice-column.result c.tables.result.now c.as_slice.result.now c.tables.ensures.fits c.tables.ensures.all
    (subst (λ (d : Stored). c.args.table < length d.shape.tables) (sym c.self.view_is) c.requires.table_exists) (subst (λ (d : Stored). c.args.column < length (columns_of d.shape.tables c.args.table)) (sym c.self.view_is) c.requires.column_exists)
    c.index-tables-table.is c.as_slice.ensures c.index-as_slice-column.is in
    let long = columns_long s.shape s.rows s.tables.items c.args.table c.index-tables-table.result c.columns.result.now c.self.invariant is.table_is
    (c.columns.ensures ∙ ap (λ (d : Stored). get_or d.filling c.args.table []) (sym c.self.view_is)) in
    let list = list_at c.columns.result.now c.args.column c.index-columns-column.result (omega (arith, long, is.within)) c.index-columns-column.is in
    let v = c.index-as_slice-column.result.log_values in
    let logs : v ≡ log_values_at (columns_of c.args.self.now.shape.tables c.args.table) c.args.column = is.logs ∙ ap (λ (d : Stored). log_values_at (columns_of d.shape.tables c.args.table) c.args.column) c.self.view_is in
    c.in-Some.ensures.some ∙ c.get.ensures
    ∙ (λ i. get_or (sym list i) (no_wrap c.args.row v (omega arith) is.log_values i + c.args.index) 0)
    ∙ (λ i. get_or (list_of (c.columns.ensures i) c.args.column) (c.args.row * 2 ^ logs i + c.args.index) 0)
