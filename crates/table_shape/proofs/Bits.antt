-- How many bits columns and tables take, summed from the first on.
use Rattle.std.proofs.Common.{◌≡◌, ℕ, ◌+◌, ◌<◌, ◌≤◌, List, length, drop, get_or, Some, refl, ap, subst}
use Rattle.std.specs.List.{slice_get}
use Rattle.std.proofs.lemmas.List.{drop_more, drop_all}
use Rattle.list_laws.proofs.Lists.{drop_here, item_here}
use Rattle.table_shape.specs.declared.shape.ColumnShape.{ColumnShape}
use Rattle.table_shape.specs.declared.shape.TableShape.{TableShape}
use Rattle.table_shape.specs.Fits.{AreSized, ShapeFits}
use Rattle.table_shape.specs.Parts.{ShapeParts}
use Rattle.table_shape.specs.Size.{column_bits, columns_bits, tables_bits}

-- ---- columns

pub column_here : (i : ℕ) (columns : List ColumnShape) (column : ColumnShape) → i < length columns → column ≡ get_or columns i column → AreSized columns → (column.level ≤ 7) × (column.log_values ≤ 7)
column_here i columns column h e fit = fit i column (item_here columns i column h e)

pub columns_more : (rows i : ℕ) (columns : List ColumnShape) (column : ColumnShape) → i < length columns → column ≡ get_or columns i column
    → columns_bits rows (drop i columns) ≡ column_bits rows column + columns_bits rows (drop (i + 1) columns)
columns_more rows i columns column h e = ap (columns_bits rows) (drop_here columns i column h e)

pub columns_done : (rows i : ℕ) (columns : List ColumnShape) → length columns ≤ i → columns_bits rows (drop i columns) ≡ 0
columns_done rows i columns h = ap (columns_bits rows) (drop_all i columns h)

-- ---- tables

pub table_at : (i : ℕ) (shape : ShapeParts) (tables : List TableShape) (table : TableShape) → tables ≡ shape.tables → i < length tables → table ≡ get_or tables i table → ShapeFits shape
    → (length table.columns ≤ 256) × AreSized table.columns
table_at i shape tables table all h e fit =
    let at = subst (λ (ts : List TableShape). slice_get ts i ≡ Some table) all (item_here tables i table h e) in
    let one = fit.tables i table at in
    (one.few_columns, λ c column is. ((one.columns c column is).level, (one.columns c column is).log_values))

pub tables_more : (i : ℕ) (tables : List TableShape) (rows : List ℕ) (table : TableShape) → i < length tables → table ≡ get_or tables i table → i < length rows
    → tables_bits (drop i tables) (drop i rows) ≡ columns_bits (get_or rows i 0) table.columns + tables_bits (drop (i + 1) tables) (drop (i + 1) rows)
tables_more i tables rows table h e k = rw (drop_here tables i table h e, drop_more rows i 0 k) refl

pub tables_done : (i : ℕ) (tables : List TableShape) (rows : List ℕ) → length tables ≤ i → tables_bits (drop i tables) rows ≡ 0
tables_done i tables rows h = ap (λ (ts : List TableShape). tables_bits ts rows) (drop_all i tables h)
