-- How many numbers a channel's tuples have, and how many values per row a column, an expression and a sum.
-- Source: docs/LANGUAGE.md, "What a file means".
use Rattle.std.specs.Prelude.{ℕ, Bool, true, false, ◌==◌, List, [], ◌∷◌, Option, Some, None, unwrap_or, slice_get}
use Rattle.std.specs.List.{list_all}
use Rattle.table_shape.specs.declared.shape.ChannelShape.{ChannelShape}
use Rattle.table_shape.specs.declared.shape.ColumnShape.{ColumnShape}
use Rattle.table_shape.specs.declared.shape.ShapeTerm.{ShapeTerm}
use Rattle.table_shape.specs.declared.shape.ShapeExpr.{ShapeExpr}
use Rattle.table_shape.specs.declared.shape.ShapeExpr.TheOpen.{ShapeExpr-F}
use Rattle.table_shape.specs.declared.shape.ShapeExpr.TheFolds.{fold-ShapeExpr}

-- the width of a channel, and 0 where there is no such channel
abbrev pub width_at : List ChannelShape → ℕ → ℕ
width_at channels c = elim (slice_get channels c) [ Some channel ↦ channel.width | None ↦ 0 ]

-- the logarithm of a column's number of values per row, and 0 where there is no such column
abbrev pub log_values_at : List ColumnShape → ℕ → ℕ
log_values_at columns k = elim (slice_get columns k) [ Some column ↦ column.log_values | None ↦ 0 ]

-- that of the first term's column, and 0 where there is no term
abbrev pub terms_width : List ColumnShape → List ShapeTerm → ℕ
terms_width columns [] = 0
terms_width columns (t ∷ terms) = log_values_at columns t.column

abbrev pub first_some : List (Option ℕ) → Option ℕ
first_some [] = None
first_some (None ∷ os) = first_some os
first_some (Some x ∷ os) = Some x

abbrev pub first_width_step : List ColumnShape → ShapeExpr-F (Option ℕ) → Option ℕ
first_width_step columns (ShapeExpr-F.Number n) = None
first_width_step columns (ShapeExpr-F.Column k) = Some (log_values_at columns k)
first_width_step columns (ShapeExpr-F.Sum parts) = first_some parts
first_width_step columns (ShapeExpr-F.Product parts) = first_some parts

-- that of the first column that an expression names, where it names one
abbrev pub first_width : List ColumnShape → ShapeExpr → Option ℕ
first_width columns = fold-ShapeExpr (Option ℕ) (first_width_step columns)

-- that of an expression: of its first column, and 0 where it names none
abbrev pub width : List ColumnShape → ShapeExpr → ℕ
width columns expr = unwrap_or (first_width columns expr) 0

abbrev pub has_width_step : List ColumnShape → ℕ → ShapeExpr-F Bool → Bool
has_width_step columns v (ShapeExpr-F.Number n) = true
has_width_step columns v (ShapeExpr-F.Column k) = elim (slice_get columns k) [ Some column ↦ column.log_values == v | None ↦ false ]
has_width_step columns v (ShapeExpr-F.Sum parts) = list_all (λ b. b) parts
has_width_step columns v (ShapeExpr-F.Product parts) = list_all (λ b. b) parts

-- whether each column that an expression names is there and has 2 ^ v values per row
abbrev pub has_width : List ColumnShape → ℕ → ShapeExpr → Bool
has_width columns v = fold-ShapeExpr Bool (has_width_step columns v)
