-- The value of an expression, and its degree.
-- Source: docs/LANGUAGE.md, "What a file means".
use Rattle.std.specs.Prelude.{ℕ, max, List, [], ◌∷◌}
use Rattle.std.specs.List.{sum}
use Rattle.tower_laws.specs.Lists.{sum_all, product_all}
use Rattle.table_shape.specs.declared.shape.ShapeExpr.{ShapeExpr}
use Rattle.table_shape.specs.declared.shape.ShapeExpr.TheOpen.{ShapeExpr-F}
use Rattle.table_shape.specs.declared.shape.ShapeExpr.TheFolds.{fold-ShapeExpr}

abbrev pub value_step : (ℕ → ℕ) → ShapeExpr-F ℕ → ℕ
value_step column (ShapeExpr-F.Number n) = n
value_step column (ShapeExpr-F.Column k) = column k
value_step column (ShapeExpr-F.Sum parts) = sum_all parts
value_step column (ShapeExpr-F.Product parts) = product_all parts

-- the value of an expression, by the value of each column
abbrev pub value : (ℕ → ℕ) → ShapeExpr → ℕ
value column = fold-ShapeExpr ℕ (value_step column)

-- the greatest number of a list, and 0 of an empty one
abbrev pub greatest : List ℕ → ℕ
greatest [] = 0
greatest (x ∷ xs) = max x (greatest xs)

abbrev pub degree_step : ShapeExpr-F ℕ → ℕ
degree_step (ShapeExpr-F.Number n) = 0
degree_step (ShapeExpr-F.Column k) = 1
degree_step (ShapeExpr-F.Sum parts) = greatest parts
degree_step (ShapeExpr-F.Product parts) = sum parts

-- of a number 0, of a column 1, of a sum the greatest, of a product the sum
abbrev pub degree : ShapeExpr → ℕ
degree = fold-ShapeExpr ℕ degree_step
