-- A group: the constraints of a table that have one number of values per row, as forms over the columns that they name.
-- Source: docs/REDUCTIONS.md, "Zerocheck".
use Rattle.std.specs.Prelude.{ℕ, suc, ◌+◌, ◌==◌, Bool, false, cond, List, [], ◌∷◌, map, length, Option, None, Some, option_and_then, slice_get}
use Rattle.std.specs.List.{filter, list_any}
use Rattle.cube_laws.specs.Sums.{tabulate}
use Rattle.cube_laws.specs.Form.{Form}
use Rattle.poly_forms.specs.declared.form.Form.{Form as Tree}
use Rattle.poly_forms.specs.declared.form.Form.TheVariants.{Constant, Variable, Sum, Product}
use Rattle.poly_forms.specs.Form.{form_of}
use Rattle.table_shape.specs.declared.shape.ShapeExpr.{ShapeExpr}
use Rattle.table_shape.specs.declared.shape.ShapeExpr.TheOpen.{ShapeExpr-F}
use Rattle.table_shape.specs.declared.shape.ShapeExpr.TheFolds.{fold-ShapeExpr}
use Rattle.table_shape.specs.declared.shape.ConstraintShape.{ConstraintShape}
use Rattle.table_shape.specs.declared.shape.TableShape.{TableShape}
use Rattle.table_shape.specs.Counts.{group}
use Rattle.list_laws.specs.CeilLog.{ceil_log}
use Rattle.table_shape.specs.Value.{greatest}

-- ---- expressions as forms
-- the place of a number in a list, and the list's length where it isn't in it
abbrev pub place : ℕ → List ℕ → ℕ
place c [] = 0
place c (k ∷ ks) = cond (k == c) 0 (suc (place c ks))

abbrev pub form_step : List ℕ → ShapeExpr-F Tree → Tree
form_step columns (ShapeExpr-F.Number n) = Constant n
form_step columns (ShapeExpr-F.Column k) = Variable (place k columns)
form_step columns (ShapeExpr-F.Sum parts) = Sum parts
form_step columns (ShapeExpr-F.Product parts) = Product parts

-- an expression as a form, whose variables are the columns of a list
abbrev pub form_on : List ℕ → ShapeExpr → Tree
form_on columns = fold-ShapeExpr Tree (form_step columns)

abbrev pub names_step : ℕ → ShapeExpr-F Bool → Bool
names_step c (ShapeExpr-F.Number n) = false
names_step c (ShapeExpr-F.Column k) = k == c
names_step c (ShapeExpr-F.Sum parts) = list_any (λ b. b) parts
names_step c (ShapeExpr-F.Product parts) = list_any (λ b. b) parts

-- whether an expression names a column
abbrev pub names : ℕ → ShapeExpr → Bool
names c = fold-ShapeExpr Bool (names_step c)

-- of the first columns, n of them, those that some constraint names
abbrev pub named : List ConstraintShape → ℕ → List ℕ
named zs n = filter (λ c. list_any (λ (z : ConstraintShape). names c z.expr) zs) (tabulate n (λ c. c))

-- ---- groups
pub record Group : Type 0 where
  pub table : ℕ
  pub log_values : ℕ
  pub rows : ℕ
  -- how many variables a position has: that of row y and index x is y * 2 ^ log_values + x
  pub vars : ℕ
  -- the greatest degree
  pub degree : ℕ
  -- the columns that the constraints name, in order of declaration
  pub columns : List ℕ
  -- the constraints over these columns
  pub constraints : List Tree

-- the forms over the columns
abbrev pub forms : Group → List Form
forms g = map form_of g.constraints

-- constraints zs of table t, whose columns have 2 ^ v values in each of some rows
abbrev pub group_with : ℕ → ℕ → ℕ → ℕ → List ConstraintShape → Group
group_with t v rows n zs = record {
  table = t;
  log_values = v;
  rows = rows;
  vars = ceil_log rows + v;
  degree = greatest (map (λ (z : ConstraintShape). z.degree) zs);
  columns = named zs n;
  constraints = map (λ (z : ConstraintShape). form_on (named zs n) z.expr) zs;
}

abbrev pub group_where : ℕ → ℕ → ℕ → ℕ → List ConstraintShape → Option Group
group_where t v rows n [] = None
group_where t v rows n (z ∷ zs) = Some (group_with t v rows n (z ∷ zs))

-- the constraints of table t of 2 ^ v values per row, where there is one
abbrev pub group_of : List TableShape → ℕ → ℕ → ℕ → Option Group
group_of tables rows t v = option_and_then (λ (table : TableShape). group_where t v rows (length table.columns) (group v table)) (slice_get tables t)
