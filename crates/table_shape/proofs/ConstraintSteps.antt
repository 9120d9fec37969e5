-- A constraint more, by its expression's names and checks.
use Rattle.std.proofs.Common.{◌≡◌, ℕ, ◌<◌, ◌≤◌, Bool, true, false, length, List, [], ◌∷◌, ◌++◌, Some, Ok, refl, sym, ◌∙◌, ap}
use Rattle.std.specs.List.{list_any}
use Rattle.std.specs.Str.{bytes_eq}
use Rattle.std.proofs.lemmas.Bool.{lt-leb, lt-ltb, le-ltb}
use Rattle.table_text.specs.declared.expr.Expr.{Expr}
use Rattle.table_shape.specs.declared.fault.ShapeKind.TheVariants.{UnequalWidth, DegreeTooHigh}
use Rattle.table_shape.specs.declared.shape.ColumnShape.{ColumnShape}
use Rattle.table_shape.specs.declared.shape.ShapeExpr.{ShapeExpr}
use Rattle.table_shape.specs.declared.shape.ConstraintShape.{ConstraintShape}
use Rattle.table_shape.specs.declared.shape.TableShape.{TableShape}
use Rattle.table_shape.specs.Value.{degree}
use Rattle.table_shape.specs.Width.{width, has_width}
use Rattle.table_shape.specs.Fits.{ConstraintFits}
use Rattle.table_shape.specs.Shape.{fault, resolved, with_expr, with_constraint}
use Rattle.table_shape.proofs.FitsSteps.{with_constraints}

abbrev pub constraint : List ℕ → List ColumnShape → ShapeExpr → ConstraintShape
constraint name columns expr = record { name = name; log_values = width columns expr; degree = degree expr; expr = expr }

-- the widths of an expression's columns are equal, or not
abbrev pub equal_widths : List ColumnShape → ShapeExpr → Bool
equal_widths columns expr = has_width columns (width columns expr) expr

-- what the checks before an expression leave
pub record Begins (name : List ℕ) (e : Expr) (table : TableShape) (expr : ShapeExpr) : Type 0 where
  pub room : length table.constraints < 256
  pub new : list_any (λ z. bytes_eq name z.name) table.constraints ≡ false
  pub known : resolved table.columns e ≡ Some expr

constraint_due : (k : ℕ) (name : List ℕ) (e : Expr) (table : TableShape) (expr : ShapeExpr) → Begins name e table expr → with_constraint k name e table ≡ with_expr k name table (Some expr)
constraint_due k name e table expr b = let full = lt-leb 256 (length table.constraints) b.room in rw (full, b.new, b.known) refl

pub unequal_due : (k : ℕ) (name : List ℕ) (e : Expr) (table : TableShape) (expr : ShapeExpr) → Begins name e table expr → equal_widths table.columns expr ≡ false → with_constraint k name e table ≡ fault k UnequalWidth
unequal_due k name e table expr b w = constraint_due k name e table expr b ∙ rw w refl

pub degree_due : (k : ℕ) (name : List ℕ) (e : Expr) (table : TableShape) (expr : ShapeExpr) → Begins name e table expr → equal_widths table.columns expr ≡ true → 8 < degree expr → with_constraint k name e table ≡ fault k DegreeTooHigh
degree_due k name e table expr b w high = let t = lt-ltb 8 (degree expr) high in constraint_due k name e table expr b ∙ rw (w, t) refl

pub passed_due : (k : ℕ) (name : List ℕ) (e : Expr) (table : TableShape) (expr : ShapeExpr) → Begins name e table expr → equal_widths table.columns expr ≡ true → degree expr ≤ 8
    → with_constraint k name e table ≡ Ok (with_constraints table (constraint name table.columns expr ∷ []))
passed_due k name e table expr b w low = let t = le-ltb 8 (degree expr) low in constraint_due k name e table expr b ∙ rw (w, t) refl

pub widths_are : (columns cs ds : List ColumnShape) (expr : ShapeExpr) (v : ℕ) (b : Bool) → cs ≡ columns → v ≡ width cs expr → ds ≡ columns → b ≡ has_width ds v expr → equal_widths columns expr ≡ b
widths_are columns cs ds expr v b p e q h =
    let wide = e ∙ ap (λ (xs : List ColumnShape). width xs expr) p in
    ap (λ (u : ℕ). has_width columns u expr) (sym wide) ∙ ap (λ (xs : List ColumnShape). has_width xs v expr) (sym q) ∙ sym h

pub fits : (columns : List ColumnShape) (name : List ℕ) (expr : ShapeExpr) → width columns expr ≤ 7 → equal_widths columns expr ≡ true → degree expr ≤ 8 → ConstraintFits columns (constraint name columns expr)
fits columns name expr v w low = record { log_values = v; equal_width = w; degree_is = refl; low = low }

pub constraint_is : (name n : List ℕ) (columns cs : List ColumnShape) (expr : ShapeExpr) (v d : ℕ) → n ≡ name → cs ≡ columns → v ≡ width cs expr → d ≡ degree expr
    → record { name = n; log_values = v; degree = d; expr = expr } ≡ constraint name columns expr
constraint_is name n columns cs expr v d e p h g =
    let wide = h ∙ ap (λ (xs : List ColumnShape). width xs expr) p in
    λ i. record { name = e i; log_values = wide i; degree = g i; expr = expr }

pub push_is : (table : TableShape) (constraints : List ConstraintShape) (x y : ConstraintShape) → constraints ≡ table.constraints ++ x ∷ [] → x ≡ y → with_constraints table (y ∷ []) ≡ record table { constraints = constraints }
push_is table constraints x y e p = let h = e ∙ ap (λ (c : ConstraintShape). table.constraints ++ c ∷ []) p in λ i. record table { constraints = sym h i }
