-- Widths of expressions where columns are added at the end.
use Rattle.std.proofs.Common.{◌≡◌, ℕ, zero, suc, ◌==◌, Bool, true, false, List, [], ◌∷◌, ◌++◌, map, Option, Some, None, refl, sym, ◌∙◌, ap, subst}
use Rattle.std.specs.List.{list_all, slice_get}
use Rattle.std.proofs.lemmas.Bool.{and_parts, and_from}
use Rattle.table_shape.specs.declared.shape.ColumnShape.{ColumnShape}
use Rattle.table_shape.specs.declared.shape.ShapeExpr.{ShapeExpr}
use Rattle.table_shape.specs.declared.shape.ShapeExpr.TheOpen.{ShapeExpr-F}
use Rattle.table_shape.specs.declared.shape.ShapeExpr.TheFolds.{map-ShapeExpr, fold-roll-ShapeExpr, ind-ShapeExpr}
use Rattle.table_shape.specs.Width.{has_width, has_width_step}

pub slice_get_more : {X : Type 0} (xs more : List X) (i : ℕ) (x : X) → slice_get xs i ≡ Some x → slice_get (xs ++ more) i ≡ Some x
slice_get_more [] more i x e = absurd cc
slice_get_more (y ∷ xs) more zero x e = e
slice_get_more (y ∷ xs) more (suc i) x e = slice_get_more xs more i x e

abbrev Stays : List ColumnShape → List ColumnShape → ℕ → ShapeExpr → Type 0
Stays columns more v e = has_width columns v e ≡ true → has_width (columns ++ more) v e ≡ true

-- an expression whose width stays
abbrev Staying : List ColumnShape → List ColumnShape → ℕ → Type 0
Staying columns more v = (e : ShapeExpr) × Stays columns more v e

parts_stay : (columns more : List ColumnShape) (v : ℕ) (es : List (Staying columns more v)) → list_all (λ b. b) (map (has_width columns v) (map (λ e. e.0) es)) ≡ true
    → list_all (λ b. b) (map (has_width (columns ++ more) v) (map (λ e. e.0) es)) ≡ true
parts_stay columns more v [] h = refl
parts_stay columns more v (e ∷ es) h =
    let p = and_parts (has_width columns v e.0) (list_all (λ b. b) (map (has_width columns v) (map (λ e. e.0) es))) h in
    and_from (has_width (columns ++ more) v e.0) (list_all (λ b. b) (map (has_width (columns ++ more) v) (map (λ e. e.0) es))) (e.1 p.0) (parts_stay columns more v es p.1)

-- a column's test, where the column is there
abbrev column_test : ℕ → Option ColumnShape → Bool
column_test v o = elim o [ Some column ↦ column.log_values == v | None ↦ false ]

column_stays : (columns more : List ColumnShape) (v k : ℕ) (o : Option ColumnShape) → slice_get columns k ≡ o → column_test v o ≡ true → column_test v (slice_get (columns ++ more) k) ≡ true
column_stays columns more v k None e h = absurd cc
column_stays columns more v k (Some column) e h = ap (column_test v) (slice_get_more columns more k column e) ∙ h

abbrev widths : List ColumnShape → ℕ → ShapeExpr-F ShapeExpr → Bool
widths columns v x = has_width_step columns v (map-ShapeExpr ShapeExpr Bool (has_width columns v) x)

layer_stays : (columns more : List ColumnShape) (v : ℕ) (y : ShapeExpr-F (Staying columns more v)) → widths columns v (map-ShapeExpr (Staying columns more v) ShapeExpr (λ e. e.0) y) ≡ true
    → widths (columns ++ more) v (map-ShapeExpr (Staying columns more v) ShapeExpr (λ e. e.0) y) ≡ true
layer_stays columns more v (ShapeExpr-F.Number n) h = refl
layer_stays columns more v (ShapeExpr-F.Column k) h = column_stays columns more v k (slice_get columns k) refl h
layer_stays columns more v (ShapeExpr-F.Sum parts) h = parts_stay columns more v parts h
layer_stays columns more v (ShapeExpr-F.Product parts) h = parts_stay columns more v parts h

pub has_width_more : (columns more : List ColumnShape) (v : ℕ) (e : ShapeExpr) → Stays columns more v e
has_width_more columns more v = ind-ShapeExpr (Stays columns more v) (λ x y is h.
    let here : widths columns v x ≡ true = sym (fold-roll-ShapeExpr Bool (has_width_step columns v) x) ∙ h in
    let stays = layer_stays columns more v y (subst (λ (z : ShapeExpr-F ShapeExpr). widths columns v z ≡ true) (sym is) here) in
    fold-roll-ShapeExpr Bool (has_width_step (columns ++ more) v) x ∙ subst (λ (z : ShapeExpr-F ShapeExpr). widths (columns ++ more) v z ≡ true) is stays)
