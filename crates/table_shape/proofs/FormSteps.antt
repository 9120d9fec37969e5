-- Checks of a sum, one after the other.
use Rattle.std.proofs.Common.{◌≡◌, ℕ, ◌==◌, Bool, true, false, List, Option, Some, Ok, refl, ap, ◌∙◌}
use Rattle.std.specs.List.{list_all}
use Rattle.std.specs.Option.{option_map}
use Rattle.table_shape.specs.declared.shape.ColumnShape.{ColumnShape}
use Rattle.table_shape.specs.declared.shape.ShapeTerm.{ShapeTerm}
use Rattle.table_shape.specs.declared.shape.ShapeForm.TheVariants as form
use Rattle.table_shape.specs.declared.fault.ShapeKind.TheVariants.{UnequalWidth}
use Rattle.table_shape.specs.Checked.{checked_form}
use Rattle.table_shape.specs.Shape.{fault, repeats}
use Rattle.table_shape.specs.Width.{log_values_at, terms_width}

abbrev pub have_one_width : List ColumnShape → List ShapeTerm → Bool
have_one_width columns terms = list_all (λ (t : ShapeTerm). log_values_at columns t.column == terms_width columns terms) terms

pub linear_ok : (k : ℕ) (columns : List ColumnShape) (k0 : ℕ) (o : Option (List ShapeTerm)) (terms : List ShapeTerm) → o ≡ Some terms → repeats terms ≡ false → have_one_width columns terms ≡ true
    → checked_form k columns (option_map (λ ts. form.Linear k0 ts) o) ≡ Ok (form.Linear k0 terms)
linear_ok k columns k0 o terms h r w = rw (h, r, w) refl

pub linear_unequal : (k : ℕ) (columns : List ColumnShape) (k0 : ℕ) (o : Option (List ShapeTerm)) (terms : List ShapeTerm) → o ≡ Some terms → repeats terms ≡ false → have_one_width columns terms ≡ false
    → checked_form k columns (option_map (λ ts. form.Linear k0 ts) o) ≡ fault k UnequalWidth
linear_unequal k columns k0 o terms h r w = rw (h, r, w) refl

-- each term's column compared with the first one's
pub widths_are : (columns : List ColumnShape) (terms a b : List ShapeTerm) (v : ℕ) (w : Bool) → a ≡ terms → v ≡ terms_width columns a → b ≡ terms
    → w ≡ list_all (λ (t : ShapeTerm). log_values_at columns t.column == v) b → w ≡ have_one_width columns terms
widths_are columns terms a b v w at e bt h =
    h ∙ ap (λ (ts : List ShapeTerm). list_all (λ (t : ShapeTerm). log_values_at columns t.column == v) ts) bt
    ∙ ap (λ (u : ℕ). list_all (λ (t : ShapeTerm). log_values_at columns t.column == u) terms) (e ∙ ap (terms_width columns) at)
