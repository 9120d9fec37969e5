-- A virtual column more, by its form's names and checks.
use Rattle.std.proofs.Common.{◌≡◌, ℕ, ◌<◌, ltb, false, length, List, [], ◌∷◌, Option, Some, None, ◌++◌, Result, Ok, Err, refl, sym, ◌∙◌, ap, subst}
use Rattle.std.specs.List.{list_any}
use Rattle.std.specs.Result.{IsErrAnd}
use Rattle.std.specs.Str.{bytes_eq}
use Rattle.std.proofs.lemmas.Bool.{lt-leb}
use Rattle.table_text.specs.declared.decl.VirtualForm.{VirtualForm}
use Rattle.table_shape.specs.declared.fault.ShapeFault.{ShapeFault}
use Rattle.table_shape.specs.declared.fault.ShapeKind.{ShapeKind}
use Rattle.table_shape.specs.declared.fault.ShapeStop.{ShapeStop}
use Rattle.table_shape.specs.declared.fault.ShapeStop.TheVariants as stop
use Rattle.table_shape.specs.declared.shape.ColumnKind.TheVariants.{Virtual}
use Rattle.table_shape.specs.declared.shape.ColumnShape.{ColumnShape}
use Rattle.table_shape.specs.declared.shape.ShapeForm.{ShapeForm}
use Rattle.table_shape.specs.declared.shape.TableShape.{TableShape}
use Rattle.list_laws.specs.AndThen.{◌>>=◌}
use Rattle.table_shape.specs.Checked.{IsChecked, checked, checked_form}
use Rattle.table_shape.specs.Shape.{first_fault, form_checks, terms_of, resolved_form, form_level, form_log_values, with_form, with_resolved_form, with_virtual}
use Rattle.table_shape.specs.ShapeGives.{Gives, Refuses}
use Rattle.table_shape.proofs.FormFits.{virtual_column}
use Rattle.table_shape.proofs.FitsSteps.{with_columns}

-- the table with a column of a form
abbrev pub with_virtual_column : List ℕ → TableShape → ShapeForm → TableShape
with_virtual_column name table f = with_columns table (virtual_column name table.columns f ∷ [])

checked_is : (k : ℕ) (name : List ℕ) (table : TableShape) (f : ShapeForm) (o : Option ShapeKind) → with_form k name table f o ≡ (checked k o f >>= (λ g. Ok (with_virtual_column name table g)))
checked_is k name table f None = refl
checked_is k name table f (Some kind) = refl

pub with_form_is : (k : ℕ) (name : List ℕ) (table : TableShape) (o : Option ShapeForm) → with_resolved_form k name table o ≡ (checked_form k table.columns o >>= (λ f. Ok (with_virtual_column name table f)))
with_form_is k name table None = refl
with_form_is k name table (Some f) = checked_is k name table f (first_fault (form_checks table.columns f))

checked_passed : (k : ℕ) (o : Option ShapeKind) (f g : ShapeForm) → checked k o f ≡ Ok g → (o ≡ None) × (f ≡ g)
checked_passed k (Some kind) f g e = absurd cc
checked_passed k None f g e = (refl, cc)

-- what a form that passes is
pub record Passed (columns : List ColumnShape) (o : Option ShapeForm) (f : ShapeForm) : Type 0 where
  pub known : o ≡ Some f
  pub checked : IsChecked columns f

pub form_passed : (k : ℕ) (columns : List ColumnShape) (o : Option ShapeForm) (f : ShapeForm) → checked_form k columns o ≡ Ok f → Passed columns o f
form_passed k columns None f e = absurd cc
form_passed k columns (Some g) f e =
    let p = checked_passed k (first_fault (form_checks columns g)) g f e in
    record { known = λ i. Some (p.1 i); checked = subst (λ (h : ShapeForm). IsChecked columns h) p.1 p.0 }

-- a refusal stays one through what follows
pub Refuses-bind : {X Y : Type 0} (s : ShapeStop) (r : Result X ShapeFault) (next : X → Result Y ShapeFault) → Refuses s r → Refuses s (r >>= next)
Refuses-bind (stop.Fault fault) r next e = rw e refl
Refuses-bind stop.NoMemory r next e = tt

-- ---- what comes first

pub virtual_due : (k : ℕ) (name : List ℕ) (f : VirtualForm) (table : TableShape) → length table.columns < 256 → ltb 64 (length (terms_of f)) ≡ false → list_any (λ c. bytes_eq name c.name) table.columns ≡ false
    → with_virtual k name f table ≡ (checked_form k table.columns (resolved_form table.columns f) >>= (λ g. Ok (with_virtual_column name table g)))
virtual_due k name f table room few new = let full = lt-leb 256 (length table.columns) room in rw (full, few, new) (with_form_is k name table (resolved_form table.columns f))

-- ---- refusals handed on

pub gives_refusal : {X : Type 0} (r : Result X ShapeStop) (s : ShapeStop) (due : Result X ShapeFault) → IsErrAnd r (λ e. e ≡ s) → Refuses s due → Gives r due
gives_refusal (Ok x) s due h g = absurd h
gives_refusal (Err e) s due h g = subst (λ (t : ShapeStop). Refuses t due) (sym h) g

-- ---- a virtual column made

pub column_is : (name n : List ℕ) (columns cs ds : List ColumnShape) (f : ShapeForm) (l v : ℕ) → n ≡ name → cs ≡ columns → l ≡ form_level cs f → ds ≡ columns → v ≡ form_log_values ds f
    → record { name = n; level = l; log_values = v; kind = Virtual f } ≡ virtual_column name columns f
column_is name n columns cs ds f l v e p h q g =
    let low = h ∙ ap (λ (cs : List ColumnShape). form_level cs f) p in
    let wide = g ∙ ap (λ (cs : List ColumnShape). form_log_values cs f) q in
    λ i. record { name = e i; level = low i; log_values = wide i; kind = Virtual f }

pub push_is : (table : TableShape) (columns : List ColumnShape) (x y : ColumnShape) → columns ≡ table.columns ++ x ∷ [] → x ≡ y → with_columns table (y ∷ []) ≡ record table { columns = columns }
push_is table columns x y e p = let h = e ∙ ap (λ (c : ColumnShape). table.columns ++ c ∷ []) p in λ i. record table { columns = sym h i }
