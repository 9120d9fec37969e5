-- A virtual column's form once its names are known and its checks are through.
-- Source: docs/LANGUAGE.md, "What a file means".
use Rattle.std.specs.Prelude.{◌≡◌, ℕ, List, Option, Some, None, Result, Ok}
use Rattle.table_shape.specs.declared.fault.ShapeFault.{ShapeFault}
use Rattle.table_shape.specs.declared.fault.ShapeKind.{ShapeKind}
use Rattle.table_shape.specs.declared.fault.ShapeKind.TheVariants.{UnknownName}
use Rattle.table_shape.specs.declared.forms.Place.{Place}
use Rattle.table_shape.specs.declared.shape.ColumnShape.{ColumnShape}
use Rattle.table_shape.specs.declared.shape.ShapeForm.{ShapeForm}
use Rattle.list_laws.specs.AndThen.{◌>>=◌}
use Rattle.table_shape.specs.Width.{log_values_at}
use Rattle.table_shape.specs.Shape.{fault, first_fault, block_checks, form_checks}

-- what is found by names, in the declaration numbered k
abbrev pub known : {X : Type 0} → ℕ → Option X → Result X ShapeFault
known k None = fault k UnknownName
known k (Some x) = Ok x

-- what stands where no check holds
abbrev pub checked : {X : Type 0} → ℕ → Option ShapeKind → X → Result X ShapeFault
checked k (Some kind) x = fault k kind
checked k None x = Ok x

-- no check of a form holds
abbrev pub IsChecked : List ColumnShape → ShapeForm → Type 0
IsChecked columns f = first_fault (form_checks columns f) ≡ None

abbrev pub checked_form : ℕ → List ColumnShape → Option ShapeForm → Result ShapeForm ShapeFault
checked_form k columns form = known k form >>= (λ f. checked k (first_fault (form_checks columns f)) f)

-- a place o in the blocks of 2 ^ b values of a column's rows
abbrev pub place_of : ℕ → List ColumnShape → Option ℕ → ℕ → ℕ → Result Place ShapeFault
place_of k columns column b o =
    known k column >>= (λ c. checked k (first_fault (block_checks (log_values_at columns c) b o)) (record { column = c; block = b; offset = o }))
