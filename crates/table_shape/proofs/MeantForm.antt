-- A virtual column that is one of those before it passes its checks.
use Rattle.std.proofs.Common.{eq-eqb, ◌≡◌, ℕ, suc, ◌+◌, ◌^◌, ◌<◌, ◌≤◌, ◌==◌, ◌||◌, ltb, leb, Bool, true, false, List, [], ◌∷◌, length, map, Some, None, Ok, refl, sym, ◌∙◌, ap, subst, arith}
use Rattle.std.specs.List.{slice_get, list_any, list_all, AllByRecursion, IsDistinct}
use Rattle.std.specs.Option.{IsSomeAnd}
use Rattle.std.specs.Str.{bytes_eq}
use Rattle.std.proofs.lemmas.Bool.{lt-ltb, le-ltb, lt-leb, or_from, and_from}
use Rattle.table_text.specs.declared.decl.VirtualForm.{VirtualForm}
use Rattle.table_text.specs.declared.decl.VirtualForm.TheVariants as virtual
use Rattle.table_shape.specs.declared.fault.ShapeKind.TheVariants.{DoubleName, TooMany}
use Rattle.table_shape.specs.declared.shape.ColumnShape.{ColumnShape}
use Rattle.table_shape.specs.declared.shape.ShapeTerm.{ShapeTerm}
use Rattle.table_shape.specs.declared.shape.ShapeForm.{ShapeForm}
use Rattle.table_shape.specs.declared.shape.ShapeForm.TheVariants as form
use Rattle.table_shape.specs.declared.shape.TableShape.{TableShape}
use Rattle.table_shape.specs.Width.{log_values_at, terms_width}
use Rattle.table_shape.specs.Forms.{level_at}
use Rattle.table_shape.specs.Fits.{IsShiftOf, IsPackOf, IsProjectOf, IsLinearOf, IsFormOf}
use Rattle.table_shape.specs.Checked.{IsChecked}
use Rattle.table_shape.specs.Shape.{resolved_form, terms_of, repeats, first_fault, block_checks, form_level, form_log_values, with_form, with_resolved_form, with_virtual}
use Rattle.table_shape.specs.ShapeMeaning.{IsVirtual}
use Rattle.table_shape.proofs.FitsSteps.{with_columns}
use Rattle.table_shape.proofs.FormFits.{virtual_column, width_there, level_there, some_parts, option_parts, terms_are_as_many}
use Rattle.table_shape.proofs.Passed.{IsFree, both_pass}

block_pass : (v b o : ℕ) → b ≤ v → o < 2 ^ b → first_fault (block_checks v b o) ≡ None
block_pass v b o h k = rw (le-ltb v b h, lt-ltb o (2 ^ b) k) refl

-- a form's checks are through, and the column's sizes are the form's
pub record FormIs (before : List ColumnShape) (column : ColumnShape) (f : ShapeForm) : Type 0 where
  pub checked : IsChecked before f
  pub level_is : column.level ≡ form_level before f
  pub log_values_is : column.log_values ≡ form_log_values before f

record ShiftIs (before : List ColumnShape) (column : ColumnShape) (c b o : ℕ) : Type 0 where
  checked : first_fault (block_checks (log_values_at before c) b o) ≡ None
  level_is : column.level ≡ level_at before c
  log_values_is : column.log_values ≡ log_values_at before c

shift_is : (before : List ColumnShape) (column : ColumnShape) (c b o : ℕ) → IsSomeAnd (slice_get before c) (λ (source : ColumnShape). IsShiftOf source column b o) → ShiftIs before column c b o
shift_is before column c b o h =
    let s = some_parts (λ (source : ColumnShape). IsShiftOf source column b o) (slice_get before c) h in
    let wide = width_there before c s.0 s.1 in
    let fits = s.2.block_fits in
    record { checked = block_pass (log_values_at before c) b o (omega arith) s.2.offset_fits; level_is = s.2.level_is ∙ sym (level_there before c s.0 s.1); log_values_is = s.2.log_values_is ∙ sym wide }

pack_is : (before : List ColumnShape) (column : ColumnShape) (c k : ℕ) → IsSomeAnd (slice_get before c) (λ (source : ColumnShape). IsPackOf source column k) → FormIs before column (form.Pack c k)
pack_is before column c k h =
    let s = some_parts (λ (source : ColumnShape). IsPackOf source column k) (slice_get before c) h in
    let wide = width_there before c s.0 s.1 in
    let level = level_there before c s.0 s.1 in
    let fits = s.2 in
    let low : level_at before c + k ≤ 7 = omega (arith, fits.low, fits.level_is, level) in
    let within : k ≤ log_values_at before c = omega (arith, fits.log_values_is, wide) in
    record {
      checked = rw (le-ltb (log_values_at before c) k within, le-ltb 7 (level_at before c + k) low) refl;
      level_is = omega (arith, fits.level_is, level);
      log_values_is = omega (arith, fits.log_values_is, wide);
    }

project_is : (before : List ColumnShape) (column : ColumnShape) (c k j : ℕ) → IsSomeAnd (slice_get before c) (λ (source : ColumnShape). IsProjectOf source column k j) → FormIs before column (form.Project c k j)
project_is before column c k j h =
    let s = some_parts (λ (source : ColumnShape). IsProjectOf source column k j) (slice_get before c) h in
    let wide = width_there before c s.0 s.1 in
    let fits = s.2 in
    record {
      checked = block_pass (log_values_at before c) k j (omega (arith, fits.log_values_is, wide)) fits.index_fits;
      level_is = fits.level_is ∙ sym (level_there before c s.0 s.1);
      log_values_is = omega (arith, fits.log_values_is, wide);
    }

-- ---- sums

new_from : (c : ℕ) (terms : List ShapeTerm) → AllByRecursion (λ d. (c == d) ≡ false) (map (λ (t : ShapeTerm). t.column) terms) → list_any (λ (t : ShapeTerm). c == t.column) terms ≡ false
new_from c [] h = refl
new_from c (t ∷ terms) h = or_from (c == t.column) (list_any (λ (t : ShapeTerm). c == t.column) terms) h.0 (new_from c terms h.1)

no_repeat : (terms : List ShapeTerm) → IsDistinct ◌==◌ (map (λ (t : ShapeTerm). t.column) terms) → repeats terms ≡ false
unfolding IsDistinct
no_repeat [] h = refl
no_repeat (t ∷ terms) h = or_from (list_any (λ (u : ShapeTerm). t.column == u.column) terms) (repeats terms) (new_from t.column terms h.0) (no_repeat terms h.1)

all_from : {X : Type 0} (p : X → Bool) (xs : List X) → ((i : ℕ) (x : X) → slice_get xs i ≡ Some x → p x ≡ true) → list_all p xs ≡ true
all_from p [] h = refl
all_from p (x ∷ xs) h = and_from (p x) (list_all p xs) (h 0 x refl) (all_from p xs (λ i y at. h (suc i) y at))

linear_is : (before : List ColumnShape) (column : ColumnShape) (k0 : ℕ) (terms : List ShapeTerm) → IsLinearOf before column k0 terms → FormIs before column (form.Linear k0 terms)
linear_is before column k0 terms h =
    let equal : list_all (λ (t : ShapeTerm). log_values_at before t.column == terms_width before terms) terms ≡ true = all_from (λ (t : ShapeTerm). log_values_at before t.column == terms_width before terms) terms (λ i t at.
    let s = some_parts (λ (source : ColumnShape). source.log_values ≡ column.log_values) (slice_get before t.column) (h.each i t at) in
    eq-eqb (log_values_at before t.column) (terms_width before terms) (width_there before t.column s.0 s.1 ∙ s.2 ∙ h.log_values_is)) in
    record { checked = rw (no_repeat terms h.distinct, equal) refl; level_is = h.level_is; log_values_is = h.log_values_is }

-- ---- all forms

pub form_is : (before : List ColumnShape) (column : ColumnShape) (f : ShapeForm) → IsFormOf before column f → FormIs before column f
form_is before column (form.Shl c b o) h = let s = shift_is before column c b o h in record { checked = s.checked; level_is = s.level_is; log_values_is = s.log_values_is }
form_is before column (form.Shr c b o) h = let s = shift_is before column c b o h in record { checked = s.checked; level_is = s.level_is; log_values_is = s.log_values_is }
form_is before column (form.Rol c b o) h = let s = shift_is before column c b o h in record { checked = s.checked; level_is = s.level_is; log_values_is = s.log_values_is }
form_is before column (form.Pack c k) h = pack_is before column c k h
form_is before column (form.Project c k j) h = project_is before column c k j h
form_is before column (form.Linear k0 terms) h = linear_is before column k0 terms h

-- a form has no more terms than its limit
few_terms : (before : List ColumnShape) (column : ColumnShape) (f0 : VirtualForm) (f : ShapeForm) → resolved_form before f0 ≡ Some f → IsFormOf before column f → length (terms_of f0) ≤ 64
few_terms before column (virtual.Shl n b o) f e h = omega arith
few_terms before column (virtual.Shr n b o) f e h = omega arith
few_terms before column (virtual.Rol n b o) f e h = omega arith
few_terms before column (virtual.Pack n k) f e h = omega arith
few_terms before column (virtual.Project n k j) f e h = omega arith
few_terms before column (virtual.Linear k0 ts) f e h =
    let r = option_parts _ (λ terms. form.Linear k0 terms) f e in
    let linear : IsLinearOf before column k0 r.0 = subst (λ (g : ShapeForm). IsFormOf before column g) (sym r.2) h in
    let many = terms_are_as_many before ts r.0 r.1 in
    omega (arith, linear.few)

column_is : (before : List ColumnShape) (name : List ℕ) (f0 : VirtualForm) (column : ColumnShape) (v : IsVirtual before name f0 column) → virtual_column name before v.form ≡ column
column_is before name f0 column v =
    let f = form_is before column v.form v.fits in
    λ i. record { name = sym v.name_is i; level = sym f.level_is i; log_values = sym f.log_values_is i; kind = sym v.kind_is i }

pub virtual_read : (k : ℕ) (name : List ℕ) (f0 : VirtualForm) (table : TableShape) (column : ColumnShape) → IsFree name table.columns → IsVirtual table.columns name f0 column → with_virtual k name f0 table ≡ Ok (with_columns table (column ∷ []))
virtual_read k name f0 table column free v =
    let few = few_terms table.columns column f0 v.form v.form_is v.fits in
    let f = form_is table.columns column v.form v.fits in
    both_pass (leb 256 (length table.columns) || ltb 64 (length (terms_of f0))) (list_any (λ c. bytes_eq name c.name) table.columns) (record { item = k; kind = TooMany }) (record { item = k; kind = DoubleName })
    (with_resolved_form k name table (resolved_form table.columns f0))
    (or_from (leb 256 (length table.columns)) (ltb 64 (length (terms_of f0))) (lt-leb 256 (length table.columns) free.room) (le-ltb 64 (length (terms_of f0)) few)) free.new
    ∙ ap (with_resolved_form k name table) v.form_is
    ∙ ap (with_form k name table v.form) f.checked
    ∙ ap (λ (c : ColumnShape). Ok (with_columns table (c ∷ []))) (column_is table.columns name f0 column v)
