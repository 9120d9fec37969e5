-- A form whose names are known and whose checks are through is one of the columns before it.
use Rattle.std.proofs.Common.{eqb-true, ◌≡◌, ℕ, zero, suc, ◌+◌, ◌^◌, ◌<◌, ◌≤◌, ◌==◌, ltb, not, Bool, true, false, cond, List, [], ◌∷◌, length, map, Option, Some, None, refl, sym, ◌∙◌, ap, subst, arith}
use Rattle.std.specs.List.{slice_get, list_any, list_all, position_from, AllByRecursion, IsDistinct}
use Rattle.std.specs.Option.{option_map, IsSomeAnd}
use Rattle.std.specs.Str.{bytes_eq}
use Rattle.std.proofs.lemmas.Bool.{ltb-true, ltb-false, or_parts, and_parts}
use Rattle.table_text.specs.declared.decl.Term.{Term}
use Rattle.table_text.specs.declared.decl.VirtualForm.{VirtualForm}
use Rattle.table_text.specs.declared.decl.VirtualForm.TheVariants as virtual
use Rattle.table_shape.specs.declared.fault.ShapeKind.{ShapeKind}
use Rattle.table_shape.specs.declared.shape.ShapeTerm.{ShapeTerm}
use Rattle.table_shape.specs.declared.shape.ShapeForm.{ShapeForm}
use Rattle.table_shape.specs.declared.shape.ShapeForm.TheVariants as form
use Rattle.table_shape.specs.declared.shape.ColumnKind.TheVariants.{Virtual}
use Rattle.table_shape.specs.declared.shape.ColumnShape.{ColumnShape}
use Rattle.table_shape.specs.Width.{log_values_at, terms_width}
use Rattle.table_shape.specs.Forms.{level_at}
use Rattle.table_shape.specs.Shape.{number_of_name, all_some, resolved_term, resolved_form, terms_of, repeats, first_fault, block_checks, form_level, form_log_values}
use Rattle.table_shape.specs.Checked.{IsChecked}
use Rattle.table_shape.specs.Fits.{IsShiftOf, IsPackOf, IsProjectOf, IsLinearOf, IsFormOf, ColumnFits}

-- ---- numbers of names

-- what is found at a place passes the test
pub record FoundAt {X : Type 0} (p : X → Bool) (xs : List X) (i : ℕ) : Type 0 where
  pub item : X
  pub at : slice_get xs i ≡ Some item
  pub passes : p item ≡ true

found_later : {X : Type 0} (p : X → Bool) (y : X) (xs : List X) (i : ℕ) → FoundAt p xs i → FoundAt p (y ∷ xs) (suc i)
found_later p y xs i f = record { item = f.item; at = f.at; passes = f.passes }

found_from : {X : Type 0} (p : X → Bool) (xs : List X) (k c : ℕ) → position_from p k xs ≡ Some c → (i : ℕ) × (c ≡ k + i) × (FoundAt p xs i)
found_from p [] k c e = absurd cc
found_from p (x ∷ xs) k c e =
    elim (p x) as (λ b. p x ≡ b → cond b (Some k) (position_from p (k + 1) xs) ≡ Some c → (i : ℕ) × (c ≡ k + i) × (FoundAt p (x ∷ xs) i)) [
      | true ↦ λ t h. let same : k ≡ c = cc in (0, omega arith, record { item = x; at = refl; passes = t })
      | false ↦ λ t h. let r = found_from p xs (k + 1) c h in (suc r.0, omega arith, found_later p x xs r.0 r.2)
    ] refl e

-- the place of a first member that passes a test
pub position_found : {X : Type 0} (p : X → Bool) (xs : List X) (c : ℕ) → position_from p 0 xs ≡ Some c → FoundAt p xs c
position_found p xs c e =
    let r = found_from p xs 0 c e in
    let same : r.0 ≡ c = omega arith in
    subst (FoundAt p xs) same r.2

pub number_found : (name : List ℕ) (columns : List ColumnShape) (c : ℕ) → number_of_name name columns ≡ Some c → FoundAt (λ (d : ColumnShape). bytes_eq name d.name) columns c
number_found name columns c e = position_found (λ (d : ColumnShape). bytes_eq name d.name) columns c e

pub width_there : (columns : List ColumnShape) (c : ℕ) (column : ColumnShape) → slice_get columns c ≡ Some column → log_values_at columns c ≡ column.log_values
width_there columns c column e = rw (e, log_values_at) refl

pub level_there : (columns : List ColumnShape) (c : ℕ) (column : ColumnShape) → slice_get columns c ≡ Some column → level_at columns c ≡ column.level
level_there columns c column e = rw (e, level_at) refl

-- ---- checks in a row

pub one_passed : (a : Bool) (k : ShapeKind) (r : Option ShapeKind) → cond a (Some k) r ≡ None → (a ≡ false) × (r ≡ None)
one_passed true k r e = absurd cc
one_passed false k r e = (refl, e)

pub not_false : (b : Bool) → not b ≡ false → b ≡ true
not_false true e = refl
not_false false e = absurd cc

pub block_passed : (v b o : ℕ) → first_fault (block_checks v b o) ≡ None → (b ≤ v) × (o < 2 ^ b)
block_passed v b o e =
    let p = one_passed (ltb v b) _ _ e in
    let q = one_passed (not (ltb o (2 ^ b))) _ _ p.1 in
    (ltb-false v b p.0, ltb-true o (2 ^ b) (not_false (ltb o (2 ^ b)) q.0))

-- ---- the six forms

-- a column is there
abbrev pub FoundIn : List ColumnShape → ℕ → Type 0
FoundIn before c = (source : ColumnShape) × (slice_get before c ≡ Some source)

pub option_parts : {X Y : Type 0} (o : Option X) (g : X → Y) (y : Y) → option_map g o ≡ Some y → (x : X) × (o ≡ Some x) × (g x ≡ y)
option_parts None g y e = absurd cc
option_parts (Some x) g y e = (x, refl, cc)

form_parts : (before : List ColumnShape) (name : List ℕ) (g : ℕ → ShapeForm) (f : ShapeForm) → option_map g (number_of_name name before) ≡ Some f → (c : ℕ) × (FoundIn before c) × (g c ≡ f)
form_parts before name g f e =
    let r = option_parts (number_of_name name before) g f e in
    let found = number_found name before r.0 r.1 in
    (r.0, (found.item, found.at), r.2)

pub some_and : {X : Type 0} (P : X → Type 0) (o : Option X) (x : X) → o ≡ Some x → P x → IsSomeAnd o P
some_and {X = X} P o x e h = subst (λ (p : Option X). IsSomeAnd p P) (sym e) h

pub some_parts : {X : Type 0} (P : X → Type 0) (o : Option X) → IsSomeAnd o P → (x : X) × (o ≡ Some x) × P x
some_parts P None h = absurd h
some_parts P (Some x) h = (x, refl, h)

-- a virtual column of this form over the columns before it
abbrev pub virtual_column : List ℕ → List ColumnShape → ShapeForm → ColumnShape
virtual_column name before f = record { name = name; level = form_level before f; log_values = form_log_values before f; kind = Virtual f }

shift_fits : (before : List ColumnShape) (column : ColumnShape) (c b o : ℕ) → FoundIn before c → column.level ≡ level_at before c → column.log_values ≡ log_values_at before c → first_fault (block_checks (log_values_at before c) b o) ≡ None
    → IsSomeAnd (slice_get before c) (λ (source : ColumnShape). IsShiftOf source column b o)
shift_fits before column c b o found l w passed =
    let wide = width_there before c found.0 found.1 in
    let p = block_passed (log_values_at before c) b o passed in
    some_and (λ (source : ColumnShape). IsShiftOf source column b o) (slice_get before c) found.0 found.1
    (record { level_is = l ∙ level_there before c found.0 found.1; log_values_is = w ∙ wide; block_fits = omega arith; offset_fits = p.1 })

pack_fits : (before : List ColumnShape) (name : List ℕ) (c k : ℕ) → FoundIn before c → IsChecked before (form.Pack c k)
    → IsSomeAnd (slice_get before c) (λ (source : ColumnShape). IsPackOf source (virtual_column name before (form.Pack c k)) k)
pack_fits before name c k found passed =
    let wide = width_there before c found.0 found.1 in
    let p = one_passed (ltb (log_values_at before c) k) _ _ passed in
    let fits = ltb-false (log_values_at before c) k p.0 in
    let low = ltb-false 7 (level_at before c + k) (one_passed (ltb 7 (level_at before c + k)) _ _ p.1).0 in
    some_and (λ (source : ColumnShape). IsPackOf source (virtual_column name before (form.Pack c k)) k) (slice_get before c) found.0 found.1
    (record { level_is = ap (λ l. l + k) (level_there before c found.0 found.1); low = low; log_values_is = omega arith })

project_fits : (before : List ColumnShape) (name : List ℕ) (c k j : ℕ) → FoundIn before c → IsChecked before (form.Project c k j)
    → IsSomeAnd (slice_get before c) (λ (source : ColumnShape). IsProjectOf source (virtual_column name before (form.Project c k j)) k j)
project_fits before name c k j found passed =
    let wide = width_there before c found.0 found.1 in
    let p = block_passed (log_values_at before c) k j passed in
    some_and (λ (source : ColumnShape). IsProjectOf source (virtual_column name before (form.Project c k j)) k j) (slice_get before c) found.0 found.1
    (record { level_is = level_there before c found.0 found.1; log_values_is = omega arith; index_fits = p.1 })

-- ---- sums

differ_from : (c : ℕ) (terms : List ShapeTerm) → list_any (λ (t : ShapeTerm). c == t.column) terms ≡ false → AllByRecursion (λ d. (c == d) ≡ false) (map (λ (t : ShapeTerm). t.column) terms)
differ_from c [] e = tt
differ_from c (t ∷ terms) e = let p = or_parts (c == t.column) (list_any (λ (t : ShapeTerm). c == t.column) terms) e in (p.0, differ_from c terms p.1)

columns_differ : (terms : List ShapeTerm) → repeats terms ≡ false → IsDistinct ◌==◌ (map (λ (t : ShapeTerm). t.column) terms)
unfolding IsDistinct
columns_differ [] e = tt
columns_differ (t ∷ terms) e = let p = or_parts (list_any (λ (u : ShapeTerm). t.column == u.column) terms) (repeats terms) e in (differ_from t.column terms p.0, columns_differ terms p.1)

pub all_some_parts : {X : Type 0} (o : Option X) (os : List (Option X)) (xs : List X) → all_some (o ∷ os) ≡ Some xs → (x : X) × (rest : List X) × (o ≡ Some x) × (all_some os ≡ Some rest) × (x ∷ rest ≡ xs)
all_some_parts None os xs e = absurd cc
all_some_parts {X = X} (Some x) os xs e =
    elim (all_some os) as (λ r. all_some os ≡ r → option_map (λ (ys : List X). x ∷ ys) r ≡ Some xs → (y : X) × (rest : List X) × (Some x ≡ Some y) × (all_some os ≡ Some rest) × (y ∷ rest ≡ xs)) [
      | None ↦ λ t h. absurd cc
      | Some rest ↦ λ t h. (x, rest, refl, t, cc)
    ] refl e

term_found : (before : List ColumnShape) (t0 : Term) (t : ShapeTerm) → resolved_term before t0 ≡ Some t → FoundIn before t.column
term_found before t0 t e =
    let r = option_parts (number_of_name t0.column before) (λ (c : ℕ). record { coefficient = t0.coefficient; column = c }) t e in
    let f = number_found t0.column before r.0 r.1 in
    let same : r.0 ≡ t.column = ap (λ (u : ShapeTerm). u.column) r.2 in
    subst (FoundIn before) same (f.item, f.at)

terms_found : (before : List ColumnShape) (ts : List Term) (terms : List ShapeTerm) → all_some (map (resolved_term before) ts) ≡ Some terms → (i : ℕ) (t : ShapeTerm) → slice_get terms i ≡ Some t → FoundIn before t.column
terms_found before [] terms e i t at = let none : [] ≡ terms = cc in absurd (subst (λ (xs : List ShapeTerm). slice_get xs i ≡ Some t → ⊥) none (λ h. cc) at)
terms_found before (t0 ∷ ts) terms e i t at =
    let r = all_some_parts (resolved_term before t0) (map (resolved_term before) ts) terms e in
    term_at before t0 ts r.0 r.1 r.2 (terms_found before ts r.1 r.3) i t (subst (λ (xs : List ShapeTerm). slice_get xs i ≡ Some t) (sym r.4) at)
  where
    term_at : (before : List ColumnShape) (t0 : Term) (ts : List Term) (u : ShapeTerm) (rest : List ShapeTerm) → resolved_term before t0 ≡ Some u → ((i : ℕ) (t : ShapeTerm) → slice_get rest i ≡ Some t → FoundIn before t.column)
        → (i : ℕ) (t : ShapeTerm) → slice_get (u ∷ rest) i ≡ Some t → FoundIn before t.column
    term_at before t0 ts u rest h all zero t at = let same : u ≡ t = cc in subst (λ (v : ShapeTerm). FoundIn before v.column) same (term_found before t0 u h)
    term_at before t0 ts u rest h all (suc i) t at = all i t at

pub terms_are_as_many : (before : List ColumnShape) (ts : List Term) (terms : List ShapeTerm) → all_some (map (resolved_term before) ts) ≡ Some terms → length terms ≡ length ts
terms_are_as_many before [] terms e = let none : [] ≡ terms = cc in ap length (sym none)
terms_are_as_many before (t0 ∷ ts) terms e =
    let r = all_some_parts (resolved_term before t0) (map (resolved_term before) ts) terms e in
    let more = terms_are_as_many before ts r.1 r.3 in
    ap length (sym r.4) ∙ ap suc more

all_at : {X : Type 0} (p : X → Bool) (xs : List X) → list_all p xs ≡ true → (i : ℕ) (x : X) → slice_get xs i ≡ Some x → p x ≡ true
all_at p [] h i x at = absurd cc
all_at p (y ∷ xs) h zero x at = let same : y ≡ x = cc in ap p (sym same) ∙ (and_parts (p y) (list_all p xs) h).0
all_at p (y ∷ xs) h (suc i) x at = all_at p xs (and_parts (p y) (list_all p xs) h).1 i x at

linear_fits : (before : List ColumnShape) (name : List ℕ) (k0 : ℕ) (ts : List Term) (terms : List ShapeTerm) → all_some (map (resolved_term before) ts) ≡ Some terms → length ts ≤ 64 → IsChecked before (form.Linear k0 terms)
    → IsLinearOf before (virtual_column name before (form.Linear k0 terms)) k0 terms
linear_fits before name k0 ts terms e few passed =
    let p = one_passed (repeats terms) _ _ passed in
    let q = one_passed (not (list_all (λ (t : ShapeTerm). log_values_at before t.column == terms_width before terms) terms)) _ _ p.1 in
    let equal = not_false (list_all (λ (t : ShapeTerm). log_values_at before t.column == terms_width before terms) terms) q.0 in
    let many = terms_are_as_many before ts terms e in
    record {
      few = omega arith;
      distinct = columns_differ terms p.0;
      each = λ i t at.
          let f = terms_found before ts terms e i t at in
          some_and (λ (source : ColumnShape). source.log_values ≡ terms_width before terms) (slice_get before t.column) f.0 f.1
          (sym (width_there before t.column f.0 f.1) ∙ eqb-true (log_values_at before t.column) (terms_width before terms) (all_at (λ (t : ShapeTerm). log_values_at before t.column == terms_width before terms) terms equal i t at));
      level_is = refl;
      log_values_is = refl;
    }

pub form_fits : (before : List ColumnShape) (name : List ℕ) (f0 : VirtualForm) (f : ShapeForm) → resolved_form before f0 ≡ Some f → length (terms_of f0) ≤ 64 → IsChecked before f → IsFormOf before (virtual_column name before f) f
form_fits before name (virtual.Shl n b o) f e few passed =
    let r = form_parts before n (λ c. form.Shl c b o) f e in
    subst (λ (f : ShapeForm). IsChecked before f → IsFormOf before (virtual_column name before f) f) r.2 (λ h. shift_fits before (virtual_column name before (form.Shl r.0 b o)) r.0 b o r.1 refl refl h) passed
form_fits before name (virtual.Shr n b o) f e few passed =
    let r = form_parts before n (λ c. form.Shr c b o) f e in
    subst (λ (f : ShapeForm). IsChecked before f → IsFormOf before (virtual_column name before f) f) r.2 (λ h. shift_fits before (virtual_column name before (form.Shr r.0 b o)) r.0 b o r.1 refl refl h) passed
form_fits before name (virtual.Rol n b o) f e few passed =
    let r = form_parts before n (λ c. form.Rol c b o) f e in
    subst (λ (f : ShapeForm). IsChecked before f → IsFormOf before (virtual_column name before f) f) r.2 (λ h. shift_fits before (virtual_column name before (form.Rol r.0 b o)) r.0 b o r.1 refl refl h) passed
form_fits before name (virtual.Pack n k) f e few passed =
    let r = form_parts before n (λ c. form.Pack c k) f e in
    subst (λ (f : ShapeForm). IsChecked before f → IsFormOf before (virtual_column name before f) f) r.2 (λ h. pack_fits before name r.0 k r.1 h) passed
form_fits before name (virtual.Project n k j) f e few passed =
    let r = form_parts before n (λ c. form.Project c k j) f e in
    subst (λ (f : ShapeForm). IsChecked before f → IsFormOf before (virtual_column name before f) f) r.2 (λ h. project_fits before name r.0 k j r.1 h) passed
form_fits before name (virtual.Linear k0 ts) f e few passed =
    let r = option_parts (all_some (map (resolved_term before) ts)) (λ terms. form.Linear k0 terms) f e in
    subst (λ (f : ShapeForm). IsChecked before f → IsFormOf before (virtual_column name before f) f) r.2 (λ h. linear_fits before name k0 ts r.0 r.1 few h) passed

pub virtual_fits : (before : List ColumnShape) (name : List ℕ) (f0 : VirtualForm) (f : ShapeForm) → resolved_form before f0 ≡ Some f → length (terms_of f0) ≤ 64 → IsChecked before f → form_level before f ≤ 7 → form_log_values before f ≤ 7
    → ColumnFits before (virtual_column name before f)
virtual_fits before name f0 f e few passed l v = record { level = l; log_values = v; kind = form_fits before name f0 f e few passed }
