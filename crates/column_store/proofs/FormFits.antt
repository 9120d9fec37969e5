-- What a form reads stands before it, and its values fit their level.
use Rattle.std.proofs.Common.{◌≡◌, ℕ, suc, ◌+◌, ◌-◌, ◌*◌, ◌%◌, ◌^◌, ◌<◌, ◌≤◌, max, leb, ltb, Bool, true, false, cond, List, [], ◌∷◌, length, map, get_or, bit_xor, Option, Some, None, refl, sym, ap, subst, arith}
use Rattle.std.specs.List.{slice_get}
use Rattle.std.specs.Option.{IsSomeAnd}
use Rattle.std.proofs.lemmas.Option.{slice_get_within}
use Rattle.tower_laws.specs.Tower.{mul, level}
use Rattle.tower_laws.specs.Lists.{AllFit, sum_all}
use Rattle.tower_laws.proofs.Levels.{mul_lt, size_mono, level_lt}
use Rattle.tower_laws.proofs.Lists.{xor_fits, get_or_fits, sum_all_fits}
use Rattle.cube_laws.specs.Sums.{sum_to}
use Rattle.cube_laws.proofs.Tabulate.{get_or-tabulate}
use Rattle.shift_laws.specs.Shifts.{Shift, shl, shr, rol, shifted_value}
use Rattle.column_laws.specs.Columns.{packed}
use Rattle.column_laws.proofs.Fits.{packed_fits}
use Rattle.table_shape.specs.Value.{greatest}
use Rattle.table_shape.specs.declared.shape.ShapeTerm.{ShapeTerm}
use Rattle.table_shape.specs.declared.shape.ShapeForm.{ShapeForm}
use Rattle.table_shape.specs.declared.shape.ShapeForm.TheVariants as form
use Rattle.table_shape.specs.declared.shape.ColumnShape.{ColumnShape}
use Rattle.table_shape.specs.Forms.{level_at, form_value, linear_level}
use Rattle.table_shape.specs.Fits.{AreSized, IsShiftOf, IsPackOf, IsProjectOf, IsFormOf}
use Rattle.column_store.specs.Draft.{CanRead}

pub some_and : {X : Type 0} (o : Option X) (P : X → Type 0) → IsSomeAnd o P → (x : X) × (o ≡ Some x) × P x
some_and None P h = absurd h
some_and (Some x) P h = (x, refl, h)

level_is : (columns : List ColumnShape) (c : ℕ) (source : ColumnShape) → slice_get columns c ≡ Some source → level_at columns c ≡ source.level
level_is columns c source e = ap (λ (o : Option ColumnShape). elim o [ Some column ↦ column.level | None ↦ 0 ]) e

-- ---- what a form reads

pub can_read : (before : List ColumnShape) (column : ColumnShape) (f : ShapeForm) → AreSized before → column.level ≤ 7 → IsFormOf before column f → CanRead before f
can_read before column (form.Shl c b o) sized h is =
    let s = some_and (slice_get before c) (λ (source : ColumnShape). IsShiftOf source column b o) is in
    (slice_get_within before c s.0 s.1, omega (arith, s.2.block_fits, (sized c s.0 s.1).1))
can_read before column (form.Shr c b o) sized h is =
    let s = some_and (slice_get before c) (λ (source : ColumnShape). IsShiftOf source column b o) is in
    (slice_get_within before c s.0 s.1, omega (arith, s.2.block_fits, (sized c s.0 s.1).1))
can_read before column (form.Rol c b o) sized h is =
    let s = some_and (slice_get before c) (λ (source : ColumnShape). IsShiftOf source column b o) is in
    (slice_get_within before c s.0 s.1, omega (arith, s.2.block_fits, (sized c s.0 s.1).1))
can_read before column (form.Pack c k) sized h is =
    let s = some_and (slice_get before c) (λ (source : ColumnShape). IsPackOf source column k) is in
    (slice_get_within before c s.0 s.1, omega (arith, level_is before c s.0 s.1, s.2.level_is, h))
can_read before column (form.Project c k j) sized h is =
    let s = some_and (slice_get before c) (λ (source : ColumnShape). IsProjectOf source column k j) is in
    (slice_get_within before c s.0 s.1, omega (arith, s.2.log_values_is, (sized c s.0 s.1).1))
can_read before column (form.Linear k0 terms) sized h is = λ i term e.
    let s = some_and (slice_get before term.column) (λ (source : ColumnShape). source.log_values ≡ column.log_values) (is.each i term e) in
    slice_get_within before term.column s.0 s.1

-- ---- a form's values by what it reads

same_terms : (n : ℕ) (u v : ℕ → List ℕ) (terms : List ShapeTerm) (p : ℕ) → ((k : ℕ) → k < n → u k ≡ v k) → ((i : ℕ) (term : ShapeTerm) → slice_get terms i ≡ Some term → term.column < n)
    → map (λ (t : ShapeTerm). mul t.coefficient (get_or (u t.column) p 0)) terms ≡ map (λ (t : ShapeTerm). mul t.coefficient (get_or (v t.column) p 0)) terms
same_terms n u v [] p same below = refl
same_terms n u v (t ∷ terms) p same below =
    let first = same t.column (below 0 t refl) in
    let rest = same_terms n u v terms p same (λ i term e. below (suc i) term e) in
    λ i. mul t.coefficient (get_or (first i) p 0) ∷ rest i

-- by the columns before it, and by more columns
pub same_form : (before columns : List ColumnShape) (u v : ℕ → List ℕ) (f : ShapeForm) (p : ℕ) → ((k : ℕ) → k < length before → slice_get columns k ≡ slice_get before k) → ((k : ℕ) → k < length before → u k ≡ v k) → CanRead before f
    → form_value columns u f p ≡ form_value before v f p
same_form before columns u v (form.Shl c b o) p shapes same reads = ap (λ xs. shifted_value shl b o xs p) (same c reads.0)
same_form before columns u v (form.Shr c b o) p shapes same reads = ap (λ xs. shifted_value shr b o xs p) (same c reads.0)
same_form before columns u v (form.Rol c b o) p shapes same reads = ap (λ xs. shifted_value rol b o xs p) (same c reads.0)
same_form before columns u v (form.Pack c k) p shapes same reads =
    let levels : level_at columns c ≡ level_at before c = ap (λ (o : Option ColumnShape). elim o [ Some column ↦ column.level | None ↦ 0 ]) (shapes c reads.0) in
    let lists = same c reads.0 in
    λ i. sum_to (2 ^ k) (λ x. mul (2 ^ (x * 2 ^ levels i)) (get_or (lists i) (p * 2 ^ k + x) 0))
same_form before columns u v (form.Project c k j) p shapes same reads = ap (λ xs. get_or xs (p * 2 ^ k + j) 0) (same c reads.0)
same_form before columns u v (form.Linear k0 terms) p shapes same reads = ap (λ ts. bit_xor k0 (sum_all ts)) (same_terms (length before) u v terms p same reads)

-- ---- levels

all_fit_from : (i : ℕ) (xs : List ℕ) → ((p : ℕ) → get_or xs p 0 < 2 ^ (2 ^ i)) → AllFit i xs
all_fit_from i [] h = tt
all_fit_from i (x ∷ xs) h = (h 0, all_fit_from i xs (λ p. h (suc p)))

cond_fits : (b : Bool) (x n : ℕ) → x < n → cond b x 0 < n
cond_fits true x n h = h
cond_fits false x n h = omega arith

shift_fits : (s : Shift) (b o i p : ℕ) (xs : List ℕ) → ((q : ℕ) → get_or xs q 0 < 2 ^ (2 ^ i)) → shifted_value s b o xs p < 2 ^ (2 ^ i)
shift_fits shl b o i p xs h = cond_fits (leb o (p % 2 ^ b)) (get_or xs (p - o) 0) (2 ^ (2 ^ i)) (h (p - o))
shift_fits shr b o i p xs h = cond_fits (ltb (p % 2 ^ b + o) (2 ^ b)) (get_or xs (p + o) 0) (2 ^ (2 ^ i)) (h (p + o))
shift_fits rol b o i p xs h = h (p - p % 2 ^ b + (p % 2 ^ b + (2 ^ b - o % 2 ^ b)) % 2 ^ b)

pack_fits : (i k p : ℕ) (xs : List ℕ) → ((q : ℕ) → get_or xs q 0 < 2 ^ (2 ^ i)) → sum_to (2 ^ k) (λ u. mul (2 ^ (u * 2 ^ i)) (get_or xs (p * 2 ^ k + u) 0)) < 2 ^ (2 ^ (i + k))
pack_fits i k p xs h =
    let f : ℕ → ℕ = λ x. sum_to (2 ^ k) (λ u. mul (2 ^ (u * 2 ^ i)) (get_or xs (x * 2 ^ k + u) 0)) in
    let all = packed_fits i k (p + 1) xs (all_fit_from i xs h) in
    subst (λ n. n < 2 ^ (2 ^ (i + k))) (get_or-tabulate (p + 1) p f (omega arith)) (get_or_fits (i + k) p (packed i k (p + 1) xs) all)

-- the values of columns fit their levels
abbrev pub ListsFit : List ColumnShape → (ℕ → List ℕ) → Type 0
ListsFit columns values = (k : ℕ) (source : ColumnShape) → slice_get columns k ≡ Some source → (p : ℕ) → get_or (values k) p 0 < 2 ^ (2 ^ source.level)

terms_fit : (before : List ColumnShape) (values : ℕ → List ℕ) (l : ℕ) (terms : List ShapeTerm) (p : ℕ) → ListsFit before values → ((i : ℕ) (term : ShapeTerm) → slice_get terms i ≡ Some term → (source : ColumnShape) × (slice_get before term.column ≡ Some source))
    → greatest (map (λ (t : ShapeTerm). max (level t.coefficient) (level_at before t.column)) terms) ≤ l → AllFit l (map (λ (t : ShapeTerm). mul t.coefficient (get_or (values t.column) p 0)) terms)
terms_fit before values l [] p fit each h = tt
terms_fit before values l (t ∷ terms) p fit each h =
    let s = each 0 t refl in
    let is = level_is before t.column s.0 s.1 in
    let value = fit t.column s.0 s.1 p in (
      mul_lt l t.coefficient (get_or (values t.column) p 0)
          (size_mono (level t.coefficient) l t.coefficient (omega arith) (level_lt t.coefficient))
          (size_mono s.0.level l (get_or (values t.column) p 0) (omega arith) value),
      terms_fit before values l terms p fit (λ i term e. each (suc i) term e) (omega arith),
    )

pub form_fits : (before : List ColumnShape) (column : ColumnShape) (values : ℕ → List ℕ) (f : ShapeForm) (p : ℕ) → ListsFit before values → IsFormOf before column f → form_value before values f p < 2 ^ (2 ^ column.level)
form_fits before column values (form.Shl c b o) p fit is =
    let s = some_and (slice_get before c) (λ (source : ColumnShape). IsShiftOf source column b o) is in
    subst (λ l. shifted_value shl b o (values c) p < 2 ^ (2 ^ l)) (sym s.2.level_is) (shift_fits shl b o s.0.level p (values c) (fit c s.0 s.1))
form_fits before column values (form.Shr c b o) p fit is =
    let s = some_and (slice_get before c) (λ (source : ColumnShape). IsShiftOf source column b o) is in
    subst (λ l. shifted_value shr b o (values c) p < 2 ^ (2 ^ l)) (sym s.2.level_is) (shift_fits shr b o s.0.level p (values c) (fit c s.0 s.1))
form_fits before column values (form.Rol c b o) p fit is =
    let s = some_and (slice_get before c) (λ (source : ColumnShape). IsShiftOf source column b o) is in
    subst (λ l. shifted_value rol b o (values c) p < 2 ^ (2 ^ l)) (sym s.2.level_is) (shift_fits rol b o s.0.level p (values c) (fit c s.0 s.1))
form_fits before column values (form.Pack c k) p fit is =
    let s = some_and (slice_get before c) (λ (source : ColumnShape). IsPackOf source column k) is in
    let from = level_is before c s.0 s.1 in
    let F : ℕ → ℕ → Type 0 = λ i l. sum_to (2 ^ k) (λ u. mul (2 ^ (u * 2 ^ i)) (get_or (values c) (p * 2 ^ k + u) 0)) < 2 ^ (2 ^ l) in
    subst (λ l. F (level_at before c) l) (sym s.2.level_is) (subst (λ i. F i (s.0.level + k)) (sym from) (pack_fits s.0.level k p (values c) (fit c s.0 s.1)))
form_fits before column values (form.Project c k j) p fit is =
    let s = some_and (slice_get before c) (λ (source : ColumnShape). IsProjectOf source column k j) is in
    subst (λ l. get_or (values c) (p * 2 ^ k + j) 0 < 2 ^ (2 ^ l)) (sym s.2.level_is) (fit c s.0 s.1 (p * 2 ^ k + j))
form_fits before column values (form.Linear k0 terms) p fit is =
    let l : ℕ = linear_level before k0 terms in
    let f : ShapeTerm → ℕ = λ (t : ShapeTerm). mul t.coefficient (get_or (values t.column) p 0) in
    let each : (i : ℕ) (term : ShapeTerm) → slice_get terms i ≡ Some term → (source : ColumnShape) × (slice_get before term.column ≡ Some source) =
    λ i term e. (let s = some_and (slice_get before term.column) (λ (source : ColumnShape). source.log_values ≡ column.log_values) (is.each i term e) in (s.0, s.1)) in
    let g : ℕ = greatest (map (λ (t : ShapeTerm). max (level t.coefficient) (level_at before t.column)) terms) in
    let all = terms_fit before values l terms p fit each (right (level k0) g) in
    let constant = size_mono (level k0) l k0 (left (level k0) g) (level_lt k0) in
    subst (λ n. bit_xor k0 (sum_all (map f terms)) < 2 ^ (2 ^ n)) (sym is.level_is) (xor_fits l k0 (sum_all (map f terms)) constant (sum_all_fits l (map f terms) all))
  where
    left : (a b : ℕ) → a ≤ max a b
    left a b = omega arith

    right : (a b : ℕ) → b ≤ max a b
    right a b = omega arith
