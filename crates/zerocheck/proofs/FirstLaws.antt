-- The first state of a group says that its constraints are 0 on the rows.
use Rattle.std.proofs.Common.{◌≡◌, ◌∙◌, ℕ, zero, suc, ◌+◌, ◌*◌, ◌/◌, ◌%◌, ◌^◌, ◌<◌, ◌≤◌, ◌==◌, ◌||◌, ltb, Bool, true, false, cond, List, [], ◌∷◌, length, map, get_or, slice_index, slice_get, Option, Some, None, option_and_then, refl, sym, ap, subst, arith}
use Rattle.std.specs.List.{AllByRecursion, filter, list_all, list_any}
use Rattle.std.proofs.lemmas.Bool.{and_parts, eqb-true, eq-eqb, lt-ltb, ltb-true, or_left, or_right}
use Rattle.std.proofs.lemmas.Nat.{pow-add}
use Rattle.std.proofs.Math.Nat.{div-add-mod, div-lt_iff_lt-mul, le-max_left, le-max_right, mul-le-mul_right}
use Rattle.counting_laws.proofs.Bounds.{AllByRecursion-weaker}
use Rattle.tower_laws.specs.Tower.{mul}
use Rattle.tower_laws.proofs.Field.{identity, field_terms}
use Rattle.tower_laws.proofs.Rules.{zero_times, times_zero}
use Rattle.cube_laws.specs.Sums.{tabulate}
use Rattle.cube_laws.specs.Form.{Form, value, degree}
use Rattle.cube_laws.specs.SumClaim.{row, AllLong}
use Rattle.cube_laws.proofs.Positions.{value-moved}
use Rattle.cube_laws.proofs.Tabulate.{get_or-tabulate}
use Rattle.cube_laws.proofs.Weights.{tabulate-same}
use Rattle.batch_laws.specs.Batch.{zeros}
use Rattle.batch_laws.proofs.Batching.{get_or-zeros}
use Rattle.shift_laws.specs.Shifts.{flag}
use Rattle.poly_forms.specs.Form.{form_of}
use Rattle.table_shape.specs.declared.shape.ColumnShape.{ColumnShape}
use Rattle.table_shape.specs.declared.shape.ConstraintShape.{ConstraintShape}
use Rattle.table_shape.specs.declared.shape.TableShape.{TableShape}
use Rattle.table_shape.specs.declared.shape.ShapeExpr.{ShapeExpr}
use Rattle.table_shape.specs.declared.shape.ShapeExpr.TheOpen.{ShapeExpr-F}
use Rattle.table_shape.specs.declared.shape.ShapeExpr.TheFolds.{map-ShapeExpr, fold-roll-ShapeExpr, ind-ShapeExpr}
use Rattle.table_shape.specs.Counts.{group}
use Rattle.table_shape.specs.Filling.{Filling, IsFilling, values_at, values_of}
use Rattle.table_shape.specs.Fits.{ConstraintFits, ShapeFits}
use Rattle.table_shape.specs.Parts.{ShapeParts}
use Rattle.table_shape.specs.Satisfies.{IsZeroOnRows}
use Rattle.list_laws.specs.CeilLog.{ceil_log}
use Rattle.table_shape.specs.Value.{value as expr_value, degree as expr_degree, greatest}
use Rattle.table_shape.specs.Width.{has_width, has_width_step}
use Rattle.list_laws.proofs.CeilLog.{is_least}
use Rattle.zerocheck.specs.First.{FirstStatesAreMeant, IsFirst}
use Rattle.zerocheck.specs.Group.{Group, form_on, group_of, group_where, group_with, named, names, names_step, place}
use Rattle.zerocheck.specs.Zero.{on_rows}
use Rattle.zerocheck.proofs.FormLaws.{Means, form_means}

-- ---- the columns that an expression names are there, with its number of values
abbrev column_test : ℕ → Option ColumnShape → Bool
column_test v o = elim o [ Some column ↦ column.log_values == v | None ↦ false ]

abbrev Wide : List ColumnShape → ℕ → ℕ → ShapeExpr → Type 0
Wide columns v c e = names c e ≡ true → has_width columns v e ≡ true → column_test v (slice_get columns c) ≡ true

abbrev Widened : List ColumnShape → ℕ → ℕ → Type 0
Widened columns v c = (e : ShapeExpr) × Wide columns v c e

one_of : (a b g : Bool) → (a || b) ≡ true → (a ≡ true → g ≡ true) → (b ≡ true → g ≡ true) → g ≡ true
one_of true b g h f k = f refl
one_of false b g h f k = k h

parts_wide : (columns : List ColumnShape) (v c : ℕ) (es : List (Widened columns v c)) → list_any (λ b. b) (map (names c) (map (λ e. e.0) es)) ≡ true → list_all (λ b. b) (map (has_width columns v) (map (λ e. e.0) es)) ≡ true
    → column_test v (slice_get columns c) ≡ true
parts_wide columns v c [] n h = absurd cc
parts_wide columns v c (e ∷ es) n h =
    let p = and_parts (has_width columns v e.0) (list_all (λ b. b) (map (has_width columns v) (map (λ e. e.0) es))) h in
    one_of (names c e.0) (list_any (λ b. b) (map (names c) (map (λ e. e.0) es))) (column_test v (slice_get columns c)) n (λ t. e.1 t p.0) (λ t. parts_wide columns v c es t p.1)

abbrev WideLayer : List ColumnShape → ℕ → ℕ → ShapeExpr-F ShapeExpr → Type 0
WideLayer columns v c x = names_step c (map-ShapeExpr ShapeExpr Bool (names c) x) ≡ true → has_width_step columns v (map-ShapeExpr ShapeExpr Bool (has_width columns v) x) ≡ true → column_test v (slice_get columns c) ≡ true

layer_wide : (columns : List ColumnShape) (v c : ℕ) (y : ShapeExpr-F (Widened columns v c)) → WideLayer columns v c (map-ShapeExpr (Widened columns v c) ShapeExpr (λ e. e.0) y)
layer_wide columns v c (ShapeExpr-F.Number n) t h = absurd cc
layer_wide columns v c (ShapeExpr-F.Column k) t h = ap (λ j. column_test v (slice_get columns j)) (sym (eqb-true k c t)) ∙ h
layer_wide columns v c (ShapeExpr-F.Sum es) t h = parts_wide columns v c es t h
layer_wide columns v c (ShapeExpr-F.Product es) t h = parts_wide columns v c es t h

named_wide : (columns : List ColumnShape) (v c : ℕ) (e : ShapeExpr) → Wide columns v c e
named_wide columns v c = ind-ShapeExpr (Wide columns v c) (λ x y is n h.
    subst (WideLayer columns v c) is (layer_wide columns v c y) (sym (fold-roll-ShapeExpr Bool (names_step c) x) ∙ n) (sym (fold-roll-ShapeExpr Bool (has_width_step columns v) x) ∙ h))

record There (columns : List ColumnShape) (v c : ℕ) : Type 0 where
  column : ColumnShape
  is : slice_get columns c ≡ Some column
  width : column.log_values ≡ v

there_at : (columns : List ColumnShape) (v c : ℕ) (o : Option ColumnShape) → slice_get columns c ≡ o → column_test v o ≡ true → There columns v c
there_at columns v c None e h = absurd cc
there_at columns v c (Some column) e h = record { column = column; is = e; width = eqb-true column.log_values v h }

below_length : {X : Type 0} (xs : List X) (c : ℕ) (x : X) → slice_get xs c ≡ Some x → c < length xs
below_length [] c x e = absurd cc
below_length (y ∷ xs) zero x e = omega arith
below_length (y ∷ xs) (suc c) x e = let h = below_length xs c x e in omega arith

-- ---- the constraints of a group
filtered : {X : Type 0} (p : X → Bool) (P : X → Type 0) (xs : List X) → ((i : ℕ) (x : X) → slice_get xs i ≡ Some x → p x ≡ true → P x) → AllByRecursion P (filter p xs)
filtered p P [] h = tt
filtered p P (x ∷ xs) h = elim (p x) as (λ b. p x ≡ b → AllByRecursion P (cond b (x ∷ filter p xs) (filter p xs))) [ true ↦ λ e. (h 0 x refl e, filtered p P xs (λ i. h (suc i))) | false ↦ λ e. filtered p P xs (λ i. h (suc i)) ] refl

kept : {X : Type 0} (b : Bool) (P : X → Type 0) (x : X) (xs : List X) → AllByRecursion P (cond b (x ∷ xs) xs) → AllByRecursion P xs
kept true P x xs h = h.1
kept false P x xs h = h

first_kept : {X : Type 0} (b : Bool) (P : X → Type 0) (x : X) (xs : List X) → b ≡ true → AllByRecursion P (cond b (x ∷ xs) xs) → P x
first_kept true P x xs e h = h.0
first_kept false P x xs e h = absurd cc

same_some : {X : Type 0} (P : X → Type 0) (x y : X) → Some x ≡ Some y → P x → P y
same_some P x y e h = let d : x ≡ y = cc in subst P d h

unfiltered : {X : Type 0} (p : X → Bool) (P : X → Type 0) (xs : List X) (i : ℕ) (x : X) → AllByRecursion P (filter p xs) → slice_get xs i ≡ Some x → p x ≡ true → P x
unfiltered p P [] i x h e t = absurd cc
unfiltered p P (y ∷ xs) zero x h e t = let d : y ≡ x = cc in subst P d (first_kept (p y) P y (filter p xs) (ap p d ∙ t) h)
unfiltered p P (y ∷ xs) (suc i) x h e t = unfiltered p P xs i x (kept (p y) P y (filter p xs) h) e t

-- ---- the columns of a group
some_named : {X : Type 0} (p : ℕ → X → Bool) (xs : List X) → AllByRecursion (λ x. (c : ℕ) → p c x ≡ true → list_any (p c) xs ≡ true) xs
some_named p [] = tt
some_named p (x ∷ xs) = (
  (λ c t. or_left (p c x) (list_any (p c) xs) t),
  AllByRecursion-weaker (λ y. (c : ℕ) → p c y ≡ true → list_any (p c) xs ≡ true) (λ y. (c : ℕ) → p c y ≡ true → list_any (p c) (x ∷ xs) ≡ true) (λ y h c t. or_right (p c x) (list_any (p c) xs) (h c t)) xs (some_named p xs),
)

place_first : (b : Bool) (m n : ℕ) → b ≡ true → cond b 0 (suc m) < suc n
place_first true m n e = omega arith
place_first false m n e = absurd cc

place_later : (b : Bool) (m n : ℕ) → m < n → cond b 0 (suc m) < suc n
place_later true m n h = omega arith
place_later false m n h = omega arith

place_tail : (b : Bool) (m n : ℕ) → b ≡ false → cond b 0 (suc m) < suc n → m < n
place_tail true m n e h = absurd cc
place_tail false m n e h = omega arith

place_tabulated : (n k : ℕ) (f : ℕ → ℕ) → k < n → place (f k) (tabulate n f) < length (tabulate n f)
place_tabulated zero k f h = absurd (omega arith)
place_tabulated (suc n) zero f h = place_first (f 0 == f 0) _ _ (eq-eqb (f 0) (f 0) refl)
place_tabulated (suc n) (suc k) f h = place_later (f 0 == f (suc k)) _ _ (place_tabulated n k (λ j. f (suc j)) (omega arith))

place_filtered : (p : ℕ → Bool) (c : ℕ) (xs : List ℕ) → p c ≡ true → place c xs < length xs → place c (filter p xs) < length (filter p xs)
place_filtered p c [] t h = absurd (omega arith)
place_filtered p c (x ∷ xs) t h =
    elim (x == c) as (λ b. (x == c) ≡ b → place c (filter p (x ∷ xs)) < length (filter p (x ∷ xs)))
    [ true ↦ λ e. at_first (p x) e (ap p (eqb-true x c e) ∙ t) | false ↦ λ e. at_later (p x) (place_filtered p c xs t (place_tail (x == c) (place c xs) (length xs) e h)) ] refl
  where
    at_first : (b : Bool) → (x == c) ≡ true → b ≡ true → place c (cond b (x ∷ filter p xs) (filter p xs)) < length (cond b (x ∷ filter p xs) (filter p xs))
    at_first true e d = place_first (x == c) _ _ e
    at_first false e d = absurd cc

    at_later : (b : Bool) → place c (filter p xs) < length (filter p xs) → place c (cond b (x ∷ filter p xs) (filter p xs)) < length (cond b (x ∷ filter p xs) (filter p xs))
    at_later true r = place_later (x == c) _ _ r
    at_later false r = r

abbrev some_names : List ConstraintShape → ℕ → Bool
some_names zs c = list_any (λ (z : ConstraintShape). names c z.expr) zs

-- what is known of each constraint of a group
pub record Fitting (columns : List ColumnShape) (v : ℕ) (z : ConstraintShape) : Type 0 where
  pub fits : ConstraintFits columns z
  pub values : z.log_values ≡ v

wide_of : (columns : List ColumnShape) (v c : ℕ) (z : ConstraintShape) → Fitting columns v z → names c z.expr ≡ true → column_test v (slice_get columns c) ≡ true
wide_of columns v c z h n = named_wide columns v c z.expr n (ap (λ w. has_width columns w z.expr) (sym h.values) ∙ h.fits.equal_width)

some_wide : (columns : List ColumnShape) (v c : ℕ) (zs : List ConstraintShape) → AllByRecursion (Fitting columns v) zs → some_names zs c ≡ true → column_test v (slice_get columns c) ≡ true
some_wide columns v c [] h n = absurd cc
some_wide columns v c (z ∷ zs) h n = one_of (names c z.expr) (some_names zs c) (column_test v (slice_get columns c)) n (wide_of columns v c z h.0) (some_wide columns v c zs h.1)

there : (columns : List ColumnShape) (v c : ℕ) (zs : List ConstraintShape) → AllByRecursion (Fitting columns v) zs → some_names zs c ≡ true → There columns v c
there columns v c zs h n = there_at columns v c (slice_get columns c) refl (some_wide columns v c zs h n)

covered : (columns : List ColumnShape) (v : ℕ) (zs : List ConstraintShape) → AllByRecursion (Fitting columns v) zs → (c : ℕ) → some_names zs c ≡ true → place c (named zs (length columns)) < length (named zs (length columns))
covered columns v zs h c n =
    let t = there columns v c zs h n in
    place_filtered (some_names zs) c (tabulate (length columns) (λ k. k)) n (place_tabulated (length columns) c (λ k. k) (below_length columns c t.column t.is))

-- the form of each constraint means its expression
pub record Known (columns : List ColumnShape) (v : ℕ) (cs : List ℕ) (z : ConstraintShape) : Type 0 where
  pub fits : Fitting columns v z
  pub means : Means cs (form_of (form_on cs z.expr)) (λ f. expr_value f z.expr) (expr_degree z.expr)

both : {X : Type 0} (P Q : X → Type 0) (xs : List X) → AllByRecursion P xs → AllByRecursion Q xs → AllByRecursion (λ x. P x × Q x) xs
both P Q [] p q = tt
both P Q (x ∷ xs) p q = ((p.0, q.0), both P Q xs p.1 q.1)

abbrev Named : List ConstraintShape → ConstraintShape → Type 0
Named zs z = (c : ℕ) → names c z.expr ≡ true → some_names zs c ≡ true

pub all_known : (columns : List ColumnShape) (v : ℕ) (zs : List ConstraintShape) → AllByRecursion (Fitting columns v) zs → AllByRecursion (Known columns v (named zs (length columns))) zs
all_known columns v zs h =
    AllByRecursion-weaker (λ z. Fitting columns v z × Named zs z) (Known columns v (named zs (length columns)))
    (λ z k. record { fits = k.0; means = form_means (named zs (length columns)) z.expr (λ c t. covered columns v zs h c (k.1 c t)) }) zs
    (both (Fitting columns v) (Named zs) zs h (some_named (λ c (z : ConstraintShape). names c z.expr) zs))

-- ---- sizes
columns_long : (n : ℕ) (p : ℕ → Bool) (F : ℕ → List ℕ) → ((c : ℕ) → p c ≡ true → length (F c) ≡ n) → (xs : List ℕ) → AllLong n (map F (filter p xs))
columns_long n p F h [] = tt
columns_long n p F h (x ∷ xs) = elim (p x) as (λ b. p x ≡ b → AllLong n (map F (cond b (x ∷ filter p xs) (filter p xs)))) [ true ↦ λ e. (h x e, columns_long n p F h xs) | false ↦ λ e. columns_long n p F h xs ] refl

degrees_low : (columns : List ColumnShape) (v d : ℕ) (cs : List ℕ) (zs : List ConstraintShape) → AllByRecursion (Known columns v cs) zs → greatest (map (λ (z : ConstraintShape). z.degree) zs) ≤ d
    → AllByRecursion (λ form. degree form ≤ d) (map form_of (map (λ (z : ConstraintShape). form_on cs z.expr) zs))
degrees_low columns v d cs [] h l = tt
degrees_low columns v d cs (z ∷ zs) h l =
    let a = le-max_left z.degree (greatest (map (λ (z : ConstraintShape). z.degree) zs)) in
    let b = le-max_right z.degree (greatest (map (λ (z : ConstraintShape). z.degree) zs)) in
    let e = h.0.means.degree in
    let f = h.0.fits.fits.degree_is in
    ((omega arith), degrees_low columns v d cs zs h.1 (omega arith))

-- ---- values
rows_at : (F : ℕ → List ℕ) (p : ℕ) (cs : List ℕ) → map (λ list. slice_index list p) (map F cs) ≡ map (λ c. slice_index (F c) p) cs
rows_at F p [] = refl
rows_at F p (c ∷ cs) = ap (λ xs. slice_index (F c) p ∷ xs) (rows_at F p cs)

-- the rows fit into the positions
rows_within : (rows v : ℕ) → rows * 2 ^ v ≤ 2 ^ (ceil_log rows + v)
rows_within rows v = let e = pow-add 2 (ceil_log rows) v in let l = mul-le-mul_right (2 ^ v) ((is_least rows).enough) in omega arith

abbrev step_at : ℕ → ℕ → ℕ → ℕ
step_at rows v p = flag (ltb p (rows * 2 ^ v))

-- S · C at a position
product_at : (F : ℕ → List ℕ) (rows v N : ℕ) (cs : List ℕ) (form : Form) (value_is : (ℕ → ℕ) → ℕ) (p : ℕ) → p < N → ((f : ℕ → ℕ) → value form (map f cs) ≡ value_is f)
    → value (on_rows form) (row (tabulate N (step_at rows v) ∷ map F cs) p) ≡ mul (step_at rows v p) (value_is (λ c. slice_index (F c) p))
product_at F rows v N cs form value_is p l h =
    let s : slice_index (tabulate N (step_at rows v)) p ≡ step_at rows v p = get_or-tabulate N p (step_at rows v) l in
    (λ i. mul (s i) ((value-moved form (slice_index (tabulate N (step_at rows v)) p) (map (λ list. slice_index list p) (map F cs)) ∙ ap (value form) (rows_at F p cs) ∙ h (λ c. slice_index (F c) p)) i))

one_times : (a : ℕ) → mul 1 a ≡ a
one_times a = identity (a ∷ []) (search field_terms depth 60 fits 20000) refl

-- the position of a row and an index
position_below : (rows v y x : ℕ) → y < rows → x < 2 ^ v → y * 2 ^ v + x < rows * 2 ^ v
position_below rows v y x h l = let m = mul-le-mul_right (2 ^ v) (let k : suc y ≤ rows = omega arith in k) in let e : suc y * 2 ^ v ≡ 2 ^ v + y * 2 ^ v = grind arith in omega arith

power_positive : (v : ℕ) → 0 < 2 ^ v
power_positive zero = omega arith
power_positive (suc v) = let h = power_positive v in let e : 2 ^ suc v ≡ 2 * 2 ^ v = omega arith in omega arith

-- a constraint whose form stands over the columns is 0 on rows where S · C is the list of zeros
zero_at_rows : (filling : Filling) (t v rows : ℕ) (columns : List ColumnShape) (cs : List ℕ) (z : ConstraintShape) → Known columns v cs z
    → tabulate (2 ^ (ceil_log rows + v)) (λ p. value (on_rows (form_of (form_on cs z.expr))) (row (tabulate (2 ^ (ceil_log rows + v)) (step_at rows v) ∷ map (values_of filling t) cs) p)) ≡ zeros (2 ^ (ceil_log rows + v))
    → IsZeroOnRows filling t z rows
zero_at_rows filling t v rows columns cs z k e y x h l =
    let N = 2 ^ (ceil_log rows + v) in
    let form = form_of (form_on cs z.expr) in
    let p = y * 2 ^ v + x in
    let same = k.fits.values in
    let l' : x < 2 ^ v = subst (λ w. x < 2 ^ w) same l in
    let b = position_below rows v y x h l' in
    let w = rows_within rows v in
    let inside : p < N = omega arith in
    let whole = λ (q : ℕ). value (on_rows form) (row (tabulate N (step_at rows v) ∷ map (values_of filling t) cs) q) in
    ap (λ u. expr_value (values_at filling t (y * 2 ^ u + x)) z.expr) same
    ∙ sym (one_times (expr_value (values_at filling t p) z.expr))
    ∙ ap (λ s. mul (flag s) (expr_value (values_at filling t p) z.expr)) (sym (lt-ltb p (rows * 2 ^ v) b))
    ∙ sym (product_at (values_of filling t) rows v N cs form (λ f. expr_value f z.expr) p inside k.means.value)
    ∙ sym (get_or-tabulate N p whole inside) ∙ ap (λ list. get_or list p 0) e ∙ get_or-zeros N p

by_step : (b : Bool) (a : ℕ) → (b ≡ true → a ≡ 0) → mul (flag b) a ≡ 0
by_step true a h = ap (mul 1) (h refl) ∙ sym (times_zero 1)
by_step false a h = sym (zero_times a)

-- and the other way round
rows_to_zero : (filling : Filling) (t v rows : ℕ) (columns : List ColumnShape) (cs : List ℕ) (z : ConstraintShape) → Known columns v cs z → IsZeroOnRows filling t z rows
    → tabulate (2 ^ (ceil_log rows + v)) (λ p. value (on_rows (form_of (form_on cs z.expr))) (row (tabulate (2 ^ (ceil_log rows + v)) (step_at rows v) ∷ map (values_of filling t) cs) p)) ≡ zeros (2 ^ (ceil_log rows + v))
rows_to_zero filling t v rows columns cs z k h =
    let N = 2 ^ (ceil_log rows + v) in
    let form = form_of (form_on cs z.expr) in
    tabulate-same N (λ p. value (on_rows form) (row (tabulate N (step_at rows v) ∷ map (values_of filling t) cs) p)) (λ p. 0) (λ p l.
    product_at (values_of filling t) rows v N cs form (λ f. expr_value f z.expr) p l k.means.value
    ∙ by_step (ltb p (rows * 2 ^ v)) (expr_value (values_at filling t p) z.expr) (λ e.
    sym (ap (λ q. expr_value (values_at filling t q) z.expr) (placed v p) ∙ refl) ∙ ap (λ w. expr_value (values_at filling t (p / 2 ^ v * 2 ^ w + p % 2 ^ v)) z.expr) (sym k.fits.values)
    ∙ h (p / 2 ^ v) (p % 2 ^ v) (row_below rows v p (ltb-true p (rows * 2 ^ v) e)) (subst (λ w. p % 2 ^ v < 2 ^ w) (sym k.fits.values) (index_below v p))))
  where
    placed : (v p : ℕ) → p / 2 ^ v * 2 ^ v + p % 2 ^ v ≡ p
    placed v p = let d = div-add-mod p (2 ^ v) in let c : 2 ^ v * (p / 2 ^ v) ≡ p / 2 ^ v * 2 ^ v = grind arith in omega arith

    index_below : (v p : ℕ) → p % 2 ^ v < 2 ^ v
    index_below v p = let h = power_positive v in omega arith

    row_below : (rows v p : ℕ) → p < rows * 2 ^ v → p / 2 ^ v < rows
    row_below rows v p h = (div-lt_iff_lt-mul (power_positive v)).1 h

-- ---- all constraints of a group
abbrev Zeroed : Filling → ℕ → ℕ → ℕ → List ℕ → Form → Type 0
Zeroed filling t v rows cs form =
    tabulate (2 ^ (ceil_log rows + v)) (λ p. value (on_rows form) (row (tabulate (2 ^ (ceil_log rows + v)) (step_at rows v) ∷ map (values_of filling t) cs) p)) ≡ zeros (2 ^ (ceil_log rows + v))

all_at_rows : (filling : Filling) (t v rows : ℕ) (columns : List ColumnShape) (cs : List ℕ) (zs : List ConstraintShape) → AllByRecursion (Known columns v cs) zs
    → AllByRecursion (Zeroed filling t v rows cs) (map form_of (map (λ (z : ConstraintShape). form_on cs z.expr) zs)) → AllByRecursion (λ z. IsZeroOnRows filling t z rows) zs
all_at_rows filling t v rows columns cs [] k h = tt
all_at_rows filling t v rows columns cs (z ∷ zs) k h = (zero_at_rows filling t v rows columns cs z k.0 h.0, all_at_rows filling t v rows columns cs zs k.1 h.1)

all_to_zero : (filling : Filling) (t v rows : ℕ) (columns : List ColumnShape) (cs : List ℕ) (zs : List ConstraintShape) → AllByRecursion (Known columns v cs) zs
    → AllByRecursion (λ z. IsZeroOnRows filling t z rows) zs → AllByRecursion (Zeroed filling t v rows cs) (map form_of (map (λ (z : ConstraintShape). form_on cs z.expr) zs))
all_to_zero filling t v rows columns cs [] k h = tt
all_to_zero filling t v rows columns cs (z ∷ zs) k h = (rows_to_zero filling t v rows columns cs z k.0 h.0, all_to_zero filling t v rows columns cs zs k.1 h.1)

pub group_is : (t v rows n : ℕ) (zs : List ConstraintShape) (g : Group) → group_where t v rows n zs ≡ Some g → group_with t v rows n zs ≡ g
group_is t v rows n [] g e = absurd cc
group_is t v rows n (z ∷ zs) g e = cc

group_found : (tables : List TableShape) (t v rows : ℕ) (table : TableShape) (g : Group) → slice_get tables t ≡ Some table → group_of tables rows t v ≡ Some g → group_with t v rows (length table.columns) (group v table) ≡ g
group_found tables t v rows table g e h =
    group_is t v rows (length table.columns) (group v table) g (ap (option_and_then (λ (table : TableShape). group_where t v rows (length table.columns) (group v table))) (sym e) ∙ h)

-- what is known of the constraints that a shape has
pub all_fitting : (shape : ShapeParts) (t v : ℕ) (table : TableShape) → ShapeFits shape → slice_get shape.tables t ≡ Some table → AllByRecursion (Fitting table.columns v) (group v table)
all_fitting shape t v table s e =
    filtered (λ (z : ConstraintShape). z.log_values == v) (Fitting table.columns v) table.constraints (λ i z at w. record { fits = (s.tables t table e).constraints i z at; values = eqb-true z.log_values v w })

group_means : (shape : ShapeParts) (rows : List ℕ) (filling : Filling) (t v : ℕ) (table : TableShape) → ShapeFits shape → IsFilling shape.tables rows filling → slice_get shape.tables t ≡ Some table
    → IsFirst filling t v (slice_index rows t) table (group_with t v (slice_index rows t) (length table.columns) (group v table))
group_means shape rows filling t v table s f e =
    let m = slice_index rows t in
    let zs = group v table in
    let cs = named zs (length table.columns) in
    let fitting = all_fitting shape t v table s e in
    let known = all_known table.columns v zs fitting in
    let long : (c : ℕ) → some_names zs c ≡ true → length (values_of filling t c) ≡ 2 ^ (ceil_log m + v) = λ c n.
    let h = there table.columns v c zs fitting n in
    (f.columns t c table h.column e h.is).len ∙ ap (λ w. 2 ^ (ceil_log m + w)) h.width in
    record {
      fits = record {
        long = columns_long (2 ^ (ceil_log m + v)) (some_names zs) (values_of filling t) long (tabulate (length table.columns) (λ k. k));
        low = degrees_low table.columns v (greatest (map (λ (z : ConstraintShape). z.degree) zs)) cs zs known (omega arith);
        within = omega arith;
      };
      same = (
        (λ h z constraint at w. unfiltered (λ (z : ConstraintShape). z.log_values == v) (λ z. IsZeroOnRows filling t z m) table.constraints z constraint (all_at_rows filling t v m table.columns cs zs known h) at (eq-eqb constraint.log_values v w)),
        (λ h. all_to_zero filling t v m table.columns cs zs known (filtered (λ (z : ConstraintShape). z.log_values == v) (λ z. IsZeroOnRows filling t z m) table.constraints (λ i z at w. h i z at (eqb-true z.log_values v w)))),
      );
    }

pub first_means : FirstStatesAreMeant
first_means shape rows filling t v table g s f e h =
    subst (IsFirst filling t v (slice_index rows t) table) (group_found shape.tables t v (slice_index rows t) table g e h) (group_means shape rows filling t v table s f e)
