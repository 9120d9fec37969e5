-- An expression as a form over the columns that it names.
use Rattle.std.proofs.Common.{◌≡◌, ◌∙◌, ℕ, suc, ◌+◌, ◌==◌, ◌<◌, Bool, true, false, cond, max, List, [], ◌∷◌, length, map, slice_index, bit_xor, refl, sym, ap, subst, arith}
use Rattle.std.specs.List.{fold, list_any, sum}
use Rattle.std.proofs.lemmas.Bool.{eqb-true, eq-eqb, or_left, or_right}
use Rattle.tower_laws.specs.Tower.{mul}
use Rattle.tower_laws.specs.Lists.{sum_all, product_all}
use Rattle.cube_laws.specs.Form.{Form, value, degree}
use Rattle.poly_forms.specs.declared.form.Form.{Form as Tree}
use Rattle.poly_forms.specs.declared.form.Form.TheVariants as tree
use Rattle.poly_forms.specs.declared.form.Form.TheOpen.{Form-F}
use Rattle.poly_forms.specs.declared.form.Form.TheFolds.{fold-roll-Form}
use Rattle.poly_forms.specs.Form.{form_of, form_step as open_step, product_of, sum_of, VariablesBelow}
use Rattle.table_shape.specs.declared.shape.ShapeExpr.{ShapeExpr}
use Rattle.table_shape.specs.declared.shape.ShapeExpr.TheOpen.{ShapeExpr-F}
use Rattle.table_shape.specs.declared.shape.ShapeExpr.TheFolds.{map-ShapeExpr, fold-roll-ShapeExpr, ind-ShapeExpr}
use Rattle.table_shape.specs.Value.{value as expr_value, value_step, degree as expr_degree, degree_step, greatest}
use Rattle.zerocheck.specs.Group.{form_on, form_step, names, names_step, place}

-- ---- the place of a number in a list
place_step : (b : Bool) (c k : ℕ) (ks : List ℕ) (f : ℕ → ℕ) → (k == c) ≡ b → cond b 0 (suc (place c ks)) < suc (length ks) → (place c ks < length ks → slice_index (map f ks) (place c ks) ≡ f c)
    → slice_index (f k ∷ map f ks) (cond b 0 (suc (place c ks))) ≡ f c
place_step true c k ks f e h r = ap f (eqb-true k c e)
place_step false c k ks f e h r = r (omega arith)

pub place_is : (c : ℕ) (ks : List ℕ) (f : ℕ → ℕ) → place c ks < length ks → slice_index (map f ks) (place c ks) ≡ f c
place_is c [] f h = absurd (omega arith)
place_is c (k ∷ ks) f h = place_step (k == c) c k ks f refl h (place_is c ks f)

-- ---- the form of an expression's parts
number_form : (n : ℕ) → form_of (tree.Constant n) ≡ open_step (Form-F.Constant n)
number_form n = ap form_of (sym (tree.rolls-Constant n)) ∙ fold-roll-Form Form open_step (Form-F.Constant n)

column_form : (k : ℕ) → form_of (tree.Variable k) ≡ open_step (Form-F.Variable k)
column_form k = ap form_of (sym (tree.rolls-Variable k)) ∙ fold-roll-Form Form open_step (Form-F.Variable k)

sum_form : (ts : List Tree) → form_of (tree.Sum ts) ≡ sum_of (map form_of ts)
sum_form ts = ap form_of (sym (tree.rolls-Sum ts)) ∙ fold-roll-Form Form open_step (Form-F.Sum ts)

product_form : (ts : List Tree) → form_of (tree.Product ts) ≡ product_of (map form_of ts)
product_form ts = ap form_of (sym (tree.rolls-Product ts)) ∙ fold-roll-Form Form open_step (Form-F.Product ts)

-- ---- what a form has of an expression
pub record Means (columns : List ℕ) (form : Form) (value_is : (ℕ → ℕ) → ℕ) (degree_is : ℕ) : Type 0 where
  pub value : (f : ℕ → ℕ) → value form (map f columns) ≡ value_is f
  pub degree : degree form ≡ degree_is
  pub below : VariablesBelow (length columns) form

-- each column that an expression names is among the columns
abbrev pub Covers : List ℕ → (ℕ → Bool) → Type 0
Covers columns named = (c : ℕ) → named c ≡ true → place c columns < length columns

abbrev Meant : List ℕ → ShapeExpr → Type 0
Meant columns e = Covers columns (λ c. names c e) → Means columns (form_of (form_on columns e)) (λ f. expr_value f e) (expr_degree e)

abbrev Meaning : List ℕ → Type 0
Meaning columns = (e : ShapeExpr) × Meant columns e

abbrev parts_of : (columns : List ℕ) → List (Meaning columns) → List ShapeExpr
parts_of columns es = map (λ (e : Meaning columns). e.0) es

abbrev forms_of : (columns : List ℕ) → List (Meaning columns) → List Form
forms_of columns es = map form_of (map (form_on columns) (parts_of columns es))

sum_means : (columns : List ℕ) (es : List (Meaning columns)) → Covers columns (λ c. list_any (λ b. b) (map (names c) (parts_of columns es)))
    → Means columns (sum_of (forms_of columns es)) (λ f. sum_all (map (expr_value f) (parts_of columns es))) (greatest (map expr_degree (parts_of columns es)))
sum_means columns [] h = record { value = λ f. refl; degree = refl; below = tt }
sum_means columns (e ∷ es) h =
    let m = e.1 (λ c t. h c (or_left (names c e.0) (list_any (λ b. b) (map (names c) (parts_of columns es))) t)) in
    let r = sum_means columns es (λ c t. h c (or_right (names c e.0) (list_any (λ b. b) (map (names c) (parts_of columns es))) t)) in
    record {
      value = λ f i. bit_xor (m.value f i) (r.value f i);
      degree = λ i. max (m.degree i) (r.degree i);
      below = (m.below, r.below);
    }

fold_from : (a : ℕ) (xs : List ℕ) → fold ◌+◌ a xs ≡ a + sum xs
fold_from a [] = omega arith
fold_from a (x ∷ xs) = let p = fold_from (a + x) xs in let q = fold_from (0 + x) xs in omega arith

sum_more : (x : ℕ) (xs : List ℕ) → x + sum xs ≡ sum (x ∷ xs)
sum_more x xs = let q = fold_from (0 + x) xs in omega arith

product_means : (columns : List ℕ) (es : List (Meaning columns)) → Covers columns (λ c. list_any (λ b. b) (map (names c) (parts_of columns es)))
    → Means columns (product_of (forms_of columns es)) (λ f. product_all (map (expr_value f) (parts_of columns es))) (sum (map expr_degree (parts_of columns es)))
product_means columns [] h = record { value = λ f. refl; degree = refl; below = tt }
product_means columns (e ∷ es) h =
    let m = e.1 (λ c t. h c (or_left (names c e.0) (list_any (λ b. b) (map (names c) (parts_of columns es))) t)) in
    let r = product_means columns es (λ c t. h c (or_right (names c e.0) (list_any (λ b. b) (map (names c) (parts_of columns es))) t)) in
    record {
      value = λ f i. mul (m.value f i) (r.value f i);
      degree = (λ i. m.degree i + r.degree i) ∙ sum_more (expr_degree e.0) (map expr_degree (parts_of columns es));
      below = (m.below, r.below);
    }

-- one layer of an expression
abbrev Layer : List ℕ → ShapeExpr-F ShapeExpr → Type 0
Layer columns x = Covers columns (λ c. names_step c (map-ShapeExpr ShapeExpr Bool (names c) x))
    → Means columns (form_of (form_step columns (map-ShapeExpr ShapeExpr Tree (form_on columns) x))) (λ f. value_step f (map-ShapeExpr ShapeExpr ℕ (expr_value f) x)) (degree_step (map-ShapeExpr ShapeExpr ℕ expr_degree x))

layer_means : (columns : List ℕ) (y : ShapeExpr-F (Meaning columns)) → Layer columns (map-ShapeExpr (Meaning columns) ShapeExpr (λ e. e.0) y)
layer_means columns (ShapeExpr-F.Number n) h = subst (λ w. Means columns w (λ f. n) 0) (sym (number_form n)) (record { value = λ f. refl; degree = refl; below = tt })
layer_means columns (ShapeExpr-F.Column k) h =
    let l : place k columns < length columns = h k (eq-eqb k k refl) in
    subst (λ w. Means columns w (λ f. f k) 1) (sym (column_form (place k columns))) (record { value = λ f. place_is k columns f l; degree = refl; below = l })
layer_means columns (ShapeExpr-F.Sum es) h =
    subst (λ w. Means columns w (λ f. sum_all (map (expr_value f) (parts_of columns es))) (greatest (map expr_degree (parts_of columns es)))) (sym (sum_form (map (form_on columns) (parts_of columns es)))) (sum_means columns es h)
layer_means columns (ShapeExpr-F.Product es) h =
    subst (λ w. Means columns w (λ f. product_all (map (expr_value f) (parts_of columns es))) (sum (map expr_degree (parts_of columns es)))) (sym (product_form (map (form_on columns) (parts_of columns es)))) (product_means columns es h)

-- the form of an expression has its value and its degree
pub form_means : (columns : List ℕ) (e : ShapeExpr) → Meant columns e
form_means columns = ind-ShapeExpr (Meant columns) (λ x y is h.
    let here : Covers columns (λ c. names_step c (map-ShapeExpr ShapeExpr Bool (names c) x)) = λ c t. h c (fold-roll-ShapeExpr Bool (names_step c) x ∙ t) in
    let means = subst (Layer columns) is (layer_means columns y) here in
    record {
      value = λ f. ap (λ w. value (form_of w) (map f columns)) (fold-roll-ShapeExpr Tree (form_step columns) x) ∙ means.value f ∙ sym (fold-roll-ShapeExpr ℕ (value_step f) x);
      degree = ap (λ w. degree (form_of w)) (fold-roll-ShapeExpr Tree (form_step columns) x) ∙ means.degree ∙ sym (fold-roll-ShapeExpr ℕ degree_step x);
      below = subst (λ w. VariablesBelow (length columns) (form_of w)) (sym (fold-roll-ShapeExpr Tree (form_step columns) x)) means.below;
    })
