-- Steps of making a group from a shape.
use Rattle.std.proofs.Common.{◌≡◌, ◌∙◌, ℕ, suc, ◌+◌, ◌<◌, ◌≤◌, ◌==◌, ◌++◌, ◌^◌, cond, Bool, true, false, List, [], ◌∷◌, drop, length, map, get_or, slice_get, Option, Some, None, IsSome, is_some, option_and_then, ◌||◌, bit_xor, refl, sym, ap, subst, arith}
use Rattle.std.specs.List.{AllByRecursion, filter, list_any}
use Rattle.std.proofs.lemmas.Bool.{eq-eqb}
use Rattle.std.proofs.lemmas.Option.{same_Some}
use Rattle.std.proofs.lemmas.List.{length-map}
use Rattle.std.proofs.lemmas.List.Elements.{filter-append}
use Rattle.std.proofs.Math.Nat.{max-le}
use Rattle.tower_laws.specs.Tower.{mul}
use Rattle.poly_laws.specs.Polynomial.{horner}
use Rattle.cube_laws.specs.Form.{value}
use Rattle.cube_laws.specs.Sums.{tabulate}
use Rattle.cube_laws.proofs.Tabulate.{tabulate-suc}
use Rattle.cube_laws.proofs.Weights.{length-tabulate}
use Rattle.poly_forms.specs.declared.form.Form.{Form as Tree}
use Rattle.poly_forms.specs.Form.{form_of, VariablesBelow}
use Rattle.list_laws.proofs.Lists.{drop_here}
use Rattle.table_shape.specs.declared.shape.ColumnShape.{ColumnShape}
use Rattle.table_shape.specs.declared.shape.ConstraintShape.{ConstraintShape}
use Rattle.table_shape.specs.declared.shape.TableShape.{TableShape}
use Rattle.table_shape.specs.Counts.{group}
use Rattle.table_shape.specs.Fits.{ShapeFits}
use Rattle.table_shape.specs.Parts.{ShapeParts}
use Rattle.list_laws.specs.CeilLog.{ceil_log}
use Rattle.table_shape.specs.Value.{greatest}
use Rattle.list_laws.proofs.CeilLog.{at_most}
use Rattle.zerocheck.specs.Group.{Group, form_on, group_of, group_where, group_with, named, names}
use Rattle.zerocheck.proofs.FirstLaws.{Fitting, Known, all_fitting, all_known}

-- ---- one more column
abbrev some_names : List ConstraintShape → ℕ → Bool
some_names zs c = list_any (λ (z : ConstraintShape). names c z.expr) zs

named_more : (zs : List ConstraintShape) (n : ℕ) → named zs (n + 1) ≡ named zs n ++ cond (some_names zs n) (n ∷ []) []
named_more zs n =
    (let e : n + 1 ≡ suc n = omega arith in ap (λ m. named zs m) e) ∙ ap (filter (some_names zs)) (tabulate-suc n (λ c. c))
    ∙ filter-append (some_names zs) (tabulate n (λ c. c)) (n ∷ [])

append_none : (xs : List ℕ) → xs ++ [] ≡ xs
append_none [] = refl
append_none (x ∷ xs) = ap (λ ys. x ∷ ys) (append_none xs)

pub named_taken : (zs : List ConstraintShape) (n : ℕ) (b : Bool) (columns next : List ℕ) → columns ≡ named zs n → b ≡ some_names zs n → b ≡ true → next ≡ columns ++ n ∷ [] → next ≡ named zs (n + 1)
named_taken zs n b columns next e s t p = p ∙ ap (λ xs. xs ++ n ∷ []) e ∙ ap (λ (w : Bool). named zs n ++ cond w (n ∷ []) []) (sym t ∙ s) ∙ sym (named_more zs n)

pub named_left : (zs : List ConstraintShape) (n : ℕ) (b : Bool) (columns : List ℕ) → columns ≡ named zs n → b ≡ some_names zs n → b ≡ false → columns ≡ named zs (n + 1)
named_left zs n b columns e s t = e ∙ sym (append_none (named zs n)) ∙ ap (λ (w : Bool). named zs n ++ cond w (n ∷ []) []) (sym t ∙ s) ∙ sym (named_more zs n)

filter_short : {X : Type 0} (p : X → Bool) (xs : List X) → length (filter p xs) ≤ length xs
filter_short p [] = omega arith
filter_short p (x ∷ xs) = let h = filter_short p xs in elim (p x) as (λ b. length (cond b (x ∷ filter p xs) (filter p xs)) ≤ suc (length xs)) [ true ↦ omega arith | false ↦ omega arith ]

named_short : (zs : List ConstraintShape) (n : ℕ) → length (named zs n) ≤ n
named_short zs n = let h = filter_short (some_names zs) (tabulate n (λ c. c)) in let l = length-tabulate n (λ c. c) in omega arith

-- ---- one more form of a batch
pub batch_more : (xs : List Tree) (i j : ℕ) (x : Tree) (values : List ℕ) (beta sum v next : ℕ) → x ≡ get_or xs i x → i < length xs → j ≡ i + 1
    → sum ≡ horner (map (λ form. value form values) (map form_of (drop j xs))) beta → v ≡ value (form_of x) values → next ≡ bit_xor v (mul beta sum)
    → next ≡ horner (map (λ form. value form values) (map form_of (drop i xs))) beta
batch_more xs i j x values beta sum v next e l s h w n =
    n ∙ (λ k. bit_xor (w k) (mul beta ((h ∙ ap (λ m. horner (map (λ form. value form values) (map form_of (drop m xs))) beta) s) k)))
    ∙ ap (λ (ts : List Tree). horner (map (λ form. value form values) (map form_of ts)) beta) (sym (drop_here xs i x l e))

-- ---- what a shape has
degrees_low : (columns : List ColumnShape) (v : ℕ) (zs : List ConstraintShape) → AllByRecursion (Fitting columns v) zs → greatest (map (λ (z : ConstraintShape). z.degree) zs) ≤ 8
degrees_low columns v [] h = omega arith
degrees_low columns v (z ∷ zs) h = max-le (h.0.fits.low) (degrees_low columns v zs h.1)

all_below : (columns : List ColumnShape) (v : ℕ) (cs : List ℕ) (zs : List ConstraintShape) → AllByRecursion (Known columns v cs) zs
    → AllByRecursion (λ (f : Tree). VariablesBelow (length cs) (form_of f)) (map (λ (z : ConstraintShape). form_on cs z.expr) zs)
all_below columns v cs [] h = tt
all_below columns v cs (z ∷ zs) h = (h.0.means.below, all_below columns v cs zs h.1)

-- a group that is there
pub record IsReady (shape : ShapeParts) (t v rows : ℕ) (table : TableShape) : Type 0 where
  pub found : group_of shape.tables rows t v ≡ Some (group_with t v rows (length table.columns) (group v table))
  pub some : 1 ≤ length (group v table)
  pub values : v ≤ 7
  pub low : greatest (map (λ (z : ConstraintShape). z.degree) (group v table)) ≤ 8
  pub short : length (named (group v table) (length table.columns)) ≤ 256
  pub below : AllByRecursion (λ (f : Tree). VariablesBelow (length (named (group v table) (length table.columns))) (form_of f)) (map (λ (z : ConstraintShape). form_on (named (group v table) (length table.columns)) z.expr) (group v table))

record Some1 (columns : List ColumnShape) (t v rows n : ℕ) (zs : List ConstraintShape) : Type 0 where
  found : group_where t v rows n zs ≡ Some (group_with t v rows n zs)
  some : 1 ≤ length zs
  values : v ≤ 7

some_where : (columns : List ColumnShape) (t v rows n : ℕ) (zs : List ConstraintShape) → AllByRecursion (Fitting columns v) zs → IsSome (group_where t v rows n zs) → Some1 columns t v rows n zs
some_where columns t v rows n [] h s = absurd cc
some_where columns t v rows n (z ∷ zs) h s = record { found = refl; some = omega arith; values = let l = h.0.fits.log_values in let e = h.0.values in omega arith }

abbrev where_at : ℕ → ℕ → ℕ → Option TableShape → Option Group
where_at t v rows o = option_and_then (λ (table : TableShape). group_where t v rows (length table.columns) (group v table)) o

pub ready : (shape : ShapeParts) (t v rows : ℕ) (table : TableShape) → ShapeFits shape → slice_get shape.tables t ≡ Some table → IsSome (group_of shape.tables rows t v) → IsReady shape t v rows table
ready shape t v rows table s e h =
    let fitting = all_fitting shape t v table s e in
    let zs = group v table in
    let k = some_where table.columns t v rows (length table.columns) zs fitting (subst (λ (o : Option TableShape). IsSome (where_at t v rows o)) e h) in
    record {
      found = ap (where_at t v rows) e ∙ k.found;
      some = k.some;
      values = k.values;
      low = degrees_low table.columns v zs fitting;
      short = let a = named_short zs (length table.columns) in let b = (s.tables t table e).few_columns in omega arith;
      below = all_below table.columns v (named zs (length table.columns)) zs (all_known table.columns v zs fitting);
    }

pub rows_small : (rows : ℕ) → rows ≤ 1048576 → ceil_log rows ≤ 20
rows_small rows h = at_most rows 20 h

some_at : (t v rows : ℕ) (o : Option TableShape) → IsSome (where_at t v rows o) → IsSome o
some_at t v rows None h = h
some_at t v rows (Some table) h = refl

pub table_there : (shape : ShapeParts) (t v rows : ℕ) → IsSome (group_of shape.tables rows t v) → IsSome (slice_get shape.tables t)
table_there shape t v rows h = some_at t v rows (slice_get shape.tables t) h

-- ---- what is made is the shape's group
abbrev of_width : ℕ → List ConstraintShape → List ConstraintShape
of_width v zs = filter (λ (z : ConstraintShape). z.log_values == v) zs

abbrev columns_in : ℕ → TableShape → List ℕ
columns_in v table = named (group v table) (length table.columns)

pub columns_are : (v n : ℕ) (table : TableShape) (zs : List ConstraintShape) (columns : List ℕ) → zs ≡ table.constraints → n ≡ length table.columns → columns ≡ named (of_width v zs) n → columns ≡ columns_in v table
columns_are v n table zs columns e l h = h ∙ (λ i. named (of_width v (e i)) (l i))

pub forms_are : (v : ℕ) (table : TableShape) (zs : List ConstraintShape) (columns : List ℕ) (forms : List Tree) → zs ≡ table.constraints → columns ≡ columns_in v table → forms ≡ map (λ (z : ConstraintShape). form_on columns z.expr) (of_width v zs)
    → forms ≡ map (λ (z : ConstraintShape). form_on (columns_in v table) z.expr) (group v table)
forms_are v table zs columns forms e c h = h ∙ (λ i. map (λ (z : ConstraintShape). form_on (c i) z.expr) (of_width v (e i)))

pub degree_is : (v d : ℕ) (table : TableShape) (zs : List ConstraintShape) → zs ≡ table.constraints → d ≡ greatest (map (λ (z : ConstraintShape). z.degree) (of_width v zs)) → d ≡ greatest (map (λ (z : ConstraintShape). z.degree) (group v table))
degree_is v d table zs e h = h ∙ ap (λ ws. greatest (map (λ (z : ConstraintShape). z.degree) (of_width v ws))) e

pub record Kept (columns : List ℕ) (forms : List Tree) (d v n : ℕ) : Type 0 where
  pub some : 1 ≤ length forms
  pub low : d ≤ 8
  pub few : n ≤ 32
  pub within : v ≤ n
  pub short : length columns < 2 ^ 30
  pub below : AllByRecursion (λ (f : Tree). VariablesBelow (length columns) (form_of f)) forms

pub kept_is : (shape : ShapeParts) (t v rows : ℕ) (table : TableShape) → IsReady shape t v rows table → rows ≤ 1048576 → (columns : List ℕ) (forms : List Tree) (d l : ℕ) → columns ≡ columns_in v table
    → forms ≡ map (λ (z : ConstraintShape). form_on (columns_in v table) z.expr) (group v table) → d ≡ greatest (map (λ (z : ConstraintShape). z.degree) (group v table)) → l ≡ ceil_log rows → Kept columns forms d v (l + v)
kept_is shape t v rows table r m columns forms d l c f e w = record {
  some = let a = ap length f in let b = length-map (group v table) (λ (z : ConstraintShape). form_on (columns_in v table) z.expr) in let s = r.some in omega arith;
  low = let s = r.low in omega arith;
  few = let s = rows_small rows m in let q = r.values in omega arith;
  within = omega arith;
  short = let a = ap length c in let s = r.short in omega arith;
  below = subst (λ (cs : List ℕ). AllByRecursion (λ (x : Tree). VariablesBelow (length cs) (form_of x)) forms) (sym c)
      (subst (λ (fs : List Tree). AllByRecursion (λ (x : Tree). VariablesBelow (length (columns_in v table)) (form_of x)) fs) (sym f) r.below);
}

pub group_made : (shape : ShapeParts) (t v rows : ℕ) (table : TableShape) → IsReady shape t v rows table → (columns : List ℕ) (forms : List Tree) (d l : ℕ) → columns ≡ columns_in v table
    → forms ≡ map (λ (z : ConstraintShape). form_on (columns_in v table) z.expr) (group v table) → d ≡ greatest (map (λ (z : ConstraintShape). z.degree) (group v table)) → l ≡ ceil_log rows
    → group_of shape.tables rows t v ≡ Some (record { table = t; log_values = v; rows = rows; vars = l + v; degree = d; columns = columns; constraints = forms })
group_made shape t v rows table r columns forms d l c f e w =
    r.found ∙ (λ i. Some (record { table = t; log_values = v; rows = rows; vars = sym w i + v; degree = sym e i; columns = sym c i; constraints = sym f i }))

-- ---- a group that is there
group_made_at : (rows n t : ℕ) (zs : List ConstraintShape) (z : ConstraintShape) → slice_get zs 0 ≡ Some z
    → (g : Group) × (group_where t z.log_values rows n (filter (λ (y : ConstraintShape). y.log_values == z.log_values) zs) ≡ Some g)
group_made_at rows n t [] z e = absurd (cc)
group_made_at rows n t (x ∷ zs) z e =
    let same = eq-eqb x.log_values z.log_values (ap (λ (y : ConstraintShape). y.log_values) (same_Some x z e)) in
    let rest = filter (λ (y : ConstraintShape). y.log_values == z.log_values) zs in
    (group_with t z.log_values rows n (x ∷ rest), ap (λ b. group_where t z.log_values rows n (cond b (x ∷ rest) rest)) same)

-- the first constraint of a table is in a group
pub first_group : (tables : List TableShape) (rows t : ℕ) (table : TableShape) (z : ConstraintShape) → slice_get tables t ≡ Some table → slice_get table.constraints 0 ≡ Some z
    → (g : Group) × (group_of tables rows t z.log_values ≡ Some g)
first_group tables rows t table z e f =
    let made = group_made_at rows (length table.columns) t table.constraints z f in
    (made.0, ap (λ o. option_and_then (λ (y : TableShape). group_where t z.log_values rows (length y.columns) (group z.log_values y)) o) e ∙ made.1)

-- ---- whether there is one
where_some : (t v rows n : ℕ) (zs : List ConstraintShape) → is_some (group_where t v rows n (filter (λ (z : ConstraintShape). z.log_values == v) zs)) ≡ list_any (λ (z : ConstraintShape). z.log_values == v) zs
where_some t v rows n [] = refl
where_some t v rows n (z ∷ zs) =
    let rest = filter (λ (y : ConstraintShape). y.log_values == v) zs in
    elim (z.log_values == v) as (λ b. is_some (group_where t v rows n (cond b (z ∷ rest) rest)) ≡ (b || list_any (λ (y : ConstraintShape). y.log_values == v) zs)) [ true ↦ refl | false ↦ where_some t v rows n zs ]

pub group_there : (tables : List TableShape) (rows t v : ℕ) (table : TableShape) → slice_get tables t ≡ Some table → is_some (group_of tables rows t v) ≡ list_any (λ (z : ConstraintShape). z.log_values == v) table.constraints
group_there tables rows t v table e = ap (λ (o : Option TableShape). is_some (where_at t v rows o)) e ∙ where_some t v rows (length table.columns) table.constraints

pub none_there : (tables : List TableShape) (rows t v : ℕ) → slice_get tables t ≡ None → is_some (group_of tables rows t v) ≡ false
none_there tables rows t v e = ap (λ (o : Option TableShape). is_some (where_at t v rows o)) e
