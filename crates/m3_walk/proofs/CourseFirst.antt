-- The claims that flushes and groups leave: on columns that are there, as often as they are named.
use Rattle.std.proofs.Common.{◌≡◌, ◌∙◌, ◌<◌, ◌+◌, ◌==◌, ◌||◌, ℕ, zero, suc, Bool, true, false, cond, List, [], ◌∷◌, ◌++◌, length, map, slice_index, slice_get, Option, Some, None, refl, sym, ap, subst, arith}
use Rattle.std.proofs.lemmas.Bool.{and_parts, eqb-true}
use Rattle.std.proofs.lemmas.Grind.{flat_map-append}
use Rattle.std.proofs.lemmas.List.{length-append, length-map, map-append}
use Rattle.std.proofs.lemmas.Option.{slice_get_within}
use Rattle.std.specs.List.{AllByRecursion, filter, flat_map, list_all, list_any}
use Rattle.std.specs.Option.{IsSomeAnd}
use Rattle.list_laws.specs.CeilLog.{ceil_log}
use Rattle.cube_laws.specs.Sums.{tabulate}
use Rattle.table_text.specs.Limits.{max_log_values}
use Rattle.table_shape.specs.declared.shape.ColumnShape.{ColumnShape}
use Rattle.table_shape.specs.declared.shape.ConstraintShape.{ConstraintShape}
use Rattle.table_shape.specs.declared.shape.FlushShape.{FlushShape}
use Rattle.table_shape.specs.declared.shape.ShapeExpr.{ShapeExpr}
use Rattle.table_shape.specs.declared.shape.ShapeExpr.TheFolds.{fold-roll-ShapeExpr, ind-ShapeExpr, map-ShapeExpr}
use Rattle.table_shape.specs.declared.shape.ShapeExpr.TheOpen.{ShapeExpr-F}
use Rattle.table_shape.specs.declared.shape.TableShape.{TableShape}
use Rattle.table_shape.specs.Counts.{group}
use Rattle.table_shape.specs.Fits.{HasOneValue, IsSelector, ShapeFits}
use Rattle.table_shape.specs.Parts.{ShapeParts}
use Rattle.table_shape.specs.Width.{has_width, has_width_step}
use Rattle.channel_products.specs.Channels.{flushes_from, flushes_of}
use Rattle.channel_products.specs.Given.{named_columns, selector_columns}
use Rattle.zerocheck.specs.Group.{names, names_step}
use Rattle.zerocheck.proofs.FirstLaws.{Fitting, all_fitting}
use Rattle.eval_reduce.specs.Virtual.{column_of, vars_on}
use Rattle.proof_plan.specs.Plan.{first_columns, group_columns, times_in}
use Rattle.proof_plan.proofs.Bounded.{all_append}
use Rattle.proof_plan.proofs.SmallShape.{all_from}
use Rattle.m3_walk.specs.Linking.{Place, places_on}
use Rattle.m3_walk.proofs.CourseChannels.{flushed_places, leaf_places}
use Rattle.m3_walk.proofs.CourseForms.{column_there}
use Rattle.m3_walk.proofs.CourseGroups.{constrained_places, constraint_places, group_places}
use Rattle.m3_walk.proofs.CoursePlaces.{count-append, count-other_table, count-places_on, count_on, times-append}

-- ---- a column that is there, with 2 ^ v values per row
pub record HasWidth (columns : List ColumnShape) (v c : ℕ) : Type 0 where
  pub column : ColumnShape
  pub is : slice_get columns c ≡ Some column
  pub width : column.log_values ≡ v

-- ---- those that an expression names
abbrev column_test : ℕ → Option ColumnShape → Bool
column_test v o = elim o [ Some column ↦ column.log_values == v | None ↦ false ]

abbrev Wide : List ColumnShape → ℕ → ℕ → ShapeExpr → Type 0
Wide columns v c e = names c e ≡ true → has_width columns v e ≡ true → column_test v (slice_get columns c) ≡ true

abbrev Widened : List ColumnShape → ℕ → ℕ → Type 0
Widened columns v c = (e : ShapeExpr) × Wide columns v c e

one_of : (a b g : Bool) → (a || b) ≡ true → (a ≡ true → g ≡ true) → (b ≡ true → g ≡ true) → g ≡ true
one_of true b g h f k = f refl
one_of false b g h f k = k h

parts_wide : (columns : List ColumnShape) (v c : ℕ) (es : List (Widened columns v c)) → list_any (λ b. b) (map (names c) (map (λ e. e.0) es)) ≡ true → list_all (λ b. b) (map (has_width columns v) (map (λ e. e.0) es)) ≡ true
    → column_test v (slice_get columns c) ≡ true
parts_wide columns v c [] n h = absurd cc
parts_wide columns v c (e ∷ es) n h =
    let p = and_parts (has_width columns v e.0) (list_all (λ b. b) (map (has_width columns v) (map (λ e. e.0) es))) h in
    one_of (names c e.0) (list_any (λ b. b) (map (names c) (map (λ e. e.0) es))) (column_test v (slice_get columns c)) n (λ t. e.1 t p.0) (λ t. parts_wide columns v c es t p.1)

abbrev WideLayer : List ColumnShape → ℕ → ℕ → ShapeExpr-F ShapeExpr → Type 0
WideLayer columns v c x = names_step c (map-ShapeExpr ShapeExpr Bool (names c) x) ≡ true → has_width_step columns v (map-ShapeExpr ShapeExpr Bool (has_width columns v) x) ≡ true → column_test v (slice_get columns c) ≡ true

layer_wide : (columns : List ColumnShape) (v c : ℕ) (y : ShapeExpr-F (Widened columns v c)) → WideLayer columns v c (map-ShapeExpr (Widened columns v c) ShapeExpr (λ e. e.0) y)
layer_wide columns v c (ShapeExpr-F.Number n) t h = absurd cc
layer_wide columns v c (ShapeExpr-F.Column k) t h = ap (λ j. column_test v (slice_get columns j)) (sym (eqb-true k c t)) ∙ h
layer_wide columns v c (ShapeExpr-F.Sum es) t h = parts_wide columns v c es t h
layer_wide columns v c (ShapeExpr-F.Product es) t h = parts_wide columns v c es t h

named_wide : (columns : List ColumnShape) (v c : ℕ) (e : ShapeExpr) → Wide columns v c e
named_wide columns v c = ind-ShapeExpr (Wide columns v c) (λ x y is n h.
    subst (WideLayer columns v c) is (layer_wide columns v c y) (sym (fold-roll-ShapeExpr Bool (names_step c) x) ∙ n) (sym (fold-roll-ShapeExpr Bool (has_width_step columns v) x) ∙ h))

some_wide : (columns : List ColumnShape) (v c : ℕ) (zs : List ConstraintShape) → AllByRecursion (Fitting columns v) zs → list_any (λ (z : ConstraintShape). names c z.expr) zs ≡ true → column_test v (slice_get columns c) ≡ true
some_wide columns v c [] h n = absurd cc
some_wide columns v c (z ∷ zs) h n =
    one_of (names c z.expr) (list_any (λ (z : ConstraintShape). names c z.expr) zs) (column_test v (slice_get columns c)) n
    (λ t. named_wide columns v c z.expr t (ap (λ w. has_width columns w z.expr) (sym h.0.values) ∙ h.0.fits.equal_width)) (some_wide columns v c zs h.1)

width_there : (columns : List ColumnShape) (v c : ℕ) (o : Option ColumnShape) → slice_get columns c ≡ o → column_test v o ≡ true → HasWidth columns v c
width_there columns v c None e h = absurd cc
width_there columns v c (Some column) e h = record { column = column; is = e; width = eqb-true column.log_values v h }

passing : (P : ℕ → Type 0) (q : ℕ → Bool) → ((c : ℕ) → q c ≡ true → P c) → (cs : List ℕ) → AllByRecursion P (filter q cs)
passing P q f [] = tt
passing P q f (c ∷ cs) = elim (q c) as (λ b. q c ≡ b → AllByRecursion P (cond b (c ∷ filter q cs) (filter q cs))) [ true ↦ λ e. (f c e, passing P q f cs) | false ↦ λ e. passing P q f cs ] refl

group_wide : (columns : List ColumnShape) (v : ℕ) (zs : List ConstraintShape) → AllByRecursion (Fitting columns v) zs → (cs : List ℕ) → AllByRecursion (HasWidth columns v) (filter (λ c. list_any (λ (z : ConstraintShape). names c z.expr) zs) cs)
group_wide columns v zs h cs = passing (HasWidth columns v) (λ c. list_any (λ (z : ConstraintShape). names c z.expr) zs) (λ c n. width_there columns v c (slice_get columns c) refl (some_wide columns v c zs h n)) cs

-- ---- those that a flush names
one_value : (columns : List ColumnShape) (c : ℕ) (o : Option ColumnShape) → slice_get columns c ≡ o → IsSomeAnd o (λ (column : ColumnShape). column.log_values ≡ 0) → HasWidth columns 0 c
one_value columns c None e h = absurd h
one_value columns c (Some column) e h = record { column = column; is = e; width = h }

values_wide : (columns : List ColumnShape) (cs : List ℕ) → AllByRecursion (HasOneValue columns) cs → AllByRecursion (HasWidth columns 0) cs
values_wide columns [] h = tt
values_wide columns (c ∷ cs) h = (one_value columns c (slice_get columns c) refl h.0, values_wide columns cs h.1)

selected : (columns : List ColumnShape) (s : ℕ) (o : Option ColumnShape) → slice_get columns s ≡ o → IsSomeAnd o (λ (column : ColumnShape). (column.level ≡ 0) × (column.log_values ≡ 0)) → HasWidth columns 0 s
selected columns s None e h = absurd h
selected columns s (Some column) e h = record { column = column; is = e; width = h.1 }

selector_wide : (columns : List ColumnShape) (s : Option ℕ) → IsSelector columns s → AllByRecursion (HasWidth columns 0) (selector_columns s)
selector_wide columns None h = tt
selector_wide columns (Some s) h = (selected columns s (slice_get columns s) refl h, tt)

flush_wide : (columns : List ColumnShape) (fs : List FlushShape) → AllByRecursion (λ (f : FlushShape). AllByRecursion (HasOneValue columns) f.columns × IsSelector columns f.selector) fs → AllByRecursion (HasWidth columns 0) (flat_map named_columns fs)
flush_wide columns [] h = tt
flush_wide columns (f ∷ fs) h =
    all_append (HasWidth columns 0) (named_columns f) (flat_map named_columns fs)
    (all_append (HasWidth columns 0) (selector_columns f.selector) f.columns (selector_wide columns f.selector h.0.1) (values_wide columns f.columns h.0.0)) (flush_wide columns fs h.1)

-- ---- claims on columns of table t, which stand for these columns
pub record IsThere (all : List TableShape) (rows : List ℕ) (p : Place) : Type 0 where
  pub column : ColumnShape
  pub there : column_of all p.table p.column ≡ Some column
  pub vars : p.vars ≡ vars_on (slice_index rows p.table) column

pub record StandFor (all : List TableShape) (rows : List ℕ) (t : ℕ) (table : TableShape) (ps : List Place) (cs : List ℕ) : Type 0 where
  pub counts : (c : ℕ) → count_on t c ps ≡ times_in c cs
  pub others : (u c : ℕ) → (t ≡ u → ⊥) → count_on u c ps ≡ 0
  pub size : length ps ≡ length cs
  pub there : AllByRecursion (IsThere all rows) ps
  pub low : AllByRecursion (λ c. c < length table.columns) cs

none_stand : (all : List TableShape) (rows : List ℕ) (t : ℕ) (table : TableShape) → StandFor all rows t table [] []
none_stand all rows t table = record { counts = λ c. refl; others = λ u c h. refl; size = refl; there = tt; low = tt }

both_stand : (all : List TableShape) (rows : List ℕ) (t : ℕ) (table : TableShape) (ps qs : List Place) (cs ds : List ℕ) → StandFor all rows t table ps cs → StandFor all rows t table qs ds → StandFor all rows t table (ps ++ qs) (cs ++ ds)
both_stand all rows t table ps qs cs ds a b = record {
  counts = λ c. count-append t c ps qs ∙ (λ i. a.counts c i + b.counts c i) ∙ sym (times-append c cs ds);
  others = λ u c h. count-append u c ps qs ∙ (λ i. a.others u c h i + b.others u c h i);
  size = length-append ps qs ∙ (λ i. a.size i + b.size i) ∙ sym (length-append cs ds);
  there = all_append (IsThere all rows) ps qs a.there b.there;
  low = all_append (λ c. c < length table.columns) cs ds a.low b.low;
}

on_there : (all : List TableShape) (rows : List ℕ) (t n v : ℕ) (table : TableShape) → slice_get all t ≡ Some table → n ≡ ceil_log (slice_index rows t) + v → (cs : List ℕ) → AllByRecursion (HasWidth table.columns v) cs → AllByRecursion (IsThere all rows) (places_on t n cs)
on_there all rows t n v table at e [] h = tt
on_there all rows t n v table at e (c ∷ cs) h =
    let w = h.0.width in
    (record { column = h.0.column; there = column_there all t c table h.0.column at h.0.is; vars = omega arith }, on_there all rows t n v table at e cs h.1)

on_low : (columns : List ColumnShape) (v : ℕ) (cs : List ℕ) → AllByRecursion (HasWidth columns v) cs → AllByRecursion (λ c. c < length columns) cs
on_low columns v [] h = tt
on_low columns v (c ∷ cs) h = (slice_get_within columns c h.0.column h.0.is, on_low columns v cs h.1)

on_stand : (all : List TableShape) (rows : List ℕ) (t n v : ℕ) (table : TableShape) (cs : List ℕ) → slice_get all t ≡ Some table → n ≡ ceil_log (slice_index rows t) + v → AllByRecursion (HasWidth table.columns v) cs → StandFor all rows t table (places_on t n cs) cs
on_stand all rows t n v table cs at e h = record {
  counts = λ c. count-places_on t n c cs;
  others = λ u c o. count-other_table t u n c cs o;
  size = length-map cs (λ c. record { table = t; column = c; vars = n });
  there = on_there all rows t n v table at e cs h;
  low = on_low table.columns v cs h;
}

-- ---- of a table's flushes, and of its groups
flushes_leave : (t rows k : ℕ) (fs : List FlushShape) → flat_map leaf_places (flushes_of t rows k fs) ≡ places_on t (ceil_log rows) (flat_map named_columns fs)
flushes_leave t rows k [] = refl
flushes_leave t rows k (f ∷ fs) =
    ap (λ ps. places_on t (ceil_log rows) (named_columns f) ++ ps) (flushes_leave t rows (k + 1) fs)
    ∙ sym (map-append (λ c. record { table = t; column = c; vars = ceil_log rows }) (named_columns f) (flat_map named_columns fs))

abbrev flush_part : List ℕ → ℕ → TableShape → List Place
flush_part rows t table = places_on t (ceil_log (slice_index rows t)) (flat_map named_columns table.flushes)

flushes_stand : (shape : ShapeParts) (rows : List ℕ) (t : ℕ) (table : TableShape) → ShapeFits shape → slice_get shape.tables t ≡ Some table → StandFor shape.tables rows t table (flush_part rows t table) (flat_map named_columns table.flushes)
flushes_stand shape rows t table fits at =
    on_stand shape.tables rows t (ceil_log (slice_index rows t)) 0 table (flat_map named_columns table.flushes) at (omega arith)
    (flush_wide table.columns table.flushes (all_from _ table.flushes (λ k flush here. let f = fits.flushes t table at k flush here in (f.one_value, f.selector))))

groups_stand : (shape : ShapeParts) (rows : List ℕ) (t : ℕ) (table : TableShape) → ShapeFits shape → slice_get shape.tables t ≡ Some table → (vs : List ℕ)
    → StandFor shape.tables rows t table (flat_map (group_places (slice_index rows t) t table) vs) (flat_map (λ v. group_columns v table) vs)
groups_stand shape rows t table fits at [] = none_stand shape.tables rows t table
groups_stand shape rows t table fits at (v ∷ vs) =
    both_stand shape.tables rows t table (group_places (slice_index rows t) t table v) _ (group_columns v table) _
    (on_stand shape.tables rows t (ceil_log (slice_index rows t) + v) v table (group_columns v table) at refl (group_wide table.columns v (group v table) (all_fitting shape t v table fits at) (tabulate (length table.columns) (λ c. c))))
    (groups_stand shape rows t table fits at vs)

-- ---- of all tables
abbrev pub parts : (ℕ → TableShape → List Place) → ℕ → List TableShape → List Place
parts f t [] = []
parts f t (table ∷ tables) = f t table ++ parts f (t + 1) tables

flushed_parts : (rows : List ℕ) (t : ℕ) (tables : List TableShape) → flat_map leaf_places (flushes_from rows t tables) ≡ parts (flush_part rows) t tables
flushed_parts rows t [] = refl
flushed_parts rows t (table ∷ tables) =
    flat_map-append leaf_places (flushes_of t (slice_index rows t) 0 table.flushes) (flushes_from rows (t + 1) tables)
    ∙ (λ i. flushes_leave t (slice_index rows t) 0 table.flushes i ++ flushed_parts rows (t + 1) tables i)

constrained_parts : (rows : List ℕ) (t : ℕ) (tables : List TableShape) → constrained_places rows t tables ≡ parts (λ t table. constraint_places (slice_index rows t) t table) t tables
constrained_parts rows t [] = refl
constrained_parts rows t (table ∷ tables) = ap (λ ps. constraint_places (slice_index rows t) t table ++ ps) (constrained_parts rows (t + 1) tables)

abbrev AllStandFor : (all : List TableShape) (rows : List ℕ) → (ℕ → TableShape → List Place) → (TableShape → List ℕ) → ℕ → List TableShape → Type 0
AllStandFor all rows f g t tables = (k : ℕ) (table : TableShape) → slice_get tables k ≡ Some table → StandFor all rows (t + k) table (f (t + k) table) (g table)

first_stands : (all : List TableShape) (rows : List ℕ) (f : ℕ → TableShape → List Place) (g : TableShape → List ℕ) (t : ℕ) (table : TableShape) (tables : List TableShape) → AllStandFor all rows f g t (table ∷ tables) → StandFor all rows t table (f t table) (g table)
first_stands all rows f g t table tables h = subst (λ n. StandFor all rows n table (f n table) (g table)) (omega arith) (h 0 table refl)

later_stand : (all : List TableShape) (rows : List ℕ) (f : ℕ → TableShape → List Place) (g : TableShape → List ℕ) (t : ℕ) (table : TableShape) (tables : List TableShape) → AllStandFor all rows f g t (table ∷ tables) → AllStandFor all rows f g (t + 1) tables
later_stand all rows f g t table tables h = λ k other at. subst (λ n. StandFor all rows n other (f n other) (g other)) (omega arith) (h (suc k) other at)

parts_before : (all : List TableShape) (rows : List ℕ) (f : ℕ → TableShape → List Place) (g : TableShape → List ℕ) (t : ℕ) (tables : List TableShape) → AllStandFor all rows f g t tables → (u c : ℕ) → u < t → count_on u c (parts f t tables) ≡ 0
parts_before all rows f g t [] h u c l = refl
parts_before all rows f g t (table ∷ tables) h u c l =
    count-append u c (f t table) (parts f (t + 1) tables)
    ∙ (λ i. (first_stands all rows f g t table tables h).others u c (λ e. omega arith) i + parts_before all rows f g (t + 1) tables (later_stand all rows f g t table tables h) u c (omega arith) i)

parts_count : (all : List TableShape) (rows : List ℕ) (f : ℕ → TableShape → List Place) (g : TableShape → List ℕ) (t : ℕ) (tables : List TableShape) → AllStandFor all rows f g t tables
    → (k c : ℕ) (table : TableShape) → slice_get tables k ≡ Some table → count_on (t + k) c (parts f t tables) ≡ times_in c (g table)
parts_count all rows f g t [] h k c table e = absurd cc
parts_count all rows f g t (table ∷ tables) h zero c other e =
    let same : table ≡ other = cc in
    let own : t + 0 ≡ t = omega arith in
    ap (λ n. count_on n c (f t table ++ parts f (t + 1) tables)) own ∙ count-append t c (f t table) (parts f (t + 1) tables)
    ∙ (λ i. (first_stands all rows f g t table tables h).counts c i + parts_before all rows f g (t + 1) tables (later_stand all rows f g t table tables h) t c (omega arith) i)
    ∙ omega arith ∙ ap (λ x. times_in c (g x)) same
parts_count all rows f g t (table ∷ tables) h (suc k) c other e =
    let own : t + suc k ≡ t + 1 + k = omega arith in
    ap (λ n. count_on n c (f t table ++ parts f (t + 1) tables)) own ∙ count-append (t + 1 + k) c (f t table) (parts f (t + 1) tables)
    ∙ (λ i. (first_stands all rows f g t table tables h).others (t + 1 + k) c (λ e. omega arith) i + parts_count all rows f g (t + 1) tables (later_stand all rows f g t table tables h) k c other e i)
    ∙ omega arith

parts_there : (all : List TableShape) (rows : List ℕ) (f : ℕ → TableShape → List Place) (g : TableShape → List ℕ) (t : ℕ) (tables : List TableShape) → AllStandFor all rows f g t tables → AllByRecursion (IsThere all rows) (parts f t tables)
parts_there all rows f g t [] h = tt
parts_there all rows f g t (table ∷ tables) h =
    all_append (IsThere all rows) (f t table) (parts f (t + 1) tables) (first_stands all rows f g t table tables h).there (parts_there all rows f g (t + 1) tables (later_stand all rows f g t table tables h))

abbrev pub total : (TableShape → List ℕ) → List TableShape → ℕ
total g [] = 0
total g (table ∷ tables) = length (g table) + total g tables

parts_size : (all : List TableShape) (rows : List ℕ) (f : ℕ → TableShape → List Place) (g : TableShape → List ℕ) (t : ℕ) (tables : List TableShape) → AllStandFor all rows f g t tables → length (parts f t tables) ≡ total g tables
parts_size all rows f g t [] h = refl
parts_size all rows f g t (table ∷ tables) h =
    length-append (f t table) (parts f (t + 1) tables) ∙ (λ i. (first_stands all rows f g t table tables h).size i + parts_size all rows f g (t + 1) tables (later_stand all rows f g t table tables h) i)

-- ---- all together
abbrev flush_names : TableShape → List ℕ
flush_names table = flat_map named_columns table.flushes

abbrev group_names : TableShape → List ℕ
group_names table = flat_map (λ v. group_columns v table) (tabulate (max_log_values + 1) (λ v. v))

pub total_first : (tables : List TableShape) → total first_columns tables ≡ total flush_names tables + total group_names tables
total_first [] = refl
total_first (table ∷ tables) = let a = length-append (flush_names table) (group_names table) in let b = total_first tables in omega arith

abbrev pub started_places : ShapeParts → List ℕ → List Place
started_places shape rows = flushed_places shape rows ++ constrained_places rows 0 shape.tables

pub record Started (shape : ShapeParts) (rows : List ℕ) : Type 0 where
  pub there : AllByRecursion (IsThere shape.tables rows) (started_places shape rows)
  pub counts : (t c : ℕ) (table : TableShape) → slice_get shape.tables t ≡ Some table → count_on t c (started_places shape rows) ≡ times_in c (first_columns table)
  pub size : length (started_places shape rows) ≡ total first_columns shape.tables
  pub low : (t : ℕ) (table : TableShape) → slice_get shape.tables t ≡ Some table → AllByRecursion (λ c. c < length table.columns) (first_columns table)

from_none : (t : ℕ) → 0 + t ≡ t
from_none t = omega arith

pub all_started : (shape : ShapeParts) (rows : List ℕ) → ShapeFits shape → Started shape rows
all_started shape rows fits =
    let all = shape.tables in
    let f : AllStandFor all rows (flush_part rows) flush_names 0 all = λ k table at. flushes_stand shape rows (0 + k) table fits (subst (λ n. slice_get all n ≡ Some table) (sym (from_none k)) at) in
    let g : AllStandFor all rows (λ t table. constraint_places (slice_index rows t) t table) group_names 0 all = λ k table at. groups_stand shape rows (0 + k) table fits (subst (λ n. slice_get all n ≡ Some table) (sym (from_none k)) at) (tabulate (max_log_values + 1) (λ v. v)) in
    let a = parts (flush_part rows) 0 all in
    let b = parts (λ t table. constraint_places (slice_index rows t) t table) 0 all in
    let are : started_places shape rows ≡ a ++ b = (λ i. flushed_parts rows 0 all i ++ constrained_parts rows 0 all i) in
    record {
      there = subst (AllByRecursion (IsThere all rows)) (sym are) (all_append (IsThere all rows) a b (parts_there all rows (flush_part rows) flush_names 0 all f) (parts_there all rows (λ t table. constraint_places (slice_index rows t) t table) group_names 0 all g));
      counts = λ t c table at.
          ap (count_on t c) are ∙ count-append t c a b
          ∙ (λ i. (ap (λ n. count_on n c a) (sym (from_none t)) ∙ parts_count all rows (flush_part rows) flush_names 0 all f t c table at) i + (ap (λ n. count_on n c b) (sym (from_none t)) ∙ parts_count all rows (λ t table. constraint_places (slice_index rows t) t table) group_names 0 all g t c table at) i)
          ∙ sym (times-append c (flush_names table) (group_names table));
      size = ap length are ∙ length-append a b ∙ (λ i. parts_size all rows (flush_part rows) flush_names 0 all f i + parts_size all rows (λ t table. constraint_places (slice_index rows t) t table) group_names 0 all g i) ∙ sym (total_first all);
      low = λ t table at. all_append (λ c. c < length table.columns) (flush_names table) (group_names table) (flushes_stand shape rows t table fits at).low (groups_stand shape rows t table fits at (tabulate (max_log_values + 1) (λ v. v))).low;
    }
