-- The reductions of claims on the columns of a table, from the last column to the first, in their course.
use Rattle.std.proofs.Common.{◌≡◌, ◌∙◌, ◌<◌, ◌≤◌, ◌+◌, ◌-◌, ◌==◌, ◌⊎◌, ltb, ℕ, zero, suc, true, false, cond, List, [], ◌∷◌, ◌++◌, length, map, take, slice_index, slice_get, Option, Some, None, inl, inr, refl, sym, ap, subst, arith}
use Rattle.std.proofs.lemmas.Bool.{cases_lt, eq-eqb, eqb-true, ltb-false, ltb-true}
use Rattle.std.proofs.lemmas.List.{append-nil, length-append, length-map}
use Rattle.std.proofs.lemmas.List.Elements.{filter-append}
use Rattle.std.specs.List.{AllByRecursion, filter}
use Rattle.std.specs.Option.{IsSomeAnd}
use Rattle.list_laws.specs.CeilLog.{ceil_log}
use Rattle.poly_forms.specs.declared.check_kind.CheckKind.TheVariants as check
use Rattle.poly_forms.specs.declared.draw_kind.DrawKind.TheVariants as draw
use Rattle.sumcheck.specs.declared.entry.Entry.{Entry}
use Rattle.table_shape.specs.declared.shape.ColumnKind.{ColumnKind}
use Rattle.table_shape.specs.declared.shape.ColumnKind.TheVariants.{Committed, Virtual}
use Rattle.table_shape.specs.declared.shape.ColumnShape.{ColumnShape}
use Rattle.table_shape.specs.declared.shape.ShapeForm.{ShapeForm}
use Rattle.table_shape.specs.declared.shape.ShapeForm.TheVariants as form
use Rattle.table_shape.specs.declared.shape.ShapeTerm.{ShapeTerm}
use Rattle.table_shape.specs.declared.shape.TableShape.{TableShape}
use Rattle.table_shape.specs.Fits.{ColumnFits, HasKind, IsFormOf, IsPackOf, IsProjectOf, IsShiftOf}
use Rattle.eval_reduce.specs.Merge as merge
use Rattle.eval_reduce.specs.Virtual.{column_of, vars_on}
use Rattle.proof_plan.specs.declared.plan_entry.PlanEntry.TheVariants.{Draw}
use Rattle.proof_plan.specs.Plan as plans
use Rattle.proof_plan.specs.Plan.{claims_after, column_entries, columns_entries, committed_claims, first_columns, form_sources, is_committed, kind_entries, merge_entries, sources, times_in}
use Rattle.proof_plan.proofs.Bounded.{all_append}
use Rattle.proof_plan.proofs.SmallShape.{all_from}
use Rattle.m3_walk.specs.declared.stage.Stage.{Stage}
use Rattle.m3_walk.specs.declared.stage.Stage.TheVariants as stage
use Rattle.m3_walk.specs.Course.{column_stages, columns_stages, form_stages, merge_stages, source_count, walked}
use Rattle.m3_walk.specs.Linking.{AllOfVars, IsOne, Place, is_elsewhere, is_place, places_on}
use Rattle.m3_walk.proofs.CourseChannels.{kept_at, walked_append}
use Rattle.m3_walk.proofs.CourseForms.{BlockFits, column_there, form_goes, form_stages_are, form_vars, kind_stages, merge_goes}
use Rattle.m3_walk.proofs.CoursePlaces.{all-elsewhere, all_parts, count-append, count-elsewhere, count-other_table, count-places_on, count_on, elsewhere, here, is_here, is_one, none-elsewhere, others-elsewhere, parted, place, times-append, twice-elsewhere}
use Rattle.m3_walk.proofs.CourseSteps.{Goes, none_go, same_due, same_left, then_go, unequal}
use Rattle.m3_walk.proofs.Taking.{all_passed}

-- ---- how many claims are on the first columns
abbrev pub below : ℕ → List ℕ → ℕ
below zero cs = 0
below (suc m) cs = times_in m cs + below m cs

below-append : (m : ℕ) (xs ys : List ℕ) → below m (xs ++ ys) ≡ below m xs + below m ys
below-append zero xs ys = refl
below-append (suc m) xs ys = omega (arith, times-append m xs ys, below-append m xs ys)

below_past : (m c : ℕ) → m ≤ c → below m (c ∷ []) ≡ 0
below_past zero c h = refl
below_past (suc m) c h =
    let other : (c == m) ≡ false = unequal c m (λ e. omega arith) in
    (λ i. cond (other i) 1 0 + 0 + below_past m c (omega arith) i)

below_one : (m c : ℕ) → c < m → below m (c ∷ []) ≡ 1
below_one zero c h = absurd (omega arith)
below_one (suc m) c h = elim (cases_lt c m) [
  | inl l ↦ let other : (c == m) ≡ false = unequal c m (λ e. omega arith) in (λ i. cond (other i) 1 0 + 0 + below_one m c l i)
  | inr g ↦ (λ i. cond (eq-eqb c m (omega arith) i) 1 0 + 0 + below_past m c g i)
]

pub below_all : (m : ℕ) (cs : List ℕ) → AllByRecursion (λ c. c < m) cs → below m cs ≡ length cs
below_all m [] h = none m
  where
    none : (m : ℕ) → below m [] ≡ 0
    none zero = refl
    none (suc m) = let h = none m in omega arith
below_all m (c ∷ cs) h = below-append m (c ∷ []) cs ∙ (λ i. below_one m c h.0 i + below_all m cs h.1 i) ∙ omega arith

-- ---- a claim's column is there, and it is committed or is still to come
pub record Stands (all : List TableShape) (rows : List ℕ) (t m : ℕ) (p : Place) : Type 0 where
  pub column : ColumnShape
  pub there : column_of all p.table p.column ≡ Some column
  pub vars : p.vars ≡ vars_on (slice_index rows p.table) column
  pub later : (column.kind ≡ Committed) ⊎ ((t < p.table) ⊎ ((p.table ≡ t) × (p.column < m)))

lower : (all : List TableShape) (rows : List ℕ) (t c : ℕ) (p : Place) → is_elsewhere t c p ≡ true → Stands all rows t (suc c) p → Stands all rows t c p
lower all rows t c p e s = record { column = s.column; there = s.there; vars = s.vars; later = go s.later }
  where
    off : is_place t c p ≡ true → ⊥
    off on = let no : false ≡ true = sym (ap (λ b. cond b false true) on) ∙ e in absurd cc

    go : (s.column.kind ≡ Committed) ⊎ ((t < p.table) ⊎ ((p.table ≡ t) × (p.column < suc c))) → (s.column.kind ≡ Committed) ⊎ ((t < p.table) ⊎ ((p.table ≡ t) × (p.column < c)))
    go (inl k) = inl k
    go (inr (inl l)) = inr (inl l)
    go (inr (inr q)) = elim (cases_lt p.column c) [
      | inl l ↦ inr (inr (q.0, l))
      | inr g ↦ absurd (off (here t c p q.0 (let l = q.1 in omega arith)))
    ]

-- ---- the column that is next
pub record IsNext (all : List TableShape) (t : ℕ) (table : TableShape) (c : ℕ) (column : ColumnShape) : Type 0 where
  pub table_is : slice_get all t ≡ Some table
  pub column_is : slice_get table.columns c ≡ Some column
  pub fits : ColumnFits (take c table.columns) column

some_is : {X : Type 0} (x y : X) → Some x ≡ Some y → x ≡ y
some_is x y e = cc

own_vars : (all : List TableShape) (rows : List ℕ) (t m c : ℕ) (column : ColumnShape) → column_of all t c ≡ Some column → (p : Place) → is_place t c p ≡ true → Stands all rows t m p → p.vars ≡ vars_on (slice_index rows t) column
own_vars all rows t m c column at p on s =
    let both = is_here t c p on in
    let same : s.column ≡ column = some_is s.column column (sym s.there ∙ (λ i. column_of all (both.0 i) (both.1 i)) ∙ at) in
    s.vars ∙ (λ i. vars_on (slice_index rows (both.0 i)) (same i))

-- ---- the columns that a virtual one is made from
record IsSource (columns : List ColumnShape) (f : ShapeForm) (column : ColumnShape) (c s : ℕ) : Type 0 where
  source : ColumnShape
  at : slice_get columns s ≡ Some source
  before : s < c
  width : (l : ℕ) → form_vars f (l + column.log_values) ≡ l + source.log_values

taken : {X : Type 0} (xs : List X) (n i : ℕ) (x : X) → slice_get (take n xs) i ≡ Some x → (slice_get xs i ≡ Some x) × (i < n)
taken [] zero i x e = absurd cc
taken [] (suc n) i x e = absurd cc
taken (y ∷ ys) zero i x e = absurd cc
taken (y ∷ ys) (suc n) zero x e = (e, omega arith)
taken (y ∷ ys) (suc n) (suc i) x e = let h = taken ys n i x e in (h.0, (let l = h.1 in omega arith))

source_at : (columns : List ColumnShape) (f : ShapeForm) (column : ColumnShape) (c s : ℕ) (P : ColumnShape → Type 0) → ((source : ColumnShape) → P source → (l : ℕ) → form_vars f (l + column.log_values) ≡ l + source.log_values)
    → (o : Option ColumnShape) → slice_get (take c columns) s ≡ o → IsSomeAnd o P → IsSource columns f column c s
source_at columns f column c s P w None e h = absurd h
source_at columns f column c s P w (Some x) e h = let at = taken columns c s x e in record { source = x; at = at.0; before = at.1; width = w x h }

abbrev Sources : List ColumnShape → ShapeForm → ColumnShape → ℕ → List ℕ → Type 0
Sources columns f column c ss = AllByRecursion (IsSource columns f column c) ss

term_sources : (columns : List ColumnShape) (constant : ℕ) (all : List ShapeTerm) (column : ColumnShape) (c : ℕ) (ts : List ShapeTerm)
    → AllByRecursion (λ (t : ShapeTerm). IsSomeAnd (slice_get (take c columns) t.column) (λ (source : ColumnShape). source.log_values ≡ column.log_values)) ts
    → Sources columns (form.Linear constant all) column c (map (λ (t : ShapeTerm). t.column) ts)
term_sources columns constant all column c [] h = tt
term_sources columns constant all column c (t ∷ ts) h = (
  source_at columns (form.Linear constant all) column c t.column (λ (source : ColumnShape). source.log_values ≡ column.log_values) (λ source w l. omega (arith, w)) (slice_get (take c columns) t.column) refl h.0,
  term_sources columns constant all column c ts h.1,
)

form_has_sources : (columns : List ColumnShape) (column : ColumnShape) (c : ℕ) (f : ShapeForm) → IsFormOf (take c columns) column f → Sources columns f column c (form_sources f)
form_has_sources columns column c (form.Shl s block offset) h =
    (source_at columns (form.Shl s block offset) column c s (λ (source : ColumnShape). IsShiftOf source column block offset) (λ source x l. let w = x.log_values_is in omega arith) (slice_get (take c columns) s) refl h, tt)
form_has_sources columns column c (form.Shr s block offset) h =
    (source_at columns (form.Shr s block offset) column c s (λ (source : ColumnShape). IsShiftOf source column block offset) (λ source x l. let w = x.log_values_is in omega arith) (slice_get (take c columns) s) refl h, tt)
form_has_sources columns column c (form.Rol s block offset) h =
    (source_at columns (form.Rol s block offset) column c s (λ (source : ColumnShape). IsShiftOf source column block offset) (λ source x l. let w = x.log_values_is in omega arith) (slice_get (take c columns) s) refl h, tt)
form_has_sources columns column c (form.Pack s log) h =
    (source_at columns (form.Pack s log) column c s (λ (source : ColumnShape). IsPackOf source column log) (λ source x l. let w = x.log_values_is in omega arith) (slice_get (take c columns) s) refl h, tt)
form_has_sources columns column c (form.Project s log index) h =
    (source_at columns (form.Project s log index) column c s (λ (source : ColumnShape). IsProjectOf source column log index) (λ source x l. let w = x.log_values_is in omega arith) (slice_get (take c columns) s) refl h, tt)
form_has_sources columns column c (form.Linear constant terms) h = term_sources columns constant terms column c terms (all_from _ terms h.each)

shifted_block : (column : ColumnShape) (block offset l : ℕ) (o : Option ColumnShape) → IsSomeAnd o (λ (source : ColumnShape). IsShiftOf source column block offset) → block ≤ l + column.log_values
shifted_block column block offset l None h = absurd h
shifted_block column block offset l (Some x) h = let a = h.block_fits in let b = h.log_values_is in omega arith

block_fits : (before : List ColumnShape) (column : ColumnShape) (l : ℕ) (f : ShapeForm) → IsFormOf before column f → BlockFits f (l + column.log_values)
block_fits before column l (form.Shl s block offset) h = shifted_block column block offset l (slice_get before s) h
block_fits before column l (form.Shr s block offset) h = shifted_block column block offset l (slice_get before s) h
block_fits before column l (form.Rol s block offset) h = shifted_block column block offset l (slice_get before s) h
block_fits before column l (form.Pack s log) h = tt
block_fits before column l (form.Project s log index) h = tt
block_fits before column l (form.Linear constant terms) h = tt

sources_below : (columns : List ColumnShape) (f : ShapeForm) (column : ColumnShape) (c : ℕ) (ss : List ℕ) → Sources columns f column c ss → AllByRecursion (λ s. s < c) ss
sources_below columns f column c [] h = tt
sources_below columns f column c (s ∷ ss) h = (h.0.before, sources_below columns f column c ss h.1)

sources_stand : (all : List TableShape) (rows : List ℕ) (t c : ℕ) (table : TableShape) (f : ShapeForm) (column : ColumnShape) → slice_get all t ≡ Some table → (ss : List ℕ) → Sources table.columns f column c ss
    → AllByRecursion (Stands all rows t c) (places_on t (form_vars f (vars_on (slice_index rows t) column)) ss)
sources_stand all rows t c table f column at [] h = tt
sources_stand all rows t c table f column at (s ∷ ss) h = (
  record { column = h.0.source; there = column_there all t s table h.0.source at h.0.at; vars = h.0.width (ceil_log (slice_index rows t)); later = inr (inr (refl, h.0.before)) },
  sources_stand all rows t c table f column at ss h.1,
)

-- ---- the claims that wait while the columns cs of table t are to come, given from the last, where claims are on these columns, and `done` on committed columns that are done.
-- w claims are on the columns of later tables, which have s sources
pub record Open (all : List TableShape) (rows : List ℕ) (room t w s : ℕ) (cs : List ColumnShape) (claimed : List ℕ) (done : ℕ) (ps : List Place) : Type 0 where
  pub stand : AllByRecursion (Stands all rows t (length cs)) ps
  pub counts : (c : ℕ) → c < length cs → count_on t c ps ≡ times_in c claimed
  pub others : (u c : ℕ) (table : TableShape) → t < u → slice_get all u ≡ Some table → count_on u c ps ≡ times_in c (first_columns table)
  pub size : length ps ≡ done + (below (length cs) claimed + w)
  pub enough : length ps + (source_count cs + s) ≤ room

-- what is due of some reductions, and what they leave
pub record Passed (all : List TableShape) (rows : List ℕ) (room t w s : ℕ) (gs : List Stage) (es : List Entry) (cs : List ColumnShape) (claimed : List ℕ) (done : ℕ) (old : List Place) : Type 0 where
  pub places : List Place
  pub goes : Goes (kept_at room [] old) gs es (kept_at room [] places)
  pub state : Open all rows room t w s cs claimed done places

pub then_pass : {all : List TableShape} {rows : List ℕ} {room t w s : ℕ} {gs hs : List Stage} {es fs : List Entry} {cs ds : List ColumnShape} {claimed more : List ℕ} {done sum : ℕ} {old : List Place}
    → (a : Passed all rows room t w s gs es cs claimed done old) → Passed all rows room t w s hs fs ds more sum a.places → Passed all rows room t w s (gs ++ hs) (es ++ fs) ds more sum old
then_pass a b = record { places = b.places; goes = then_go a.goes b.goes; state = b.state }

-- the same of reductions, entries and a number that are equal
pub same_pass : {all : List TableShape} {rows : List ℕ} {room t w s : ℕ} {gs hs : List Stage} {es fs : List Entry} {cs : List ColumnShape} {claimed : List ℕ} {done sum : ℕ} {old : List Place}
    → gs ≡ hs → es ≡ fs → done ≡ sum → Passed all rows room t w s gs es cs claimed done old → Passed all rows room t w s hs fs cs claimed sum old
same_pass {all = all} {rows = rows} {room = room} {t = t} {w = w} {s = s} {hs = hs} {es = es} {cs = cs} {claimed = claimed} {old = old} p q r a = record {
  places = a.places;
  goes = same_due q (subst (λ gs. Goes (kept_at room [] old) gs es (kept_at room [] a.places)) p a.goes);
  state = subst (λ d. Open all rows room t w s cs claimed d a.places) r a.state;
}

-- ---- one claim on the column, whether there were more or not
record Merged (room t c n : ℕ) (gs : List Stage) (es : List Entry) (old : List Place) : Type 0 where
  places : List Place
  goes : Goes (kept_at room [] old) gs es (kept_at room [] places)
  one : IsOne t c n places
  rest : elsewhere t c places ≡ elsewhere t c old

then_passed : {all : List TableShape} {rows : List ℕ} {room t w s c n : ℕ} {gs hs : List Stage} {es fs : List Entry} {cs : List ColumnShape} {claimed : List ℕ} {done : ℕ} {old : List Place}
    → (m : Merged room t c n gs es old) → Passed all rows room t w s hs fs cs claimed done m.places → Passed all rows room t w s (gs ++ hs) (es ++ fs) cs claimed done old
then_passed m a = record { places = a.places; goes = then_go m.goes a.goes; state = a.state }

own_one : (t c n : ℕ) → filter (is_place t c) (place t c n ∷ []) ≡ place t c n ∷ []
own_one t c n = ap (λ b. cond b (place t c n ∷ []) []) (here t c (place t c n) refl refl)

own_gone : (t c n : ℕ) → elsewhere t c (place t c n ∷ []) ≡ []
own_gone t c n = ap (λ b. cond (cond b false true) (place t c n ∷ []) []) (here t c (place t c n) refl refl)

merged : (room t c n j : ℕ) (ps : List Place) → length ps ≤ room → count_on t c ps ≡ j → AllOfVars n (filter (is_place t c) ps) → 1 ≤ j → Merged room t c n (merge_stages t c n j) (walked (merge_entries n j)) ps
merged room t c n j ps low count vars some =
    elim (ltb j 2) as (λ b. ltb j 2 ≡ b → Merged room t c n (cond b [] (stage.Merge (record { table = t; column = c; walk = merge.waiting n j }) ∷ [])) (walked (cond b [] (Draw draw.Merge (j - 1) ∷ plans.sum_entries draw.MergeRound 2 n check.MergeFinal 1))) ps) [
      | true ↦ λ e. let few : j < 2 = ltb-true j 2 e in record { places = ps; goes = none_go _; one = is_one t c n ps (omega arith) vars; rest = refl }
      | false ↦ λ e. record {
        places = elsewhere t c ps ++ place t c n ∷ [];
        goes = merge_goes room t c n j ps low count vars (ltb-false j 2 e);
        one = filter-append (is_place t c) (elsewhere t c ps) (place t c n ∷ []) ∙ (λ i. none-elsewhere t c ps i ++ own_one t c n i);
        rest = filter-append (is_elsewhere t c) (elsewhere t c ps) (place t c n ∷ []) ∙ (λ i. twice-elsewhere t c ps i ++ own_gone t c n i) ∙ append-nil (elsewhere t c ps);
      }
    ] refl

-- ---- then the reduction of that claim, where the column is virtual
counts_kept : (t c u d : ℕ) (ps qs : List Place) → elsewhere t c ps ≡ elsewhere t c qs → (t ≡ u → c ≡ d → ⊥) → count_on u d ps ≡ count_on u d qs
counts_kept t c u d ps qs e h = sym (count-elsewhere t c u d ps h) ∙ ap (count_on u d) e ∙ count-elsewhere t c u d qs h

abbrev KindPasses : (all : List TableShape) (rows : List ℕ) (room t w s : ℕ) → TableShape → ColumnShape → List ColumnShape → List ℕ → ℕ → List Place → ColumnKind → Type 0
KindPasses all rows room t w s table column before claimed done ps k =
    Passed all rows room t w s (kind_stages table.columns t (length before) (vars_on (slice_index rows t) column) k) (walked (kind_entries k)) before (claimed ++ sources k) (done + is_committed k) ps

-- what is known of the claims before the merge
record Before (all : List TableShape) (rows : List ℕ) (room t w s : ℕ) (column : ColumnShape) (before : List ColumnShape) (claimed : List ℕ) (done : ℕ) (old ps : List Place) : Type 0 where
  state : Open all rows room t w s (column ∷ before) claimed done old
  some : 1 ≤ times_in (length before) claimed
  one : IsOne t (length before) (vars_on (slice_index rows t) column) ps
  rest : elsewhere t (length before) ps ≡ elsewhere t (length before) old

others_stand : (all : List TableShape) (rows : List ℕ) (room t w s : ℕ) (column : ColumnShape) (before : List ColumnShape) (claimed : List ℕ) (done : ℕ) (old ps : List Place)
    → Before all rows room t w s column before claimed done old ps → AllByRecursion (Stands all rows t (length before)) (elsewhere t (length before) ps)
others_stand all rows room t w s column before claimed done old ps h =
    let c = length before in
    subst (AllByRecursion (Stands all rows t c)) (sym h.rest) (all_passed (Stands all rows t (suc c)) (Stands all rows t c) (is_elsewhere t c) (lower all rows t c) old h.state.stand)

-- how many claims there are
record Counted (t c : ℕ) (old ps : List Place) : Type 0 where
  there : count_on t c old + length (elsewhere t c old) ≡ length old
  now : length ps ≡ 1 + length (elsewhere t c old)

counted : (t c n : ℕ) (old ps : List Place) → IsOne t c n ps → elsewhere t c ps ≡ elsewhere t c old → Counted t c old ps
counted t c n old ps one rest = record {
  there = parted t c old;
  now = sym (parted t c ps) ∙ (λ i. length (one i) + length (rest i));
}

kind_passes : (all : List TableShape) (rows : List ℕ) (room t w s : ℕ) (table : TableShape) (column : ColumnShape) (before : List ColumnShape) (claimed : List ℕ) (done : ℕ) (old ps : List Place) (k : ColumnKind)
    → IsNext all t table (length before) column → Before all rows room t w s column before claimed done old ps → column.kind ≡ k → HasKind (take (length before) table.columns) column k
    → KindPasses all rows room t w s table column before claimed done ps k
kind_passes all rows room t w s table column before claimed done old ps Committed next h e has =
    let c = length before in
    let n = vars_on (slice_index rows t) column in
    let z = counted t c n old ps h.one h.rest in
    let there = z.there in
    let now = z.now in
    let j : count_on t c old ≡ times_in c claimed = h.state.counts c (omega arith) in
    let size : length old ≡ done + (times_in c claimed + below c claimed + w) = h.state.size in
    let some = h.some in
    let same = append-nil claimed in
    let enough : length old + (length (sources column.kind) + source_count before + s) ≤ room = h.state.enough in
    record {
      places = ps;
      goes = none_go _;
      state = record {
        stand = all_parts (Stands all rows t c) t c ps
            (subst (AllByRecursion (Stands all rows t c)) (sym h.one) (record { column = column; there = column_there all t c table column next.table_is next.column_is; vars = refl; later = inl e }, tt))
            (others_stand all rows room t w s column before claimed done old ps h);
        counts = λ d l. counts_kept t c t d ps old h.rest (λ e f. omega arith) ∙ h.state.counts d (omega arith) ∙ ap (times_in d) (sym same);
        others = λ u d other l at. counts_kept t c u d ps old h.rest (λ e f. omega arith) ∙ h.state.others u d other l at;
        size = subst (λ cs. length ps ≡ done + 1 + (below c cs + w)) (sym same) (omega arith);
        enough = omega arith;
      };
    }
kind_passes all rows room t w s table column before claimed done old ps (Virtual f) next h e has =
    let c = length before in
    let n = vars_on (slice_index rows t) column in
    let z = counted t c n old ps h.one h.rest in
    let there = z.there in
    let now = z.now in
    let j : count_on t c old ≡ times_in c claimed = h.state.counts c (omega arith) in
    let size : length old ≡ done + (times_in c claimed + below c claimed + w) = h.state.size in
    let some = h.some in
    let enough : length old + (length (sources column.kind) + source_count before + s) ≤ room = h.state.enough in
    let enough_then : length old + (length (form_sources f) + source_count before + s) ≤ room = subst (λ k. length old + (length (sources k) + source_count before + s) ≤ room) e enough in
    let from_form = form_has_sources table.columns column c f has in
    let low = sources_below table.columns f column c (form_sources f) from_form in
    let more = places_on t (form_vars f n) (form_sources f) in
    let count = length-map (form_sources f) (λ (s : ℕ). place t s (form_vars f n)) in
    let all_of = below_all c (form_sources f) low in
    let joined = below-append c claimed (form_sources f) in
    let whole = length-append (elsewhere t c old) more in
    record {
      places = elsewhere t c old ++ more;
      goes = same_left (ap (λ l. kept_at room [] (l ++ more)) (others-elsewhere t c ps (ap length h.one) ∙ h.rest))
          (form_goes room table.columns t c n f ps (omega arith) (block_fits (take c table.columns) column (ceil_log (slice_index rows t)) f has) h.one);
      state = record {
        stand = all_append (Stands all rows t c) (elsewhere t c old) more (subst (AllByRecursion (Stands all rows t c)) h.rest (others_stand all rows room t w s column before claimed done old ps h)) (sources_stand all rows t c table f column next.table_is (form_sources f) from_form);
        counts = λ d l. count-append t d (elsewhere t c old) more
            ∙ (λ i. (count-elsewhere t c t d old (λ e f. omega arith) ∙ h.state.counts d (omega arith)) i + count-places_on t (form_vars f n) d (form_sources f) i) ∙ sym (times-append d claimed (form_sources f));
        others = λ u d other l at. count-append u d (elsewhere t c old) more
            ∙ (λ i. (count-elsewhere t c u d old (λ e f. omega arith) ∙ h.state.others u d other l at) i + count-other_table t u (form_vars f n) d (form_sources f) (λ e. omega arith) i) ∙ omega arith;
        size = omega arith;
        enough = omega arith;
      };
    }

-- ---- one column
some_there : (j : ℕ) → (j == 0) ≡ false → 1 ≤ j
some_there j e = elim (cases_lt 0 j) [ inl l ↦ l | inr g ↦ let no : true ≡ false = sym (eq-eqb j 0 (omega arith)) ∙ e in absurd cc ]

column_passes : (all : List TableShape) (rows : List ℕ) (room t w s : ℕ) (table : TableShape) (column : ColumnShape) (before : List ColumnShape) (claimed : List ℕ) (done : ℕ) (ps : List Place)
    → IsNext all t table (length before) column → Open all rows room t w s (column ∷ before) claimed done ps
    → Passed all rows room t w s (column_stages all (slice_index rows t) t (length before) column (times_in (length before) claimed)) (walked (column_entries (slice_index rows t) column (times_in (length before) claimed)))
    before (claims_after column (times_in (length before) claimed) claimed) (done + cond (times_in (length before) claimed == 0) 0 (is_committed column.kind)) ps
column_passes all rows room t w s table column before claimed done ps next h =
    let c = length before in
    let n = vars_on (slice_index rows t) column in
    let count : count_on t c ps ≡ times_in c claimed = h.counts c (omega arith) in
    let size : length ps ≡ done + (times_in c claimed + below c claimed + w) = h.size in
    let enough : length ps + (length (sources column.kind) + source_count before + s) ≤ room = h.enough in
    elim (times_in c claimed == 0) as (λ b. (times_in c claimed == 0) ≡ b → Passed all rows room t w s
    (cond b [] (merge_stages t c n (times_in c claimed) ++ form_stages all (slice_index rows t) t c)) (walked (cond b [] (merge_entries n (times_in c claimed) ++ kind_entries column.kind)))
    before (cond b claimed (claimed ++ sources column.kind)) (done + cond b 0 (is_committed column.kind)) ps) [
      | true ↦ λ e.
          let none = eqb-true (times_in c claimed) 0 e in
          record {
            places = ps;
            goes = none_go _;
            state = record {
              stand = subst (AllByRecursion (Stands all rows t c)) (all-elsewhere t c ps (count ∙ none)) (all_passed (Stands all rows t (suc c)) (Stands all rows t c) (is_elsewhere t c) (lower all rows t c) ps h.stand);
              counts = λ d l. h.counts d (omega arith);
              others = h.others;
              size = omega arith;
              enough = omega arith;
            };
          }
      | false ↦ λ e.
          let at = column_there all t c table column next.table_is next.column_is in
          let some = some_there (times_in c claimed) e in
          let m = merged room t c n (times_in c claimed) ps (omega arith) count (all_passed (Stands all rows t (suc c)) (λ (p : Place). p.vars ≡ n) (is_place t c) (own_vars all rows t (suc c) c column at) ps h.stand) some in
          same_pass (ap (λ gs. merge_stages t c n (times_in c claimed) ++ gs) (sym (form_stages_are all (slice_index rows t) t c table column next.table_is next.column_is)))
          (sym (walked_append (merge_entries n (times_in c claimed)) (kind_entries column.kind))) refl
          (then_passed m (kind_passes all rows room t w s table column before claimed done ps m.places column.kind next (record { state = h; some = some; one = m.one; rest = m.rest }) refl next.fits.kind))
    ] refl

-- ---- all columns of a table
-- the columns of a table from the last to the first
abbrev pub AllNext : List TableShape → ℕ → TableShape → List ColumnShape → Type 0
AllNext all t table [] = Unit {0}
AllNext all t table (column ∷ before) = IsNext all t table (length before) column × AllNext all t table before

pub columns_pass : (all : List TableShape) (rows : List ℕ) (room t w s : ℕ) (table : TableShape) (cs : List ColumnShape) (claimed : List ℕ) (done : ℕ) (ps : List Place)
    → AllNext all t table cs → Open all rows room t w s cs claimed done ps
    → Passed all rows room t w s (columns_stages all (slice_index rows t) t cs claimed) (walked (columns_entries (slice_index rows t) cs claimed)) [] [] (done + committed_claims cs claimed) ps
columns_pass all rows room t w s table [] claimed done ps next h =
    let size : length ps ≡ done + (0 + w) = h.size in
    record { places = ps; goes = none_go _; state = record { stand = h.stand; counts = λ c l. absurd (omega arith); others = h.others; size = omega arith; enough = h.enough } }
columns_pass all rows room t w s table (column ∷ before) claimed done ps next h =
    let j = times_in (length before) claimed in
    let one = column_passes all rows room t w s table column before claimed done ps next.0 h in
    same_pass refl (sym (walked_append (column_entries (slice_index rows t) column j) (columns_entries (slice_index rows t) before (claims_after column j claimed)))) (omega arith)
    (then_pass one (columns_pass all rows room t w s table before (claims_after column j claimed) (done + cond (j == 0) 0 (is_committed column.kind)) one.places next.1 one.state))
