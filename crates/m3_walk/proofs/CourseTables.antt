-- The reductions of claims on the columns of all tables, in their course.
use Rattle.std.proofs.Common.{◌≡◌, ◌∙◌, ◌<◌, ◌≤◌, ◌+◌, ◌⊎◌, ℕ, suc, List, [], ◌∷◌, ◌++◌, length, slice_index, slice_get, Option, Some, inl, inr, refl, sym, ap, subst, arith}
use Rattle.std.proofs.lemmas.Bool.{cases_lt}
use Rattle.std.proofs.lemmas.List.{append_assoc, append-nil, length-append}
use Rattle.std.proofs.lemmas.Option.{slice_get_within}
use Rattle.std.specs.List.{AllByRecursion}
use Rattle.std.specs.Prelude.{option_and_then}
use Rattle.table_shape.specs.declared.shape.ColumnKind.TheVariants.{Committed}
use Rattle.table_shape.specs.declared.shape.ColumnShape.{ColumnShape}
use Rattle.table_shape.specs.declared.shape.TableShape.{TableShape}
use Rattle.table_shape.specs.Fits.{TableFits}
use Rattle.eval_reduce.specs.Virtual.{column_of, vars_on}
use Rattle.proof_plan.specs.Plan.{backwards, bit_claims, columns_entries, committed_claims, first_columns, table_entries, times_in}
use Rattle.m3_walk.specs.Course.{columns_stages, source_count, table_stages, walked}
use Rattle.m3_walk.specs.Linking.{Place}
use Rattle.m3_walk.proofs.CourseChannels.{kept_at, walked_append}
use Rattle.m3_walk.proofs.CourseColumns.{AllNext, Open, Passed, Stands, below, below_all, columns_pass}
use Rattle.m3_walk.proofs.CourseFirst.{total}
use Rattle.m3_walk.proofs.CoursePlaces.{all_mapped, count_on}
use Rattle.m3_walk.proofs.CourseSteps.{Goes, none_go, same_due, then_go}

-- ---- columns, the last first
pub length-backwards : (cs : List ColumnShape) → length (backwards cs) ≡ length cs
length-backwards [] = refl
length-backwards (c ∷ cs) = let h = length-backwards cs in length-append (backwards cs) (c ∷ []) ∙ omega arith

source_count-append : (cs ds : List ColumnShape) → source_count (cs ++ ds) ≡ source_count cs + source_count ds
source_count-append [] ds = omega arith
source_count-append (c ∷ cs) ds = let h = source_count-append cs ds in omega arith

source_count-backwards : (cs : List ColumnShape) → source_count (backwards cs) ≡ source_count cs
source_count-backwards [] = refl
source_count-backwards (c ∷ cs) = let h = source_count-backwards cs in source_count-append (backwards cs) (c ∷ []) ∙ omega arith

got_past : {X : Type 0} (xs : List X) (x : X) (ys : List X) → slice_get (xs ++ x ∷ ys) (length xs) ≡ Some x
got_past [] x ys = refl
got_past (y ∷ xs) x ys = got_past xs x ys

-- of a table whose columns are these two lists joined, the first of which are done
all_next_from : (all : List TableShape) (t : ℕ) (table : TableShape) → slice_get all t ≡ Some table → TableFits table → (done cs back : List ColumnShape) → table.columns ≡ done ++ cs → length back ≡ length done
    → AllNext all t table back → AllNext all t table (backwards cs ++ back)
all_next_from all t table at fits done [] back e l h = h
all_next_from all t table at fits done (c ∷ cs) back e l h =
    let here : slice_get table.columns (length back) ≡ Some c = (λ i. slice_get (e i) (l i)) ∙ got_past done c cs in
    subst (AllNext all t table) (sym (append_assoc (backwards cs) (c ∷ []) back))
    (all_next_from all t table at fits (done ++ c ∷ []) cs (c ∷ back) (e ∙ sym (append_assoc done (c ∷ []) cs)) (let k = length-append done (c ∷ []) in omega arith)
    (record { table_is = at; column_is = here; fits = fits.columns (length back) c here }, h))

all_next : (all : List TableShape) (t : ℕ) (table : TableShape) → slice_get all t ≡ Some table → TableFits table → AllNext all t table (backwards table.columns)
all_next all t table at fits = subst (AllNext all t table) (append-nil (backwards table.columns)) (all_next_from all t table at fits [] table.columns [] refl refl tt)

-- ---- between two tables
-- a claim's column is there, and it is committed or in table t or later
pub record StandsFrom (all : List TableShape) (rows : List ℕ) (t : ℕ) (p : Place) : Type 0 where
  pub column : ColumnShape
  pub there : column_of all p.table p.column ≡ Some column
  pub vars : p.vars ≡ vars_on (slice_index rows p.table) column
  pub later : (column.kind ≡ Committed) ⊎ (t ≤ p.table)

pub columns_has : (table : TableShape) (c : ℕ) (column : ColumnShape) (o : Option TableShape) → o ≡ Some table → option_and_then (λ (x : TableShape). slice_get x.columns c) o ≡ Some column → slice_get table.columns c ≡ Some column
columns_has table c column o e h = sym (ap (option_and_then (λ (x : TableShape). slice_get x.columns c)) e) ∙ h

enters : (all : List TableShape) (rows : List ℕ) (t m : ℕ) (table : TableShape) → slice_get all t ≡ Some table → m ≡ length table.columns → (p : Place) → StandsFrom all rows t p → Stands all rows t m p
enters all rows t m table at e p s = record { column = s.column; there = s.there; vars = s.vars; later = go s.later }
  where
    go : (s.column.kind ≡ Committed) ⊎ (t ≤ p.table) → (s.column.kind ≡ Committed) ⊎ ((t < p.table) ⊎ ((p.table ≡ t) × (p.column < m)))
    go (inl k) = inl k
    go (inr l) = elim (cases_lt t p.table) [
      | inl past ↦ inr (inl past)
      | inr g ↦
          let same : p.table ≡ t = omega arith in
          let low = slice_get_within table.columns p.column s.column (columns_has table p.column s.column (slice_get all p.table) (ap (slice_get all) same ∙ at) s.there) in
          inr (inr (same, omega arith))
    ]

leaves : (all : List TableShape) (rows : List ℕ) (t : ℕ) (p : Place) → Stands all rows t 0 p → StandsFrom all rows (t + 1) p
leaves all rows t p s = record { column = s.column; there = s.there; vars = s.vars; later = go s.later }
  where
    go : (s.column.kind ≡ Committed) ⊎ ((t < p.table) ⊎ ((p.table ≡ t) × (p.column < 0))) → (s.column.kind ≡ Committed) ⊎ (t + 1 ≤ p.table)
    go (inl k) = inl k
    go (inr (inl l)) = inr (omega arith)
    go (inr (inr q)) = let no = q.1 in absurd (omega arith)

abbrev pub all_sources : List TableShape → ℕ
all_sources [] = 0
all_sources (table ∷ tables) = source_count table.columns + all_sources tables

-- tables are to come, numbered from t on, and `done` claims are on committed columns of those before
pub record Between (all : List TableShape) (rows : List ℕ) (room t : ℕ) (tables : List TableShape) (done : ℕ) (ps : List Place) : Type 0 where
  pub stand : AllByRecursion (StandsFrom all rows t) ps
  pub counts : (u c : ℕ) (table : TableShape) → t ≤ u → slice_get all u ≡ Some table → count_on u c ps ≡ times_in c (first_columns table)
  pub size : length ps ≡ done + total first_columns tables
  pub enough : length ps + all_sources tables ≤ room

pub record TablesPassed (all : List TableShape) (rows : List ℕ) (room t : ℕ) (tables : List TableShape) (done : ℕ) (old : List Place) : Type 0 where
  pub places : List Place
  pub goes : Goes (kept_at room [] old) (table_stages all rows t tables) (walked (table_entries rows t tables)) (kept_at room [] places)
  pub state : Between all rows room (t + length tables) [] (done + bit_claims tables) places

-- a table, and then those after it
then_tables : (all : List TableShape) (rows : List ℕ) (room t w s done d : ℕ) (table : TableShape) (tables : List TableShape) (old : List Place) → d ≡ done + committed_claims (backwards table.columns) (first_columns table)
    → (here : Passed all rows room t w s (columns_stages all (slice_index rows t) t (backwards table.columns) (first_columns table)) (walked (columns_entries (slice_index rows t) (backwards table.columns) (first_columns table))) [] [] d old)
    → TablesPassed all rows room (t + 1) tables d here.places → TablesPassed all rows room t (table ∷ tables) done old
then_tables all rows room t w s done d table tables old e here more =
    let count : t + 1 + length tables ≡ t + suc (length tables) = omega arith in
    let sum : d + bit_claims tables ≡ done + (committed_claims (backwards table.columns) (first_columns table) + bit_claims tables) = omega arith in
    record {
      places = more.places;
      goes = same_due (sym (walked_append (columns_entries (slice_index rows t) (backwards table.columns) (first_columns table)) (table_entries rows (t + 1) tables))) (then_go here.goes more.goes);
      state = subst (λ n. Between all rows room n [] (done + (committed_claims (backwards table.columns) (first_columns table) + bit_claims tables)) more.places) count
          (subst (λ x. Between all rows room (t + 1 + length tables) [] x more.places) sum more.state);
    }

opens : (all : List TableShape) (rows : List ℕ) (room t : ℕ) (table : TableShape) (tables : List TableShape) (done : ℕ) (ps : List Place) → slice_get all t ≡ Some table → AllByRecursion (λ c. c < length table.columns) (first_columns table)
    → Between all rows room t (table ∷ tables) done ps → Open all rows room t (total first_columns tables) (all_sources tables) (backwards table.columns) (first_columns table) done ps
opens all rows room t table tables done ps at low h =
    let long = length-backwards table.columns in
    let each = below_all (length table.columns) (first_columns table) low in
    let whole : below (length (backwards table.columns)) (first_columns table) ≡ length (first_columns table) = ap (λ n. below n (first_columns table)) long ∙ each in
    let size : length ps ≡ done + (length (first_columns table) + total first_columns tables) = h.size in
    let enough : length ps + (source_count table.columns + all_sources tables) ≤ room = h.enough in
    let count = source_count-backwards table.columns in
    record {
      stand = all_mapped (StandsFrom all rows t) (Stands all rows t (length (backwards table.columns))) (enters all rows t (length (backwards table.columns)) table at long) ps h.stand;
      counts = λ c l. h.counts t c table (omega arith) at;
      others = λ u c other l here. h.counts u c other (omega arith) here;
      size = omega arith;
      enough = omega arith;
    }

pub tables_pass : (all : List TableShape) (rows : List ℕ) (room t : ℕ) (tables : List TableShape) (done : ℕ) (ps : List Place)
    → ((k : ℕ) (table : TableShape) → slice_get tables k ≡ Some table → slice_get all (t + k) ≡ Some table)
    → ((k : ℕ) (table : TableShape) → slice_get all k ≡ Some table → TableFits table × AllByRecursion (λ c. c < length table.columns) (first_columns table))
    → Between all rows room t tables done ps → TablesPassed all rows room t tables done ps
tables_pass all rows room t [] done ps at fits h = record {
  places = ps;
  goes = none_go _;
  state = subst (λ n. Between all rows room n [] (done + 0) ps) (omega arith) (record { stand = h.stand; counts = h.counts; size = let size = h.size in omega arith; enough = h.enough });
}
tables_pass all rows room t (table ∷ tables) done ps at fits h =
    let own : slice_get all t ≡ Some table = subst (λ n. slice_get all n ≡ Some table) (omega arith) (at 0 table refl) in
    let fit = fits t table own in
    let here = columns_pass all rows room t (total first_columns tables) (all_sources tables) table (backwards table.columns) (first_columns table) done ps (all_next all t table own fit.0) (opens all rows room t table tables done ps own fit.1 h) in
    let size : length here.places ≡ done + committed_claims (backwards table.columns) (first_columns table) + (0 + total first_columns tables) = here.state.size in
    let enough : length here.places + (0 + all_sources tables) ≤ room = here.state.enough in
    let between : Between all rows room (t + 1) tables (done + committed_claims (backwards table.columns) (first_columns table)) here.places = record {
      stand = all_mapped (Stands all rows t 0) (StandsFrom all rows (t + 1)) (leaves all rows t) here.places here.state.stand;
      counts = λ u c other l there. here.state.others u c other (omega arith) there;
      size = omega arith;
      enough = omega arith;
    } in
    then_tables all rows room t (total first_columns tables) (all_sources tables) done (done + committed_claims (backwards table.columns) (first_columns table)) table tables ps refl here
    (tables_pass all rows room (t + 1) tables (done + committed_claims (backwards table.columns) (first_columns table)) here.places (λ k other e. subst (λ n. slice_get all n ≡ Some other) (omega arith) (at (suc k) other e)) fits between)
