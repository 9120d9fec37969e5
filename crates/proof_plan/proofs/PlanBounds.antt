-- How many entries a plan has, and how large their numbers are.
use Rattle.std.proofs.Common.{◌≡◌, ℕ, suc, ◌+◌, ◌-◌, ◌*◌, ◌^◌, ◌≤◌, ◌==◌, ltb, Bool, true, false, cond, map, List, [], ◌∷◌, ◌++◌, length, length-append, Option, Some, None, refl, sym, subst, arith}
use Rattle.std.specs.List.{AllByRecursion, filter, flat_map, list_any, slice_index}
use Rattle.std.proofs.lemmas.List.{length-map}
use Rattle.std.proofs.Math.Nat.{max-le}
use Rattle.cube_laws.specs.Sums.{tabulate}
use Rattle.cube_laws.proofs.Weights.{length-tabulate}
use Rattle.list_laws.specs.CeilLog.{ceil_log}
use Rattle.list_laws.proofs.CeilLog.{at_most}
use Rattle.list_laws.proofs.Powers.{log_of_rows, power_bound}
use Rattle.poly_forms.specs.declared.check_kind.CheckKind.TheVariants as check
use Rattle.poly_forms.specs.declared.draw_kind.DrawKind.TheVariants as draw
use Rattle.table_shape.specs.declared.shape.ColumnKind.{ColumnKind}
use Rattle.table_shape.specs.declared.shape.ColumnKind.TheVariants.{Committed, Virtual}
use Rattle.table_shape.specs.declared.shape.ColumnShape.{ColumnShape}
use Rattle.table_shape.specs.declared.shape.ConstraintShape.{ConstraintShape}
use Rattle.table_shape.specs.declared.shape.FlushShape.{FlushShape}
use Rattle.table_shape.specs.declared.shape.ShapeForm.{ShapeForm}
use Rattle.table_shape.specs.declared.shape.ShapeForm.TheVariants as form
use Rattle.table_shape.specs.declared.shape.ShapeTerm.{ShapeTerm}
use Rattle.table_shape.specs.declared.shape.TableShape.{TableShape}
use Rattle.table_shape.specs.Counts.{alpha_count, batch_count, gamma_count, group}
use Rattle.table_shape.specs.Fits.{ShapeFits}
use Rattle.table_shape.specs.Parts.{ShapeParts}
use Rattle.table_shape.specs.Placement.{blocks, bits_taken, places_log}
use Rattle.table_shape.specs.Size.{size_log}
use Rattle.table_shape.specs.Value.{greatest}
use Rattle.bit_claim.proofs.Standing.{few_bits}
use Rattle.channel_products.specs.Given.{named_columns, selector_columns}
use Rattle.zerocheck.specs.Group.{names}
use Rattle.proof_plan.specs.declared.plan_entry.PlanEntry.{PlanEntry}
use Rattle.proof_plan.specs.declared.plan_entry.PlanEntry.TheVariants.{Root, Message, Draw}
use Rattle.proof_plan.specs.Plan.{backwards, bit_claims, bit_entries, channel_entries, claims_after, column_entries, columns_entries, committed_claims, constraint_entries, coordinates, first_columns, flush_count, flush_entries, flushes_entries, form_entries, form_sources, group_columns, group_degree, group_entries, is_committed, kind_entries, merge_entries, packed_log, plan, sources, sum_entries, switch_entries, table_entries, times_in}
use Rattle.proof_plan.specs.PlanFits.{PlanFits}
use Rattle.proof_plan.specs.PlanParts.{PlanParts}
use Rattle.proof_plan.specs.Small.{ColumnIsSmall, ConstraintIsSmall, FlushIsSmall, FormIsSmall, KindIsSmall, TableIsSmall}
use Rattle.proof_plan.proofs.Bounded.{Bounded, all_append, all_tabulate, bits_bounded, both, coordinates_bounded, either, flat, layers_bounded, led_by, no_entries, no_more_than, sum_bounded, words_bounded}
use Rattle.proof_plan.proofs.CountBounds.{FewRows, alpha_few, filter_short, gamma_few}
use Rattle.proof_plan.proofs.SmallShape.{tables_small}

all_with : {X : Type 0} (P Q : X → Type 0) (xs : List X) → ((x : X) → P x → Q x) → AllByRecursion P xs → AllByRecursion Q xs
all_with P Q [] f h = tt
all_with P Q (x ∷ xs) f h = (f x h.0, all_with P Q xs f h.1)

-- ---- flushes
selector_few : (s : Option ℕ) → length (selector_columns s) ≤ 1
selector_few None = omega arith
selector_few (Some c) = omega arith

named_few : (flush : FlushShape) → FlushIsSmall flush → length (named_columns flush) ≤ 17
named_few flush h = let a = selector_few flush.selector in let l = length-append (selector_columns flush.selector) flush.columns in let b = h.narrow in omega arith

flush_bounded : (rows : ℕ) (flush : FlushShape) → rows ≤ 1048576 → FlushIsSmall flush → Bounded 1000 (flush_entries rows flush)
flush_bounded rows flush few h =
    let l = log_of_rows rows few in
    let n = named_few flush h in
    no_more_than (ceil_log rows * 42 + 41) 1000 (flush_entries rows flush) (layers_bounded (length (named_columns flush)) 0 (ceil_log rows) (omega arith) (omega arith)) (omega arith)

flushes_bounded : (rows : List ℕ) (t : ℕ) (tables : List TableShape) → FewRows rows → AllByRecursion TableIsSmall tables → Bounded (length tables * 64000) (flushes_entries rows t tables)
flushes_bounded rows t [] few h = no_entries 0
flushes_bounded rows t (table ∷ tables) few h =
    let own = flat (flush_entries (slice_index rows t)) table.flushes (all_with FlushIsSmall (λ flush. Bounded 1000 (flush_entries (slice_index rows t) flush)) table.flushes (λ flush s. flush_bounded (slice_index rows t) flush (few t) s) h.0.flushes) in
    let f = h.0.few_flushes in
    both (length table.flushes * 1000) (length tables * 64000) (suc (length tables) * 64000) (flat_map (flush_entries (slice_index rows t)) table.flushes) (flushes_entries rows (t + 1) tables) own (flushes_bounded rows (t + 1) tables few h.1) (omega arith)

flush_count_few : (tables : List TableShape) → AllByRecursion TableIsSmall tables → flush_count tables ≤ length tables * 64
flush_count_few [] h = omega arith
flush_count_few (table ∷ tables) h = let a = h.0.few_flushes in let b = flush_count_few tables h.1 in omega arith

channels_bounded : (shape : ShapeParts) (rows : List ℕ) → ShapeFits shape → FewRows rows → Bounded 4096003 (channel_entries shape rows)
channels_bounded shape rows s few =
    let small = tables_small shape s in
    let t = s.few_tables in
    let n = flush_count_few shape.tables small in
    let rest = flushes_entries rows 0 shape.tables in
    let own = no_more_than (length shape.tables * 64000) 4096000 rest (flushes_bounded rows 0 shape.tables few small) (omega arith) in
    let all = led_by 4096002 4096003 (Draw draw.Alpha (alpha_count shape rows)) (Draw draw.Gamma (gamma_count shape rows) ∷ Message check.Products (flush_count shape.tables) ∷ rest) (alpha_few shape rows s few)
    (led_by 4096001 4096002 (Draw draw.Gamma (gamma_count shape rows)) (Message check.Products (flush_count shape.tables) ∷ rest) (gamma_few shape rows s few)
    (led_by 4096000 4096001 (Message check.Products (flush_count shape.tables)) rest (omega arith) own (omega arith)) (omega arith)) (omega arith) in
    either 4096003 (length shape.channels == 0) (Draw draw.Alpha (alpha_count shape rows) ∷ Draw draw.Gamma (gamma_count shape rows) ∷ Message check.Products (flush_count shape.tables) ∷ rest) all

-- ---- constraints
degrees_low : (p : ConstraintShape → Bool) (zs : List ConstraintShape) → AllByRecursion ConstraintIsSmall zs → greatest (map (λ (z : ConstraintShape). z.degree) (filter p zs)) ≤ 8
degrees_low p [] h = omega arith
degrees_low p (z ∷ zs) h =
    let rest = degrees_low p zs h.1 in
    let d = h.0.degree in
    elim (p z) as (λ b. greatest (map (λ (y : ConstraintShape). y.degree) (cond b (z ∷ filter p zs) (filter p zs))) ≤ 8) [ true ↦ max-le d rest | false ↦ rest ]

group_columns_few : (v : ℕ) (table : TableShape) → TableIsSmall table → length (group_columns v table) ≤ 256
group_columns_few v table h =
    let a = filter_short (λ c. list_any (λ (z : ConstraintShape). names c z.expr) (group v table)) (tabulate (length table.columns) (λ c. c)) in
    let l = length-tabulate (length table.columns) (λ c. c) in
    let b = h.few_columns in
    omega arith

group_bounded : (rows : ℕ) (table : TableShape) (v : ℕ) → rows ≤ 1048576 → TableIsSmall table → v ≤ 7 → Bounded 1000 (group_entries rows table v)
group_bounded rows table v few h low =
    let n = ceil_log rows + v in
    let l = log_of_rows rows few in
    let d = degrees_low (λ (z : ConstraintShape). z.log_values == v) table.constraints h.constraints in
    let c = group_columns_few v table h in
    let z = filter_short (λ (z : ConstraintShape). z.log_values == v) table.constraints in
    let m = h.few_constraints in
    let sum = sum_entries draw.ZeroRound (group_degree v table + 2) n check.ZeroFinal (length (group_columns v table)) in
    let all = both n 100 200 (coordinates draw.ZeroCoordinate n) sum (coordinates_bounded draw.ZeroCoordinate n) (sum_bounded draw.ZeroRound (group_degree v table + 2) n check.ZeroFinal (length (group_columns v table)) 100 (omega arith) (omega arith) (omega arith)) (omega arith) in
    either 1000 (length (group v table) == 0) (Draw draw.ConstraintBatch (batch_count v table) ∷ coordinates draw.ZeroCoordinate n ++ sum) (led_by 200 1000 (Draw draw.ConstraintBatch (batch_count v table)) (coordinates draw.ZeroCoordinate n ++ sum) (omega arith) all (omega arith))

groups_bounded : (rows : List ℕ) (t : ℕ) (tables : List TableShape) → FewRows rows → AllByRecursion TableIsSmall tables → Bounded (length tables * 8000) (constraint_entries rows t tables)
groups_bounded rows t [] few h = no_entries 0
groups_bounded rows t (table ∷ tables) few h =
    let logs = tabulate 8 (λ v. v) in
    let own = flat (group_entries (slice_index rows t) table) logs (all_tabulate (λ v. Bounded 1000 (group_entries (slice_index rows t) table v)) 8 (λ v. v) (λ v l. group_bounded (slice_index rows t) table v (few t) h.0 (omega arith))) in
    let l = length-tabulate 8 (λ v. v) in
    both (length logs * 1000) (length tables * 8000) (suc (length tables) * 8000) (flat_map (group_entries (slice_index rows t) table) logs) (constraint_entries rows (t + 1) tables) own (groups_bounded rows (t + 1) tables few h.1) (omega arith)

-- ---- claims on columns
pub times_few : (c : ℕ) (ks : List ℕ) → times_in c ks ≤ length ks
times_few c [] = omega arith
times_few c (k ∷ ks) = let h = times_few c ks in elim (k == c) as (λ b. cond b 1 0 + times_in c ks ≤ suc (length ks)) [ true ↦ omega arith | false ↦ omega arith ]

form_sources_few : (f : ShapeForm) → FormIsSmall f → length (form_sources f) ≤ 64
form_sources_few (form.Shl c block offset) h = omega arith
form_sources_few (form.Shr c block offset) h = omega arith
form_sources_few (form.Rol c block offset) h = omega arith
form_sources_few (form.Pack c log) h = omega arith
form_sources_few (form.Project c log index) h = omega arith
form_sources_few (form.Linear constant terms) h = let l = length-map terms (λ (t : ShapeTerm). t.column) in omega arith

pub sources_few : (k : ColumnKind) → KindIsSmall k → length (sources k) ≤ 64
sources_few Committed h = omega arith
sources_few (Virtual f) h = form_sources_few f h

pub claims_few : (column : ColumnShape) (j n : ℕ) (claimed : List ℕ) → ColumnIsSmall column → length claimed + 64 ≤ n → length (claims_after column j claimed) ≤ n
claims_few column j n claimed h l =
    let s = sources_few column.kind h.kind in
    let a = length-append claimed (sources column.kind) in
    elim (j == 0) as (λ b. length (cond b claimed (claimed ++ sources column.kind)) ≤ n) [ true ↦ omega arith | false ↦ omega arith ]

form_bounded : (f : ShapeForm) → FormIsSmall f → Bounded 20 (form_entries f)
form_bounded (form.Shl c block offset) h = sum_bounded draw.ShiftRound 2 block check.ShiftFinal 1 20 (omega arith) (omega arith) (omega arith)
form_bounded (form.Shr c block offset) h = sum_bounded draw.ShiftRound 2 block check.ShiftFinal 1 20 (omega arith) (omega arith) (omega arith)
form_bounded (form.Rol c block offset) h = sum_bounded draw.ShiftRound 2 block check.ShiftFinal 1 20 (omega arith) (omega arith) (omega arith)
form_bounded (form.Pack c log) h = let p = power_bound log 7 h in led_by log 20 (Message check.Pack (2 ^ log)) (coordinates draw.PackCoordinate log) (omega arith) (coordinates_bounded draw.PackCoordinate log) (omega arith)
form_bounded (form.Project c log index) h = no_entries 20
form_bounded (form.Linear constant terms) h = led_by 0 20 (Message check.Linear (length terms)) [] (omega arith) (no_entries 0) (omega arith)

kind_bounded : (k : ColumnKind) → KindIsSmall k → Bounded 20 (kind_entries k)
kind_bounded Committed h = no_entries 20
kind_bounded (Virtual f) h = form_bounded f h

column_bounded : (rows : ℕ) (column : ColumnShape) (j : ℕ) → rows ≤ 1048576 → ColumnIsSmall column → j ≤ 2 ^ 38 → Bounded 1000 (column_entries rows column j)
column_bounded rows column j few h l =
    let n = ceil_log rows + column.log_values in
    let e = log_of_rows rows few in
    let v = h.log_values in
    let sum = sum_entries draw.MergeRound 2 n check.MergeFinal 1 in
    let merge = either 200 (ltb j 2) (Draw draw.Merge (j - 1) ∷ sum) (led_by 100 200 (Draw draw.Merge (j - 1)) sum (omega arith) (sum_bounded draw.MergeRound 2 n check.MergeFinal 1 100 (omega arith) (omega arith) (omega arith)) (omega arith)) in
    either 1000 (j == 0) (merge_entries n j ++ kind_entries column.kind) (both 200 20 1000 (merge_entries n j) (kind_entries column.kind) merge (kind_bounded column.kind h.kind) (omega arith))

flip : (j : ℕ) (k : ColumnKind) → cond (j == 0) 0 (is_committed k) ≤ 1
flip j Committed = elim (j == 0) as (λ b. cond b 0 1 ≤ 1) [ true ↦ omega arith | false ↦ omega arith ]
flip j (Virtual f) = elim (j == 0) as (λ b. cond b 0 0 ≤ 1) [ true ↦ omega arith | false ↦ omega arith ]

columns_bounded : (rows : ℕ) (cs : List ColumnShape) (claimed : List ℕ) → rows ≤ 1048576 → AllByRecursion ColumnIsSmall cs → length claimed + length cs * 64 ≤ 2 ^ 38 → Bounded (length cs * 1000) (columns_entries rows cs claimed)
columns_bounded rows [] claimed few h l = no_entries 0
columns_bounded rows (column ∷ before) claimed few h l =
    let j = times_in (length before) claimed in
    let t = times_few (length before) claimed in
    let c = claims_few column j (length claimed + 64) claimed h.0 (omega arith) in
    both 1000 (length before * 1000) (suc (length before) * 1000) (column_entries rows column j) (columns_entries rows before (claims_after column j claimed)) (column_bounded rows column j few h.0 (omega arith)) (columns_bounded rows before (claims_after column j claimed) few h.1 (omega arith)) (omega arith)

pub committed_few : (cs : List ColumnShape) (claimed : List ℕ) → committed_claims cs claimed ≤ length cs
committed_few [] claimed = omega arith
committed_few (column ∷ before) claimed =
    let j = times_in (length before) claimed in
    let a = flip j column.kind in
    let b = committed_few before (claims_after column j claimed) in
    omega arith

length_backwards : (cs : List ColumnShape) → length (backwards cs) ≡ length cs
length_backwards [] = refl
length_backwards (c ∷ cs) = let l = length-append (backwards cs) (c ∷ []) in let h = length_backwards cs in omega arith

backwards_small : (cs : List ColumnShape) → AllByRecursion ColumnIsSmall cs → AllByRecursion ColumnIsSmall (backwards cs)
backwards_small [] h = tt
backwards_small (c ∷ cs) h = all_append ColumnIsSmall (backwards cs) (c ∷ []) (backwards_small cs h.1) (h.0, tt)

length_flat : {X : Type 0} (f : X → List ℕ) (xs : List X) → AllByRecursion (λ x. length (f x) ≤ 256) xs → length (flat_map f xs) ≤ length xs * 256
length_flat f [] h = omega arith
length_flat f (x ∷ xs) h = let l = length-append (f x) (flat_map f xs) in let a = h.0 in let b = length_flat f xs h.1 in omega arith

pub first_few : (table : TableShape) → TableIsSmall table → length (first_columns table) ≤ 18432
first_few table h =
    let logs = tabulate 8 (λ v. v) in
    let a = length_flat named_columns table.flushes (all_with FlushIsSmall (λ flush. length (named_columns flush) ≤ 256) table.flushes (λ flush s. let n = named_few flush s in omega arith) h.flushes) in
    let b = length_flat (λ v. group_columns v table) logs (all_tabulate (λ v. length (group_columns v table) ≤ 256) 8 (λ v. v) (λ v l. group_columns_few v table h)) in
    let c = length-tabulate 8 (λ v. v) in
    let d = h.few_flushes in
    let e = length-append (flat_map named_columns table.flushes) (flat_map (λ v. group_columns v table) logs) in
    omega arith

tables_bounded : (rows : List ℕ) (t : ℕ) (tables : List TableShape) → FewRows rows → AllByRecursion TableIsSmall tables → Bounded (length tables * 256000) (table_entries rows t tables)
tables_bounded rows t [] few h = no_entries 0
tables_bounded rows t (table ∷ tables) few h =
    let columns = backwards table.columns in
    let l = length_backwards table.columns in
    let m = h.0.few_columns in
    let f = first_few table h.0 in
    let own = columns_bounded (slice_index rows t) columns (first_columns table) (few t) (backwards_small table.columns h.0.columns) (omega arith) in
    both (length columns * 1000) (length tables * 256000) (suc (length tables) * 256000) (columns_entries (slice_index rows t) columns (first_columns table)) (table_entries rows (t + 1) tables) own (tables_bounded rows (t + 1) tables few h.1) (omega arith)

pub claims_on_bits_few : (tables : List TableShape) → AllByRecursion TableIsSmall tables → bit_claims tables ≤ length tables * 256
claims_on_bits_few [] h = omega arith
claims_on_bits_few (table ∷ tables) h =
    let a = committed_few (backwards table.columns) (first_columns table) in
    let l = length_backwards table.columns in
    let m = h.0.few_columns in
    let b = claims_on_bits_few tables h.1 in
    omega arith

-- ---- the plan
pub places_few : (tables : List TableShape) (rows : List ℕ) → size_log tables rows ≤ 24 → places_log (blocks tables rows) ≤ 24
places_few tables rows h = max-le (omega arith) (at_most (bits_taken (blocks tables rows)) 24 (few_bits tables rows h))

pub plan_fits : (shape : ShapeParts) (rows : List ℕ) → ShapeFits shape → FewRows rows → size_log shape.tables rows ≤ 24
    → PlanFits (record { entries = plan shape rows; tables = length shape.tables; packed_log = packed_log shape rows })
plan_fits shape rows s few h =
    let small = tables_small shape s in
    let n = s.few_tables in
    let p = places_few shape.tables rows h in
    let j = claims_on_bits_few shape.tables small in
    let places = places_log (blocks shape.tables rows) in
    let bits = bit_entries places (bit_claims shape.tables) in
    let words = switch_entries (packed_log shape rows) in
    let columns = table_entries rows 0 shape.tables in
    let groups = constraint_entries rows 0 shape.tables in
    let channels = channel_entries shape rows in
    let a = both 4096003 (length shape.tables * 8000) 4608003 channels groups (channels_bounded shape rows s few) (groups_bounded rows 0 shape.tables few small) (omega arith) in
    let b = both 4608003 (length shape.tables * 256000) 20992003 (channels ++ groups) columns a (tables_bounded rows 0 shape.tables few small) (omega arith) in
    let c = both 20992003 50 20992053 (channels ++ groups ++ columns) bits b (bits_bounded places (bit_claims shape.tables) p (omega arith)) (omega arith) in
    let d = both 20992053 100 20992153 (channels ++ groups ++ columns ++ bits) words c (words_bounded (packed_log shape rows) (omega arith)) (omega arith) in
    let e = led_by 20992153 20992154 Root (channels ++ groups ++ columns ++ bits ++ words) tt d (omega arith) in
    record {
      few = let f = e.few in omega arith;
      small = e.small;
      few_tables = n;
      packed = omega arith;
    }

pub made_fits : (shape : ShapeParts) (rows : List ℕ) (entries : List PlanEntry) (t m : ℕ) → ShapeFits shape → FewRows rows → size_log shape.tables rows ≤ 24 → entries ≡ plan shape rows → t ≡ length shape.tables → m ≡ packed_log shape rows
    → PlanFits (record { entries = entries; tables = t; packed_log = m })
made_fits shape rows entries t m s few h e l p =
    let fits = plan_fits shape rows s few h in
    let made : ◌≡◌ {A = PlanParts} (record { entries = plan shape rows; tables = length shape.tables; packed_log = packed_log shape rows }) (record { entries = entries; tables = t; packed_log = m }) = λ i. record { entries = sym e i; tables = sym l i; packed_log = sym p i } in
    subst PlanFits made fits
