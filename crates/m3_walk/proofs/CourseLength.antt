-- There are few reductions in a proof's course.
use Rattle.std.proofs.Common.{◌≡◌, ◌≤◌, ◌+◌, ◌*◌, ◌^◌, ◌==◌, ltb, ℕ, Bool, true, false, cond, List, [], ◌∷◌, ◌++◌, length, map, slice_index, Option, Some, None, refl, arith}
use Rattle.std.proofs.lemmas.List.{length-append, length-map}
use Rattle.std.specs.List.{AllByRecursion, flat_map}
use Rattle.list_laws.specs.CeilLog.{ceil_log}
use Rattle.cube_laws.specs.Sums.{tabulate}
use Rattle.cube_laws.proofs.Weights.{length-tabulate}
use Rattle.table_text.specs.Limits.{max_log_values}
use Rattle.table_shape.specs.declared.shape.ColumnShape.{ColumnShape}
use Rattle.table_shape.specs.declared.shape.TableShape.{TableShape}
use Rattle.table_shape.specs.Fits.{ShapeFits}
use Rattle.table_shape.specs.Parts.{ShapeParts}
use Rattle.table_shape.specs.Placement.{blocks, places_log}
use Rattle.channel_products.specs.Balancing as balance
use Rattle.channel_products.specs.Channels.{channels_of, flushes_from}
use Rattle.zerocheck.specs.Group.{group_of}
use Rattle.zerocheck.specs.Zero as zeros
use Rattle.eval_reduce.specs.Linear as linear
use Rattle.eval_reduce.specs.Linear.{combination_of}
use Rattle.eval_reduce.specs.Merge as merge
use Rattle.eval_reduce.specs.Pack as pack
use Rattle.eval_reduce.specs.Pack.{packing_of}
use Rattle.eval_reduce.specs.Project as project
use Rattle.eval_reduce.specs.Project.{projection_of}
use Rattle.eval_reduce.specs.Shift as shift
use Rattle.eval_reduce.specs.Shift.{shifting_of}
use Rattle.bit_claim.specs.Batching as batch
use Rattle.ring_switch.specs.Switching as switch
use Rattle.proof_plan.specs.Plan.{backwards, bit_claims, claims_after, first_columns, flush_count, times_in}
use Rattle.proof_plan.specs.Small.{TableIsSmall}
use Rattle.proof_plan.proofs.SmallShape.{tables_small}
use Rattle.m3_walk.specs.declared.stage.Stage.{Stage}
use Rattle.m3_walk.specs.declared.stage.Stage.TheVariants as stage
use Rattle.m3_walk.specs.Course.{channel_stages, column_stages, columns_stages, constraint_stages, course, flush_stage, form_stages, group_stages, merge_stages, table_stages, when}
use Rattle.m3_walk.proofs.CourseChannels.{length-flushes_from}
use Rattle.m3_walk.proofs.CourseTables.{length-backwards}

-- ---- where there is one
at_most_one : {X : Type 0} (make : X → Stage) (o : Option X) → length (when make o) ≤ 1
at_most_one make None = omega arith
at_most_one make (Some x) = omega arith

none_or : (b : Bool) (n : ℕ) (gs : List Stage) → length gs ≤ n → length (cond b [] gs) ≤ n
none_or true n gs h = omega arith
none_or false n gs h = h

-- ---- channels
few_flushes : (tables : List TableShape) → AllByRecursion TableIsSmall tables → flush_count tables ≤ length tables * 64
few_flushes [] h = omega arith
few_flushes (table ∷ tables) h = let a = h.0.few_flushes in let b = few_flushes tables h.1 in omega arith

channels_few : (shape : ShapeParts) (rows : List ℕ) → length (channel_stages shape rows) ≤ 1 + flush_count shape.tables
channels_few shape rows =
    let count = length-map (flushes_from rows 0 shape.tables) flush_stage in
    let flushes = length-flushes_from rows 0 shape.tables in
    none_or (length shape.channels == 0) (1 + flush_count shape.tables) (stage.Channels (balance.waiting (channels_of shape rows)) ∷ map flush_stage (flushes_from rows 0 shape.tables)) (omega arith)

-- ---- constraints
groups_few : (all : List TableShape) (rows t : ℕ) (vs : List ℕ) → length (flat_map (group_stages all rows t) vs) ≤ length vs
groups_few all rows t [] = omega arith
groups_few all rows t (v ∷ vs) =
    let a = at_most_one (λ g. stage.Constraints (zeros.waiting g)) (group_of all rows t v) in
    let b = groups_few all rows t vs in
    let joined = length-append (group_stages all rows t v) (flat_map (group_stages all rows t) vs) in
    omega arith

constraints_few : (all : List TableShape) (rows : List ℕ) (t : ℕ) (tables : List TableShape) → length (constraint_stages all rows t tables) ≤ length tables * 8
constraints_few all rows t [] = omega arith
constraints_few all rows t (table ∷ tables) =
    let vs = tabulate (max_log_values + 1) (λ v. v) in
    let a = groups_few all (slice_index rows t) t vs in
    let size = length-tabulate (max_log_values + 1) (λ v. v) in
    let b = constraints_few all rows (t + 1) tables in
    let joined = length-append (flat_map (group_stages all (slice_index rows t) t) vs) (constraint_stages all rows (t + 1) tables) in
    omega arith

-- ---- columns
forms_few : (all : List TableShape) (rows t c : ℕ) → length (form_stages all rows t c) ≤ 4
forms_few all rows t c =
    let a = when (λ f. stage.Linear (linear.waiting f)) (combination_of all rows t c) in
    let b = when (λ p. stage.Project (project.waiting p)) (projection_of all rows t c) in
    let d = when (λ f. stage.Pack (pack.waiting f)) (packing_of all rows t c) in
    let e = when (λ s. stage.Shift (shift.waiting s)) (shifting_of all rows t c) in
    let one = at_most_one (λ f. stage.Linear (linear.waiting f)) (combination_of all rows t c) in
    let two = at_most_one (λ p. stage.Project (project.waiting p)) (projection_of all rows t c) in
    let three = at_most_one (λ f. stage.Pack (pack.waiting f)) (packing_of all rows t c) in
    let four = at_most_one (λ s. stage.Shift (shift.waiting s)) (shifting_of all rows t c) in
    let joined = length-append (a ++ b ++ d) e in
    let before = length-append (a ++ b) d in
    let first = length-append a b in
    omega arith

column_few : (all : List TableShape) (rows t c : ℕ) (column : ColumnShape) (j : ℕ) → length (column_stages all rows t c column j) ≤ 5
column_few all rows t c column j =
    let n = ceil_log rows + column.log_values in
    let merges = none_or (ltb j 2) 1 (stage.Merge (record { table = t; column = c; walk = merge.waiting n j }) ∷ []) (omega arith) in
    let forms = forms_few all rows t c in
    let joined = length-append (merge_stages t c n j) (form_stages all rows t c) in
    none_or (j == 0) 5 (merge_stages t c n j ++ form_stages all rows t c) (omega arith)

columns_few : (all : List TableShape) (rows t : ℕ) (cs : List ColumnShape) (claimed : List ℕ) → length (columns_stages all rows t cs claimed) ≤ length cs * 5
columns_few all rows t [] claimed = omega arith
columns_few all rows t (column ∷ before) claimed =
    let j = times_in (length before) claimed in
    let a = column_few all rows t (length before) column j in
    let b = columns_few all rows t before (claims_after column j claimed) in
    let joined = length-append (column_stages all rows t (length before) column j) (columns_stages all rows t before (claims_after column j claimed)) in
    omega arith

tables_few : (all : List TableShape) (rows : List ℕ) (t : ℕ) (tables : List TableShape) → AllByRecursion TableIsSmall tables → length (table_stages all rows t tables) ≤ length tables * 1280
tables_few all rows t [] h = omega arith
tables_few all rows t (table ∷ tables) h =
    let few = h.0.few_columns in
    let size = length-backwards table.columns in
    let a = columns_few all (slice_index rows t) t (backwards table.columns) (first_columns table) in
    let b = tables_few all rows (t + 1) tables h.1 in
    let joined = length-append (columns_stages all (slice_index rows t) t (backwards table.columns) (first_columns table)) (table_stages all rows (t + 1) tables) in
    omega arith

-- ---- all
short_enough : (n a b c d : ℕ) → n ≤ 64 → a ≤ n * 64 → b ≤ n * 8 → c ≤ n * 1280 → d ≡ 1 + a + b + c + 2 → d ≤ 2 ^ 17
short_enough n a b c d h x y z e = omega arith

pub course_is_short : (shape : ShapeParts) (rows : List ℕ) → ShapeFits shape → length (course shape rows) ≤ 2 ^ 17
course_is_short shape rows fits =
    let all = shape.tables in
    let small = tables_small shape fits in
    let few = fits.few_tables in
    let flushes = few_flushes all small in
    let channels = channels_few shape rows in
    let groups = constraints_few all rows 0 all in
    let columns = tables_few all rows 0 all small in
    let a = channel_stages shape rows in
    let b = constraint_stages all rows 0 all in
    let c = table_stages all rows 0 all in
    let last : List Stage = stage.Bits (batch.waiting (blocks all rows) (bit_claims all)) ∷ stage.Words (switch.waiting (places_log (blocks all rows))) ∷ [] in
    let joined = length-append (a ++ b ++ c) last in
    let before = length-append (a ++ b) c in
    let first = length-append a b in
    let most = short_enough (length all) (flush_count all) (length b) (length c) (1 + flush_count all + length b + length c + 2) few flushes groups columns refl in
    omega arith
