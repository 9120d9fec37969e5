-- The reductions of the tables of a shape on numbers of rows, in the order in which they come.
-- Source: docs/PROOF.md, "The plan" and "The reductions of a proof".
use Rattle.std.specs.Prelude.{◌≡◌, ℕ, ◌≤◌, ◌+◌, ◌^◌, ◌==◌, ltb, cond, List, [], ◌∷◌, ◌++◌, length, map, slice_index, Option, None, Some}
use Rattle.std.specs.List.{flat_map}
use Rattle.list_laws.specs.CeilLog.{ceil_log}
use Rattle.cube_laws.specs.Sums.{tabulate}
use Rattle.poly_forms.specs.declared.check_kind.CheckKind.TheVariants as check
use Rattle.table_text.specs.Limits.{max_log_values}
use Rattle.sumcheck.specs.declared.entry.Entry.{Entry}
use Rattle.sumcheck.specs.declared.entry.Entry.TheVariants as due
use Rattle.table_shape.specs.declared.shape.ColumnShape.{ColumnShape}
use Rattle.table_shape.specs.declared.shape.TableShape.{TableShape}
use Rattle.table_shape.specs.Fits.{ShapeFits}
use Rattle.table_shape.specs.Limits.{max_rows}
use Rattle.table_shape.specs.Parts.{ShapeParts}
use Rattle.table_shape.specs.Placement.{blocks, places_log}
use Rattle.channel_products.specs.declared.flushed.Flushed.{Flushed}
use Rattle.channel_products.specs.Balancing as balance
use Rattle.channel_products.specs.Channels.{channels_of, flushes_from}
use Rattle.channel_products.specs.Descent as descent
use Rattle.zerocheck.specs.Group.{group_of}
use Rattle.zerocheck.specs.Zero as zero
use Rattle.eval_reduce.specs.Linear as linear
use Rattle.eval_reduce.specs.Linear.{combination_of}
use Rattle.eval_reduce.specs.Merge as merge
use Rattle.eval_reduce.specs.Pack as pack
use Rattle.eval_reduce.specs.Pack.{packing_of}
use Rattle.eval_reduce.specs.Project as project
use Rattle.eval_reduce.specs.Project.{projection_of}
use Rattle.eval_reduce.specs.Shift as shift
use Rattle.eval_reduce.specs.Shift.{shifting_of}
use Rattle.bit_claim.specs.Batching as batch
use Rattle.ring_switch.specs.Switching as switch
use Rattle.proof_plan.specs.declared.plan_entry.PlanEntry.{PlanEntry}
use Rattle.proof_plan.specs.declared.plan_entry.PlanEntry.TheVariants.{Root, Message, Draw, Constant, Queries}
use Rattle.walk_chain.specs.Chain.{Suits, plan_of}
use Rattle.proof_plan.specs.Plan.{backwards, bit_claims, claims_after, first_columns, flush_count, plan, sources, times_in}
use Rattle.m3_walk.specs.declared.stage.Stage.{Stage}
use Rattle.m3_walk.specs.declared.stage.Stage.TheVariants as stage
use Rattle.m3_walk.specs.Kept.{none_wait}
use Rattle.m3_walk.specs.Linked.{linking}
use Rattle.m3_walk.specs.Linking.{sizes}

-- ---- where there is one
abbrev pub when : {X : Type 0} → (X → Stage) → Option X → List Stage
when make None = []
when make (Some x) = make x ∷ []

-- ---- channels, and the products of flushes
abbrev pub flush_stage : Flushed → Stage
flush_stage f = stage.Flush (descent.waiting f)

abbrev pub channel_stages : ShapeParts → List ℕ → List Stage
channel_stages shape rows = cond (length shape.channels == 0) [] (stage.Channels (balance.waiting (channels_of shape rows)) ∷ map flush_stage (flushes_from rows 0 shape.tables))

-- ---- constraints, by their numbers of values per row
abbrev pub group_stages : List TableShape → ℕ → ℕ → ℕ → List Stage
group_stages tables rows t v = when (λ g. stage.Constraints (zero.waiting g)) (group_of tables rows t v)

-- of the tables numbered from t on
abbrev pub constraint_stages : List TableShape → List ℕ → ℕ → List TableShape → List Stage
constraint_stages all rows t [] = []
constraint_stages all rows t (table ∷ tables) = flat_map (group_stages all (slice_index rows t) t) (tabulate (max_log_values + 1) (λ v. v)) ++ constraint_stages all rows (t + 1) tables

-- ---- columns, each with so many claims on it
-- two or more become one
abbrev pub merge_stages : (table column vars claims : ℕ) → List Stage
merge_stages t c n j = cond (ltb j 2) [] (stage.Merge (record { table = t; column = c; walk = merge.waiting n j }) ∷ [])

-- that of a virtual column becomes claims on what it is made from
abbrev pub form_stages : List TableShape → ℕ → ℕ → ℕ → List Stage
form_stages tables rows t c =
    when (λ f. stage.Linear (linear.waiting f)) (combination_of tables rows t c)
    ++ when (λ p. stage.Project (project.waiting p)) (projection_of tables rows t c)
    ++ when (λ f. stage.Pack (pack.waiting f)) (packing_of tables rows t c)
    ++ when (λ s. stage.Shift (shift.waiting s)) (shifting_of tables rows t c)

abbrev pub column_stages : List TableShape → ℕ → ℕ → ℕ → ColumnShape → ℕ → List Stage
column_stages tables rows t c column j = cond (j == 0) [] (merge_stages t c (ceil_log rows + column.log_values) j ++ form_stages tables rows t c)

-- columns from the last to the first, given in that order with their numbers falling to 0, where claims are on these columns
abbrev pub columns_stages : List TableShape → ℕ → ℕ → List ColumnShape → List ℕ → List Stage
columns_stages tables rows t [] claimed = []
columns_stages tables rows t (column ∷ before) claimed =
    let j = times_in (length before) claimed in
    column_stages tables rows t (length before) column j ++ columns_stages tables rows t before (claims_after column j claimed)

abbrev pub table_stages : List TableShape → List ℕ → ℕ → List TableShape → List Stage
table_stages all rows t [] = []
table_stages all rows t (table ∷ tables) = columns_stages all (slice_index rows t) t (backwards table.columns) (first_columns table) ++ table_stages all rows (t + 1) tables

-- ---- all, with the claims on committed columns and the ring switch at the end
abbrev pub course : ShapeParts → List ℕ → List Stage
course shape rows =
    channel_stages shape rows
    ++ constraint_stages shape.tables rows 0 shape.tables
    ++ table_stages shape.tables rows 0 shape.tables
    ++ stage.Bits (batch.waiting (blocks shape.tables rows) (bit_claims shape.tables)) ∷ stage.Words (switch.waiting (places_log (blocks shape.tables rows))) ∷ []

-- ---- what of a plan a walk goes through: the constant is a message of one value
abbrev pub walked : List PlanEntry → List Entry
walked [] = []
walked (Root ∷ es) = walked es
walked (Message c n ∷ es) = due.Message c n ∷ walked es
walked (Draw k n ∷ es) = due.Draw k n ∷ walked es
walked (Constant ∷ es) = due.Message check.Constant 1 ∷ walked es
walked (Queries ∷ es) = walked es

-- ---- how many claims on columns, or products, can wait at most
abbrev pub source_count : List ColumnShape → ℕ
source_count [] = 0
source_count (column ∷ columns) = length (sources column.kind) + source_count columns

abbrev pub claim_count : List TableShape → ℕ
claim_count [] = 0
claim_count (table ∷ tables) = length (first_columns table) + source_count table.columns + claim_count tables

-- for all of them there is memory
pub record IsEnough (shape : ShapeParts) (room : ℕ) : Type 0 where
  pub products : flush_count shape.tables ≤ room
  pub columns : claim_count shape.tables ≤ room

-- ---- what is due of all of them, and that each can be entered when its turn comes
abbrev pub ArePlans : Type 0
ArePlans = (shape : ShapeParts) (rows : List ℕ) (room : ℕ) → ShapeFits shape → length rows ≡ length shape.tables → ((t : ℕ) → slice_index rows t ≤ max_rows) → IsEnough shape room
    → plan_of linking (sizes (none_wait room)) (course shape rows) ≡ walked (plan shape rows)

abbrev pub AreSuited : Type 0
AreSuited = (shape : ShapeParts) (rows : List ℕ) (room : ℕ) → ShapeFits shape → length rows ≡ length shape.tables → ((t : ℕ) → slice_index rows t ≤ max_rows) → IsEnough shape room
    → Suits linking (sizes (none_wait room)) (course shape rows)

abbrev pub AreShort : Type 0
AreShort = (shape : ShapeParts) (rows : List ℕ) → ShapeFits shape → length (course shape rows) ≤ 2 ^ 17
