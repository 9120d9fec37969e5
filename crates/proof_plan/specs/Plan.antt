-- The plan of a proof: what its file holds and what is drawn, entry by entry, computed from a shape and numbers of rows.
-- Source: docs/PROOF.md, "The plan".
use Rattle.std.specs.Prelude.{ℕ, zero, suc, ◌+◌, ◌-◌, ◌==◌, ltb, cond, List, [], ◌∷◌, ◌++◌, length, map, slice_index, ◌^◌}
use Rattle.std.specs.List.{flat_map}
use Rattle.list_laws.specs.CeilLog.{ceil_log}
use Rattle.cube_laws.specs.Sums.{tabulate}
use Rattle.poly_forms.specs.declared.check_kind.CheckKind.{CheckKind}
use Rattle.poly_forms.specs.declared.check_kind.CheckKind.TheVariants as check
use Rattle.poly_forms.specs.declared.draw_kind.DrawKind.{DrawKind}
use Rattle.poly_forms.specs.declared.draw_kind.DrawKind.TheVariants as draw
use Rattle.table_text.specs.Limits.{max_log_values}
use Rattle.table_shape.specs.declared.shape.ColumnKind.{ColumnKind}
use Rattle.table_shape.specs.declared.shape.ColumnKind.TheVariants.{Committed, Virtual}
use Rattle.table_shape.specs.declared.shape.ColumnShape.{ColumnShape}
use Rattle.table_shape.specs.declared.shape.ConstraintShape.{ConstraintShape}
use Rattle.table_shape.specs.declared.shape.FlushShape.{FlushShape}
use Rattle.table_shape.specs.declared.shape.ShapeForm.{ShapeForm}
use Rattle.table_shape.specs.declared.shape.ShapeForm.TheVariants as form
use Rattle.table_shape.specs.declared.shape.ShapeTerm.{ShapeTerm}
use Rattle.table_shape.specs.declared.shape.TableShape.{TableShape}
use Rattle.table_shape.specs.Counts.{alpha_count, batch_count, gamma_count, group}
use Rattle.table_shape.specs.Parts.{ShapeParts}
use Rattle.table_shape.specs.Placement.{blocks, places_log}
use Rattle.table_shape.specs.Value.{greatest}
use Rattle.channel_products.specs.Given.{named_columns}
use Rattle.zerocheck.specs.Group.{named}
use Rattle.proof_plan.specs.declared.plan_entry.PlanEntry.{PlanEntry}
use Rattle.proof_plan.specs.declared.plan_entry.PlanEntry.TheVariants.{Root, Message, Draw, Constant, Queries}

-- ---- rounds
-- of degree d over n variables: each a message of the values at 0, 1, .., d and a draw of count d
abbrev pub rounds : DrawKind → ℕ → ℕ → List PlanEntry
rounds kind d zero = []
rounds kind d (suc n) = Message check.RoundSum (suc d) ∷ Draw kind d ∷ rounds kind d n

-- those of a sum, and its last message of m values
abbrev pub sum_entries : DrawKind → ℕ → ℕ → CheckKind → ℕ → List PlanEntry
sum_entries kind d n last m = rounds kind d n ++ Message last m ∷ []

-- n draws of one coordinate each
abbrev pub coordinates : DrawKind → ℕ → List PlanEntry
coordinates kind zero = []
coordinates kind (suc n) = Draw kind 1 ∷ coordinates kind n

-- ---- channels
-- a flush whose leaves are made from c columns: from layer k on, d layers down to the leaves, which are at layer k + d
abbrev pub layer_entries : ℕ → ℕ → ℕ → List PlanEntry
layer_entries c k zero = sum_entries draw.LeafRound 4 k check.LeafFinal c
layer_entries c k (suc d) = rounds draw.LayerRound 3 k ++ Message check.LayerFinal 2 ∷ Draw draw.LayerJoin 1 ∷ layer_entries c (suc k) d

abbrev pub flush_entries : ℕ → FlushShape → List PlanEntry
flush_entries rows flush = layer_entries (length (named_columns flush)) 0 (ceil_log rows)

-- the flushes of the tables numbered from t on
abbrev pub flushes_entries : List ℕ → ℕ → List TableShape → List PlanEntry
flushes_entries rows t [] = []
flushes_entries rows t (table ∷ tables) = flat_map (flush_entries (slice_index rows t)) table.flushes ++ flushes_entries rows (t + 1) tables

abbrev pub flush_count : List TableShape → ℕ
flush_count [] = 0
flush_count (table ∷ tables) = length table.flushes + flush_count tables

-- where there is a channel
abbrev pub channel_entries : ShapeParts → List ℕ → List PlanEntry
channel_entries shape rows =
    cond (length shape.channels == 0) []
    (Draw draw.Alpha (alpha_count shape rows) ∷ Draw draw.Gamma (gamma_count shape rows) ∷ Message check.Products (flush_count shape.tables) ∷ flushes_entries rows 0 shape.tables)

-- ---- constraints
-- the columns that constraints of 2 ^ v values per row name
abbrev pub group_columns : ℕ → TableShape → List ℕ
group_columns v table = named (group v table) (length table.columns)

abbrev pub group_degree : ℕ → TableShape → ℕ
group_degree v table = greatest (map (λ (z : ConstraintShape). z.degree) (group v table))

-- where a table has a constraint of 2 ^ v values per row
abbrev pub group_entries : ℕ → TableShape → ℕ → List PlanEntry
group_entries rows table v =
    cond (length (group v table) == 0) []
    (Draw draw.ConstraintBatch (batch_count v table) ∷ coordinates draw.ZeroCoordinate (ceil_log rows + v) ++ sum_entries draw.ZeroRound (group_degree v table + 2) (ceil_log rows + v) check.ZeroFinal (length (group_columns v table)))

abbrev pub constraint_entries : List ℕ → ℕ → List TableShape → List PlanEntry
constraint_entries rows t [] = []
constraint_entries rows t (table ∷ tables) = flat_map (group_entries (slice_index rows t) table) (tabulate (max_log_values + 1) (λ v. v)) ++ constraint_entries rows (t + 1) tables

-- ---- columns
-- how often a number is in a list
abbrev pub times_in : ℕ → List ℕ → ℕ
times_in c [] = 0
times_in c (k ∷ ks) = cond (k == c) 1 0 + times_in c ks

-- the columns that the claims of a table's flushes and groups are on, a column as often as there are claims on it
abbrev pub first_columns : TableShape → List ℕ
first_columns table = flat_map named_columns table.flushes ++ flat_map (λ v. group_columns v table) (tabulate (max_log_values + 1) (λ v. v))

-- the columns that a virtual column is made from
abbrev pub form_sources : ShapeForm → List ℕ
form_sources (form.Shl c block offset) = c ∷ []
form_sources (form.Shr c block offset) = c ∷ []
form_sources (form.Rol c block offset) = c ∷ []
form_sources (form.Pack c log) = c ∷ []
form_sources (form.Project c log index) = c ∷ []
form_sources (form.Linear constant terms) = map (λ (t : ShapeTerm). t.column) terms

abbrev pub sources : ColumnKind → List ℕ
sources Committed = []
sources (Virtual f) = form_sources f

abbrev pub form_entries : ShapeForm → List PlanEntry
form_entries (form.Shl c block offset) = sum_entries draw.ShiftRound 2 block check.ShiftFinal 1
form_entries (form.Shr c block offset) = sum_entries draw.ShiftRound 2 block check.ShiftFinal 1
form_entries (form.Rol c block offset) = sum_entries draw.ShiftRound 2 block check.ShiftFinal 1
form_entries (form.Pack c log) = Message check.Pack (2 ^ log) ∷ coordinates draw.PackCoordinate log
form_entries (form.Project c log index) = []
form_entries (form.Linear constant terms) = Message check.Linear (length terms) ∷ []

abbrev pub kind_entries : ColumnKind → List PlanEntry
kind_entries Committed = []
kind_entries (Virtual f) = form_entries f

-- j claims on a column of n variables become one
abbrev pub merge_entries : ℕ → ℕ → List PlanEntry
merge_entries n j = cond (ltb j 2) [] (Draw draw.Merge (j - 1) ∷ sum_entries draw.MergeRound 2 n check.MergeFinal 1)

-- a column with j claims on it
abbrev pub column_entries : ℕ → ColumnShape → ℕ → List PlanEntry
column_entries rows column j = cond (j == 0) [] (merge_entries (ceil_log rows + column.log_values) j ++ kind_entries column.kind)

-- the columns that claims are on once column c with j claims is done
abbrev pub claims_after : ColumnShape → ℕ → List ℕ → List ℕ
claims_after column j claimed = cond (j == 0) claimed (claimed ++ sources column.kind)

-- columns from the last to the first, given in that order with their numbers falling to 0, where claims are on these columns
abbrev pub columns_entries : ℕ → List ColumnShape → List ℕ → List PlanEntry
columns_entries rows [] claimed = []
columns_entries rows (column ∷ before) claimed =
    let j = times_in (length before) claimed in
    column_entries rows column j ++ columns_entries rows before (claims_after column j claimed)

-- how many committed columns have a claim in the end
abbrev pub is_committed : ColumnKind → ℕ
is_committed Committed = 1
is_committed (Virtual f) = 0

abbrev pub committed_claims : List ColumnShape → List ℕ → ℕ
committed_claims [] claimed = 0
committed_claims (column ∷ before) claimed =
    let j = times_in (length before) claimed in
    cond (j == 0) 0 (is_committed column.kind) + committed_claims before (claims_after column j claimed)

-- a table's columns, the last first
abbrev pub backwards : List ColumnShape → List ColumnShape
backwards [] = []
backwards (c ∷ cs) = backwards cs ++ c ∷ []

abbrev pub table_entries : List ℕ → ℕ → List TableShape → List PlanEntry
table_entries rows t [] = []
table_entries rows t (table ∷ tables) = columns_entries (slice_index rows t) (backwards table.columns) (first_columns table) ++ table_entries rows (t + 1) tables

abbrev pub bit_claims : List TableShape → ℕ
bit_claims [] = 0
bit_claims (table ∷ tables) = committed_claims (backwards table.columns) (first_columns table) + bit_claims tables

-- ---- bits and words
-- a table of 2 ^ n places, j claims
abbrev pub bit_entries : ℕ → ℕ → List PlanEntry
bit_entries n j = Draw draw.BitBatch (j - 1) ∷ sum_entries draw.BitRound 2 n check.BitFinal 1

-- the rounds over n variables, with the root of each folded word but the last
abbrev pub switch_rounds : ℕ → List PlanEntry
switch_rounds zero = []
switch_rounds (suc zero) = Message check.RoundSum 3 ∷ Draw draw.SwitchRound 2 ∷ []
switch_rounds (suc (suc n)) = Message check.RoundSum 3 ∷ Draw draw.SwitchRound 2 ∷ Root ∷ switch_rounds (suc n)

abbrev pub switch_entries : ℕ → List PlanEntry
switch_entries m = Message check.Tensor 128 ∷ coordinates draw.TensorCoordinate 7 ++ switch_rounds m ++ Constant ∷ Queries ∷ []

-- ---- the plan
-- the packed table has 2 ^ packed_log words
abbrev pub packed_log : ShapeParts → List ℕ → ℕ
packed_log shape rows = places_log (blocks shape.tables rows) - 7

abbrev pub plan : ShapeParts → List ℕ → List PlanEntry
plan shape rows =
    Root ∷ channel_entries shape rows
    ++ constraint_entries rows 0 shape.tables
    ++ table_entries rows 0 shape.tables
    ++ bit_entries (places_log (blocks shape.tables rows)) (bit_claims shape.tables)
    ++ switch_entries (packed_log shape rows)
