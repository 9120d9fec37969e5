-- What the fields of a walk of a flush stand for.
-- Source: docs/REDUCTIONS.md, "Products of flushes".
use Rattle.std.specs.Prelude.{◌≡◌, ℕ, zero, suc, ◌+◌, List, [], ◌∷◌, ◌++◌, Option, Some, option_and_then, slice_get, slice_index}
use Rattle.sumcheck.specs.declared.column_claim.ColumnClaim.{ColumnClaim}
use Rattle.sumcheck.specs.declared.column_tables.ColumnTable.{ColumnTable}
use Rattle.sumcheck.specs.Rounds.{Rounds, sum_claim, bound}
use Rattle.sumcheck.specs.Summing.{adding, closed}
use Rattle.table_shape.specs.declared.shape.FlushShape.{FlushShape}
use Rattle.table_shape.specs.declared.shape.TableShape.{TableShape}
use Rattle.channel_products.specs.declared.product_walk.Stage.{Stage}
use Rattle.channel_products.specs.declared.product_walk.Stage.TheVariants.{Waiting, Layers, Joining, Leaves, Done}
use Rattle.channel_products.specs.Descent.{Descent, Layered, layers, leaves, row_vars, waiting}
use Rattle.channel_products.specs.Given.{FlushIsThere}

-- flush f of table t
abbrev pub flush_in : List TableShape → ℕ → ℕ → Option FlushShape
flush_in tables t f = option_and_then (λ (table : TableShape). slice_get table.flushes f) (slice_get tables t)

-- each flush of the shape has its columns
abbrev pub EachIsThere : List TableShape → List ℕ → List ColumnTable → Type 0
EachIsThere shape rows tables = (t k : ℕ) (f : FlushShape) → flush_in shape t k ≡ Some f → FlushIsThere tables (record { table = t; number = k; rows = slice_index rows t; shape = f })

-- the state
abbrev pub descent_of : Stage → Layered → Rounds → ℕ → ℕ → List ColumnClaim → Descent
descent_of Waiting t r low high claims = waiting t.at.flushed
descent_of Layers t r low high claims = layers (adding t r)
descent_of Joining t r low high claims = layers (closed (record { layered = t; point = bound r; low = low; high = high }))
descent_of Leaves t r low high claims = leaves (adding t.at r)
descent_of Done t r low high claims = leaves (closed claims)

-- the sums from layer k on, d layers down to the leaves of n variables: the next one last, and none is stated yet
abbrev pub sums_from : ℕ → ℕ → ℕ → List Rounds
sums_from n k zero = sum_claim 4 n [] 0 ∷ []
sums_from n k (suc d) = sums_from n (suc k) d ++ sum_claim 3 k [] 0 ∷ []

-- the stage where a value of a layer is stated, with d layers down to the leaves
abbrev pub stage_at : ℕ → Stage
stage_at zero = Leaves
stage_at (suc d) = Layers

-- what is known in each stage: the sums after the one that stands
abbrev pub StageFits : Stage → Layered → List Rounds → List ColumnClaim → Type 0
StageFits Waiting t later claims = (t.at.point ≡ []) × ((later ≡ sums_from (row_vars t.at.flushed) 0 (row_vars t.at.flushed)) × (claims ≡ []))
StageFits Layers t later claims = (row_vars t.at.flushed ≡ t.layer + suc t.below) × ((later ≡ sums_from (row_vars t.at.flushed) (suc t.layer) t.below) × (claims ≡ []))
StageFits Joining t later claims = (row_vars t.at.flushed ≡ t.layer + suc t.below) × ((later ≡ sums_from (row_vars t.at.flushed) (suc t.layer) t.below) × (claims ≡ []))
StageFits Leaves t later claims = claims ≡ []
StageFits Done t later claims = Unit {0}

-- the claims are still to come
abbrev pub IsOpen : Stage → Type 0
IsOpen Waiting = Unit {0}
IsOpen Layers = Unit {0}
IsOpen Joining = Unit {0}
IsOpen Leaves = Unit {0}
IsOpen Done = ⊥
