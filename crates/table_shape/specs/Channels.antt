-- The tuples that go into channels and come out of them.
-- Source: docs/LANGUAGE.md, "Channels".
use Rattle.std.specs.Prelude.{◌≡◌, ℕ, ◌+◌, ◌==◌, ◌&&◌, Bool, true, false, List, [], ◌∷◌, ◌++◌, map, slice_get, slice_index, Option, Some, None}
use Rattle.std.specs.List.{filter, flat_map}
use Rattle.cube_laws.specs.Sums.{tabulate}
use Rattle.multiset_laws.specs.Balance.{Balance, IsBalanced}
use Rattle.table_text.specs.declared.decl.Side.{Side}
use Rattle.table_text.specs.declared.decl.Side.TheVariants.{Push, Pull}
use Rattle.table_shape.specs.declared.shape.ChannelShape.{ChannelShape}
use Rattle.table_shape.specs.declared.shape.BoundaryShape.{BoundaryShape}
use Rattle.table_shape.specs.declared.shape.FlushShape.{FlushShape}
use Rattle.table_shape.specs.declared.shape.TableShape.{TableShape}
use Rattle.table_shape.specs.Parts.{ShapeParts}
use Rattle.table_shape.specs.Filling.{Filling, values_of}

abbrev pub same_side : Side → Side → Bool
same_side Push Push = true
same_side Push Pull = false
same_side Pull Push = false
same_side Pull Pull = true

-- the rows below m
abbrev pub rows_below : ℕ → List ℕ
rows_below m = tabulate m (λ row. row)

-- the tuple of a flush at a row, where values c is the list of column c
abbrev pub tuple_at : (ℕ → List ℕ) → FlushShape → ℕ → List ℕ
tuple_at values flush row = map (λ c. slice_index (values c) row) flush.columns

-- a row is taken where the selector is 1, and where there is none
abbrev pub is_taken : (ℕ → List ℕ) → Option ℕ → ℕ → Bool
is_taken values None row = true
is_taken values (Some s) row = slice_index (values s) row == 1

-- the tuples of a flush: those of the rows below m that are taken
abbrev pub flush_tuples : (ℕ → List ℕ) → ℕ → FlushShape → List (List ℕ)
flush_tuples values m flush = map (tuple_at values flush) (filter (is_taken values flush.selector) (rows_below m))

-- a flush of this side of this channel
abbrev pub is_flush_of : Side → ℕ → FlushShape → Bool
is_flush_of side channel flush = same_side side flush.side && channel == flush.channel

abbrev pub is_boundary_of : Side → ℕ → BoundaryShape → Bool
is_boundary_of side channel boundary = same_side side boundary.side && channel == boundary.channel

-- the tuples of one side of a channel in the tables numbered from t on
abbrev pub table_tuples : Side → ℕ → Filling → List ℕ → ℕ → List TableShape → List (List ℕ)
table_tuples side channel filling rows t [] = []
table_tuples side channel filling rows t (table ∷ tables) =
    flat_map (flush_tuples (values_of filling t) (slice_index rows t)) (filter (is_flush_of side channel) table.flushes) ++ table_tuples side channel filling rows (t + 1) tables

-- those of boundaries
abbrev pub boundary_tuples : Side → ℕ → List BoundaryShape → List (List ℕ)
boundary_tuples side channel boundaries = map (λ (b : BoundaryShape). b.values) (filter (is_boundary_of side channel) boundaries)

-- all tuples of one side of a channel
abbrev pub tuples : Side → ShapeParts → List ℕ → Filling → ℕ → List (List ℕ)
tuples side shape rows filling channel = table_tuples side channel filling rows 0 shape.tables ++ boundary_tuples side channel shape.boundaries

-- what is pushed into a channel and what is pulled out of it
abbrev pub balance_of : ShapeParts → List ℕ → Filling → ℕ → ℕ → Balance
balance_of shape rows filling channel width = record { width = width; pushed = tuples Push shape rows filling channel; pulled = tuples Pull shape rows filling channel }

-- each tuple of a channel is pushed as often as it is pulled
abbrev pub IsInBalance : ShapeParts → List ℕ → Filling → ℕ → Type 0
IsInBalance shape rows filling channel = (c : ChannelShape) → slice_get shape.channels channel ≡ Some c → IsBalanced (balance_of shape rows filling channel c.width)
