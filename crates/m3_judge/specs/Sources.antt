-- The tuples that sources stand for.
-- Source: docs/ARCHITECTURE.md, "Within m3_judge".
use Rattle.std.specs.Prelude.{ℕ, List, [], map, slice_get, Option, Some, None, option_and_then}
use Rattle.table_shape.specs.declared.shape.BoundaryShape.{BoundaryShape}
use Rattle.table_shape.specs.declared.shape.FlushShape.{FlushShape}
use Rattle.table_shape.specs.declared.shape.TableShape.{TableShape}
use Rattle.table_shape.specs.Channels.{tuple_at}
use Rattle.table_shape.specs.Filling.{Filling, values_of}
use Rattle.table_shape.specs.Parts.{ShapeParts}
use Rattle.m3_judge.specs.declared.source.Source.{Source}
use Rattle.m3_judge.specs.declared.source.Source.TheVariants.{Row, Boundary}

-- the flush of this number of a table, where there is one
abbrev pub flush_at : List TableShape → ℕ → ℕ → Option FlushShape
flush_at tables t f = option_and_then (λ (table : TableShape). slice_get table.flushes f) (slice_get tables t)

-- the tuple of a row, and no numbers where there is no such flush
abbrev pub row_tuple : (ℕ → List ℕ) → ℕ → Option FlushShape → List ℕ
row_tuple values row None = []
row_tuple values row (Some flush) = tuple_at values flush row

abbrev pub values_in : Option BoundaryShape → List ℕ
values_in None = []
values_in (Some boundary) = boundary.values

abbrev pub tuple_of : ShapeParts → Filling → Source → List ℕ
tuple_of shape filling (Row t f row) = row_tuple (values_of filling t) row (flush_at shape.tables t f)
tuple_of shape filling (Boundary b) = values_in (slice_get shape.boundaries b)

abbrev pub tuples_of : ShapeParts → Filling → List Source → List (List ℕ)
tuples_of shape filling sources = map (tuple_of shape filling) sources
