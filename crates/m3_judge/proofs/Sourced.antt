-- The numbers of a tuple, by where it comes from.
use Rattle.std.proofs.Common.{◌≡◌, ℕ, ◌<◌, ◌≤◌, List, length, get_or, Some, refl, sym, ◌∙◌, ap, arith}
use Rattle.std.specs.Prelude.{slice_get, option_and_then, slice_index}
use Rattle.std.proofs.lemmas.List.{get_or_past, length-map}
use Rattle.std.proofs.lemmas.Option.{slice_get_read}
use Rattle.table_shape.specs.declared.shape.BoundaryShape.{BoundaryShape}
use Rattle.table_shape.specs.declared.shape.FlushShape.{FlushShape}
use Rattle.table_shape.specs.declared.shape.TableShape.{TableShape}
use Rattle.table_shape.specs.Channels.{tuple_at}
use Rattle.table_shape.specs.Filling.{Filling, values_of}
use Rattle.table_shape.specs.Parts.{ShapeParts}
use Rattle.m3_judge.specs.declared.source.Source.{Source}
use Rattle.m3_judge.specs.declared.source.Source.TheVariants.{Row, Boundary}
use Rattle.m3_judge.specs.Sources.{row_tuple, values_in, tuple_of}

-- the tuple of a row of a flush that was found
pub row_tuple_is : (shape : ShapeParts) (filling : Filling) (source : Source) (t f row : ℕ) (tables : List TableShape) (table : TableShape) (flushes : List FlushShape) (flush : FlushShape) → source ≡ Row t f row → tables ≡ shape.tables → t < length tables
    → table ≡ get_or tables t table → flushes ≡ table.flushes → f < length flushes → flush ≡ get_or flushes f flush → tuple_of shape filling source ≡ tuple_at (values_of filling t) flush row
row_tuple_is shape filling source t f row tables table flushes flush is all a at own b here =
    let found : slice_get shape.tables t ≡ Some table = ap (λ (ts : List TableShape). slice_get ts t) (sym all) ∙ slice_get_read tables (length tables) t table refl a at in
    let in_table : slice_get table.flushes f ≡ Some flush = ap (λ (fs : List FlushShape). slice_get fs f) (sym own) ∙ slice_get_read flushes (length flushes) f flush refl b here in
    ap (tuple_of shape filling) is ∙ ap (λ o. row_tuple (values_of filling t) row (option_and_then (λ (table : TableShape). slice_get table.flushes f) o)) found ∙ ap (row_tuple (values_of filling t) row) in_table

-- that of a boundary
pub boundary_tuple_is : (shape : ShapeParts) (filling : Filling) (source : Source) (b : ℕ) (boundaries : List BoundaryShape) (boundary : BoundaryShape) → source ≡ Boundary b → boundaries ≡ shape.boundaries → b < length boundaries
    → boundary ≡ get_or boundaries b boundary → tuple_of shape filling source ≡ boundary.values
boundary_tuple_is shape filling source b boundaries boundary is all a at =
    let found : slice_get shape.boundaries b ≡ Some boundary = ap (λ (bs : List BoundaryShape). slice_get bs b) (sym all) ∙ slice_get_read boundaries (length boundaries) b boundary refl a at in
    ap (tuple_of shape filling) is ∙ ap values_in found

-- a tuple has no number past its end
pub row_ends : (values : ℕ → List ℕ) (row k : ℕ) (flush : FlushShape) → length flush.columns ≤ k → get_or (tuple_at values flush row) k 0 ≡ 0
row_ends values row k flush past = get_or_past (tuple_at values flush row) k 0 (let e = length-map flush.columns (λ c. slice_index (values c) row) in omega arith)
