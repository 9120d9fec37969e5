-- What each shape keeps: numbers in range, sizes that agree, names that differ, and all limits.
-- Source: docs/LANGUAGE.md, "What a file means"; docs/FORMATS.md, "Limits".
use Rattle.std.specs.Prelude.{◌≡◌, ℕ, ◌+◌, ◌^◌, ◌<◌, ◌≤◌, ◌==◌, true, List, map, length, take, slice_get, Option, Some, None}
use Rattle.std.specs.List.{AllByRecursion, IsDistinct}
use Rattle.std.specs.Option.{IsSomeAnd}
use Rattle.std.specs.Str.{bytes_eq}
use Rattle.table_text.specs.Limits.{max_level, max_log_values}
use Rattle.table_shape.specs.Limits.{max_channels, max_boundaries, max_channel_width, max_tables, max_columns, max_constraints, max_flushes, max_terms, max_degree}
use Rattle.table_shape.specs.declared.shape.ChannelShape.{ChannelShape}
use Rattle.table_shape.specs.declared.shape.BoundaryShape.{BoundaryShape}
use Rattle.table_shape.specs.declared.shape.FlushShape.{FlushShape}
use Rattle.table_shape.specs.declared.shape.ShapeTerm.{ShapeTerm}
use Rattle.table_shape.specs.declared.shape.ShapeForm.{ShapeForm}
use Rattle.table_shape.specs.declared.shape.ShapeForm.TheVariants as form
use Rattle.table_shape.specs.declared.shape.ColumnKind.{ColumnKind}
use Rattle.table_shape.specs.declared.shape.ColumnKind.TheVariants.{Committed, Virtual}
use Rattle.table_shape.specs.declared.shape.ColumnShape.{ColumnShape}
use Rattle.table_shape.specs.declared.shape.ConstraintShape.{ConstraintShape}
use Rattle.table_shape.specs.declared.shape.TableShape.{TableShape}
use Rattle.table_shape.specs.Value.{degree}
use Rattle.table_shape.specs.Width.{terms_width, has_width}
use Rattle.table_shape.specs.Forms.{linear_level}
use Rattle.table_shape.specs.Parts.{ShapeParts}

-- a column moved by an offset within blocks of 2 ^ block values
pub record IsShiftOf (source column : ColumnShape) (block offset : ℕ) : Type 0 where
  pub level_is : column.level ≡ source.level
  pub log_values_is : column.log_values ≡ source.log_values
  pub block_fits : block ≤ source.log_values
  pub offset_fits : offset < 2 ^ block

-- a column of each 2 ^ log values as one
pub record IsPackOf (source column : ColumnShape) (log : ℕ) : Type 0 where
  pub level_is : column.level ≡ source.level + log
  pub low : column.level ≤ max_level
  pub log_values_is : column.log_values + log ≡ source.log_values

-- a column of one of each 2 ^ log values
pub record IsProjectOf (source column : ColumnShape) (log index : ℕ) : Type 0 where
  pub level_is : column.level ≡ source.level
  pub log_values_is : column.log_values + log ≡ source.log_values
  pub index_fits : index < 2 ^ log

-- a column of sums of distinct columns, each with as many values per row
pub record IsLinearOf (before : List ColumnShape) (column : ColumnShape) (constant : ℕ) (terms : List ShapeTerm) : Type 0 where
  pub few : length terms ≤ max_terms
  pub distinct : IsDistinct ◌==◌ (map (λ (t : ShapeTerm). t.column) terms)
  pub each : (i : ℕ) (term : ShapeTerm) → slice_get terms i ≡ Some term → IsSomeAnd (slice_get before term.column) (λ (source : ColumnShape). source.log_values ≡ column.log_values)
  pub level_is : column.level ≡ linear_level before constant terms
  pub log_values_is : column.log_values ≡ terms_width before terms

-- a virtual column over the columns that stand before it
abbrev pub IsFormOf : List ColumnShape → ColumnShape → ShapeForm → Type 0
IsFormOf before column (form.Shl c block offset) = IsSomeAnd (slice_get before c) (λ (source : ColumnShape). IsShiftOf source column block offset)
IsFormOf before column (form.Shr c block offset) = IsSomeAnd (slice_get before c) (λ (source : ColumnShape). IsShiftOf source column block offset)
IsFormOf before column (form.Rol c block offset) = IsSomeAnd (slice_get before c) (λ (source : ColumnShape). IsShiftOf source column block offset)
IsFormOf before column (form.Pack c log) = IsSomeAnd (slice_get before c) (λ (source : ColumnShape). IsPackOf source column log)
IsFormOf before column (form.Project c log index) = IsSomeAnd (slice_get before c) (λ (source : ColumnShape). IsProjectOf source column log index)
IsFormOf before column (form.Linear constant terms) = IsLinearOf before column constant terms

abbrev pub HasKind : List ColumnShape → ColumnShape → ColumnKind → Type 0
HasKind before column Committed = Unit {0}
HasKind before column (Virtual f) = IsFormOf before column f

pub record ColumnFits (before : List ColumnShape) (column : ColumnShape) : Type 0 where
  pub level : column.level ≤ max_level
  pub log_values : column.log_values ≤ max_log_values
  pub kind : HasKind before column column.kind

-- a constraint over columns that are there, each with as many values per row
pub record ConstraintFits (columns : List ColumnShape) (constraint : ConstraintShape) : Type 0 where
  pub log_values : constraint.log_values ≤ max_log_values
  pub equal_width : has_width columns constraint.log_values constraint.expr ≡ true
  pub degree_is : constraint.degree ≡ degree constraint.expr
  pub low : constraint.degree ≤ max_degree

-- levels and the logarithms of numbers of values are within their limits
abbrev pub AreSized : List ColumnShape → Type 0
AreSized columns = (c : ℕ) (column : ColumnShape) → slice_get columns c ≡ Some column → (column.level ≤ max_level) × (column.log_values ≤ max_log_values)

pub record ChannelFits (channel : ChannelShape) : Type 0 where
  pub wide : 1 ≤ channel.width
  pub few : channel.width ≤ max_channel_width

-- a tuple of a channel that is there
pub record BoundaryFits (channels : List ChannelShape) (boundary : BoundaryShape) : Type 0 where
  pub width : IsSomeAnd (slice_get channels boundary.channel) (λ (channel : ChannelShape). length boundary.values ≡ channel.width)

-- a column of one value per row
abbrev pub HasOneValue : List ColumnShape → ℕ → Type 0
HasOneValue columns c = IsSomeAnd (slice_get columns c) (λ (column : ColumnShape). column.log_values ≡ 0)

-- a column of one bit per row, or none
abbrev pub IsSelector : List ColumnShape → Option ℕ → Type 0
IsSelector columns None = Unit {0}
IsSelector columns (Some s) = IsSomeAnd (slice_get columns s) (λ (column : ColumnShape). (column.level ≡ 0) × (column.log_values ≡ 0))

-- tuples of a channel that is there, over columns that are there
pub record FlushFits (channels : List ChannelShape) (columns : List ColumnShape) (flush : FlushShape) : Type 0 where
  pub width : IsSomeAnd (slice_get channels flush.channel) (λ (channel : ChannelShape). length flush.columns ≡ channel.width)
  pub one_value : AllByRecursion (HasOneValue columns) flush.columns
  pub selector : IsSelector columns flush.selector

pub record TableFits (table : TableShape) : Type 0 where
  pub few_columns : length table.columns ≤ max_columns
  pub few_constraints : length table.constraints ≤ max_constraints
  pub few_flushes : length table.flushes ≤ max_flushes
  pub columns : (c : ℕ) (column : ColumnShape) → slice_get table.columns c ≡ Some column → ColumnFits (take c table.columns) column
  pub constraints : (z : ℕ) (constraint : ConstraintShape) → slice_get table.constraints z ≡ Some constraint → ConstraintFits table.columns constraint
  pub columns_differ : IsDistinct bytes_eq (map (λ (c : ColumnShape). c.name) table.columns)
  pub constraints_differ : IsDistinct bytes_eq (map (λ (z : ConstraintShape). z.name) table.constraints)

-- each flush of a table goes into a channel that is there, or comes out of it
abbrev pub FlushesFit : List ChannelShape → TableShape → Type 0
FlushesFit channels table = (f : ℕ) (flush : FlushShape) → slice_get table.flushes f ≡ Some flush → FlushFits channels table.columns flush

pub record ShapeFits (shape : ShapeParts) : Type 0 where
  pub few_channels : length shape.channels ≤ max_channels
  pub few_boundaries : length shape.boundaries ≤ max_boundaries
  pub few_tables : length shape.tables ≤ max_tables
  pub channels : (c : ℕ) (channel : ChannelShape) → slice_get shape.channels c ≡ Some channel → ChannelFits channel
  pub boundaries : (b : ℕ) (boundary : BoundaryShape) → slice_get shape.boundaries b ≡ Some boundary → BoundaryFits shape.channels boundary
  pub tables : (t : ℕ) (table : TableShape) → slice_get shape.tables t ≡ Some table → TableFits table
  pub flushes : (t : ℕ) (table : TableShape) → slice_get shape.tables t ≡ Some table → FlushesFit shape.channels table
  pub channels_differ : IsDistinct bytes_eq (map (λ (c : ChannelShape). c.name) shape.channels)
  pub tables_differ : IsDistinct bytes_eq (map (λ (t : TableShape). t.name) shape.tables)
  pub digest : length shape.digest ≡ 32
