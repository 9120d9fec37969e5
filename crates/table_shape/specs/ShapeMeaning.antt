-- What the shape of declarations is, part by part.
-- Source: docs/LANGUAGE.md, "What a file means"; FIPS 180-4 for SHA-256.
use Rattle.std.specs.Prelude.{◌≡◌, ◌↔◌, ℕ, ◌≤◌, List, [], ◌∷◌, ◌++◌, length, map, true, Option, Some, Ok}
use Rattle.std.specs.List.{IsDistinct}
use Rattle.std.specs.Str.{bytes_eq}
use Rattle.sha2.specs.Sha256.{sha256}
use Rattle.table_text.specs.Canonical.{canonical}
use Rattle.table_text.specs.declared.expr.Expr.{Expr}
use Rattle.table_text.specs.declared.decl.Side.{Side}
use Rattle.table_text.specs.declared.decl.VirtualForm.{VirtualForm}
use Rattle.table_text.specs.declared.decl.Item.{Item}
use Rattle.table_text.specs.declared.decl.Item.TheVariants as item
use Rattle.table_text.specs.declared.decl.Decl.{Decl}
use Rattle.table_text.specs.declared.decl.Decl.TheVariants as decl
use Rattle.table_shape.specs.Limits.{max_channels, max_boundaries, max_channel_width, max_tables, max_columns, max_constraints, max_flushes, max_degree}
use Rattle.table_shape.specs.declared.shape.ChannelShape.{ChannelShape}
use Rattle.table_shape.specs.declared.shape.BoundaryShape.{BoundaryShape}
use Rattle.table_shape.specs.declared.shape.FlushShape.{FlushShape}
use Rattle.table_shape.specs.declared.shape.ColumnKind.TheVariants.{Committed, Virtual}
use Rattle.table_shape.specs.declared.shape.ColumnShape.{ColumnShape}
use Rattle.table_shape.specs.declared.shape.ConstraintShape.{ConstraintShape}
use Rattle.table_shape.specs.declared.shape.ShapeForm.{ShapeForm}
use Rattle.table_shape.specs.declared.shape.TableShape.{TableShape}
use Rattle.table_shape.specs.Value.{degree}
use Rattle.table_shape.specs.Width.{width, has_width}
use Rattle.table_shape.specs.Fits.{IsFormOf, BoundaryFits, FlushFits}
use Rattle.table_shape.specs.Parts.{ShapeParts}
use Rattle.table_shape.specs.Shape.{all_some, column_names, table_names, number_of_channel, number_of_name, resolved, resolved_form, resolved_selector, shape_of}

-- a committed column of this name and type
pub record IsCommitted (name : List ℕ) (level log_values : ℕ) (column : ColumnShape) : Type 0 where
  pub name_is : column.name ≡ name
  pub level_is : column.level ≡ level
  pub log_values_is : column.log_values ≡ log_values
  pub kind_is : column.kind ≡ Committed

-- a virtual column of this name, whose form has the numbers of the columns before it in place of their names
pub record IsVirtual (before : List ColumnShape) (name : List ℕ) (declared : VirtualForm) (column : ColumnShape) : Type 0 where
  pub form : ShapeForm
  pub name_is : column.name ≡ name
  pub kind_is : column.kind ≡ Virtual form
  pub form_is : resolved_form before declared ≡ Some form
  pub fits : IsFormOf before column form

-- a constraint of this name, whose expression has the numbers of the columns before it in place of their names, and which has as many values per row as each of them
pub record IsResolved (before : List ColumnShape) (name : List ℕ) (expr : Expr) (z : ConstraintShape) : Type 0 where
  pub name_is : z.name ≡ name
  pub expr_is : resolved before expr ≡ Some z.expr
  pub log_values_is : z.log_values ≡ width before z.expr
  pub equal_width : has_width before z.log_values z.expr ≡ true
  pub degree_is : z.degree ≡ degree z.expr
  pub low : degree z.expr ≤ max_degree

-- a flush that has the numbers of the channels and columns before it in place of their names
pub record IsFlush (channels : List ChannelShape) (before : List ColumnShape) (side : Side) (channel : List ℕ) (names : List (List ℕ)) (selector : Option (List ℕ)) (flush : FlushShape) : Type 0 where
  pub side_is : flush.side ≡ side
  pub channel_is : number_of_channel channel channels ≡ Some flush.channel
  pub columns_are : all_some (map (λ name. number_of_name name before) names) ≡ Some flush.columns
  pub selector_is : resolved_selector before selector ≡ Some flush.selector
  pub fits : FlushFits channels before flush

-- a list with a first member, which together with the others is such
abbrev pub Begins : {X : Type 0} → List X → (X → List X → Type 0) → Type 0
Begins [] Is = ⊥
Begins (x ∷ xs) Is = Is x xs

-- what items declare
pub record TableParts : Type 0 where
  pub columns : List ColumnShape
  pub constraints : List ConstraintShape
  pub flushes : List FlushShape

-- the columns, constraints and flushes that items declare, in their order, each over the channels and columns that stand before it
abbrev pub AreDeclared : List ChannelShape → List ColumnShape → List Item → TableParts → Type 0
AreDeclared channels before [] parts = (parts.columns ≡ []) × ((parts.constraints ≡ []) × (parts.flushes ≡ []))
AreDeclared channels before (item.Column name level log_values ∷ items) parts =
    Begins parts.columns (λ column columns. IsCommitted name level log_values column × AreDeclared channels (before ++ column ∷ []) items (record parts { columns = columns }))
AreDeclared channels before (item.Virtual name form ∷ items) parts =
    Begins parts.columns (λ column columns. IsVirtual before name form column × AreDeclared channels (before ++ column ∷ []) items (record parts { columns = columns }))
AreDeclared channels before (item.Zero name expr ∷ items) parts =
    Begins parts.constraints (λ z constraints. IsResolved before name expr z × AreDeclared channels before items (record parts { constraints = constraints }))
AreDeclared channels before (item.Flush side channel names selector ∷ items) parts =
    Begins parts.flushes (λ flush flushes. IsFlush channels before side channel names selector flush × AreDeclared channels before items (record parts { flushes = flushes }))

-- the table of this name that items declare, after these channels
pub record IsTable (channels : List ChannelShape) (name : List ℕ) (items : List Item) (table : TableShape) : Type 0 where
  pub name_is : table.name ≡ name
  pub declared : AreDeclared channels [] items (record { columns = table.columns; constraints = table.constraints; flushes = table.flushes })
  pub columns_differ : IsDistinct bytes_eq (column_names table)
  pub constraints_differ : IsDistinct bytes_eq (map (λ z. z.name) table.constraints)
  pub few_columns : length table.columns ≤ max_columns
  pub few_constraints : length table.constraints ≤ max_constraints
  pub few_flushes : length table.flushes ≤ max_flushes

-- a channel of this name and width
pub record IsChannel (name : List ℕ) (width : ℕ) (channel : ChannelShape) : Type 0 where
  pub name_is : channel.name ≡ name
  pub width_is : channel.width ≡ width
  pub wide : 1 ≤ width
  pub few : width ≤ max_channel_width

-- a boundary that has the number of the channel before it in place of its name
pub record IsBoundary (channels : List ChannelShape) (side : Side) (channel values : List ℕ) (boundary : BoundaryShape) : Type 0 where
  pub side_is : boundary.side ≡ side
  pub channel_is : number_of_channel channel channels ≡ Some boundary.channel
  pub values_are : boundary.values ≡ values
  pub fits : BoundaryFits channels boundary

-- the channels, boundaries and tables that declarations declare, in their order, each after the channels that stand before it
abbrev pub AreShapes : List ChannelShape → List Decl → ShapeParts → Type 0
AreShapes before [] shape = (shape.channels ≡ []) × ((shape.boundaries ≡ []) × (shape.tables ≡ []))
AreShapes before (decl.Channel name width ∷ decls) shape =
    Begins shape.channels (λ channel channels. IsChannel name width channel × AreShapes (before ++ channel ∷ []) decls (record shape { channels = channels }))
AreShapes before (decl.Boundary side channel values ∷ decls) shape =
    Begins shape.boundaries (λ boundary boundaries. IsBoundary before side channel values boundary × AreShapes before decls (record shape { boundaries = boundaries }))
AreShapes before (decl.Table name items ∷ decls) shape =
    Begins shape.tables (λ table tables. IsTable before name items table × AreShapes before decls (record shape { tables = tables }))

-- their shape: names differ, no limit is exceeded, and the digest is that of the canonical text
pub record IsShape (decls : List Decl) (shape : ShapeParts) : Type 0 where
  pub each : AreShapes [] decls shape
  pub channels_differ : IsDistinct bytes_eq (map (λ c. c.name) shape.channels)
  pub tables_differ : IsDistinct bytes_eq (table_names shape.tables)
  pub few_channels : length shape.channels ≤ max_channels
  pub few_boundaries : length shape.boundaries ≤ max_boundaries
  pub few_tables : length shape.tables ≤ max_tables
  pub digest_is : shape.digest ≡ sha256 (canonical decls)

-- declarations have a shape exactly where it is this one
abbrev pub IsShapedWhereMeant : Type 0
IsShapedWhereMeant = (decls : List Decl) (shape : ShapeParts) → (shape_of decls ≡ Ok shape) ↔ IsShape decls shape
