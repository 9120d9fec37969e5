-- The shape of declarations: their names resolved, and the first fault of those that have none.
-- Source: docs/LANGUAGE.md, "What a file means"; docs/FORMATS.md, "Limits"; FIPS 180-4 for SHA-256.
use Rattle.std.specs.Prelude.{ℕ, ◌+◌, ◌-◌, ◌^◌, ◌==◌, ◌||◌, ◌&&◌, Bool, true, false, not, nat_lt, nat_le, if◌then◌else◌, List, [], ◌∷◌, ◌++◌, length, map, Option, Some, None, option_map, option_and_then, Result, Ok, Err}
use Rattle.std.specs.List.{list_any, list_all, position_from}
use Rattle.std.specs.Str.{bytes_eq}
use Rattle.table_text.specs.declared.expr.Expr.{Expr}
use Rattle.table_text.specs.declared.expr.Expr.TheOpen.{Expr-F}
use Rattle.table_text.specs.declared.expr.Expr.TheFolds.{fold-Expr}
use Rattle.table_text.specs.declared.decl.Side.{Side}
use Rattle.table_text.specs.declared.decl.Term.{Term}
use Rattle.table_text.specs.declared.decl.VirtualForm.{VirtualForm}
use Rattle.table_text.specs.declared.decl.VirtualForm.TheVariants as virtual
use Rattle.table_text.specs.declared.decl.Item.{Item}
use Rattle.table_text.specs.declared.decl.Item.TheVariants as item
use Rattle.table_text.specs.declared.decl.Decl.{Decl}
use Rattle.table_text.specs.declared.decl.Decl.TheVariants as decl
use Rattle.table_text.specs.Limits.{max_level}
use Rattle.table_text.specs.Canonical.{canonical}
use Rattle.sha2.specs.Sha256.{sha256}
use Rattle.table_shape.specs.Limits.{max_channels, max_boundaries, max_channel_width, max_tables, max_columns, max_constraints, max_flushes, max_terms, max_degree}
use Rattle.table_shape.specs.declared.shape.ChannelShape.{ChannelShape}
use Rattle.table_shape.specs.declared.shape.BoundaryShape.{BoundaryShape}
use Rattle.table_shape.specs.declared.shape.FlushShape.{FlushShape}
use Rattle.table_shape.specs.declared.shape.ShapeTerm.{ShapeTerm}
use Rattle.table_shape.specs.declared.shape.ShapeForm.{ShapeForm}
use Rattle.table_shape.specs.declared.shape.ShapeForm.TheVariants as form
use Rattle.table_shape.specs.declared.shape.ColumnKind.TheVariants.{Committed, Virtual}
use Rattle.table_shape.specs.declared.shape.ColumnShape.{ColumnShape}
use Rattle.table_shape.specs.declared.shape.ShapeExpr.{ShapeExpr}
use Rattle.table_shape.specs.declared.shape.ShapeExpr.TheVariants as shaped
use Rattle.table_shape.specs.declared.shape.TableShape.{TableShape}
use Rattle.table_shape.specs.declared.fault.ShapeFault.{ShapeFault}
use Rattle.table_shape.specs.declared.fault.ShapeKind.{ShapeKind}
use Rattle.table_shape.specs.declared.fault.ShapeKind.TheVariants.{UnknownName, DoubleName, LevelTooHigh, UnequalWidth, BlockTooLong, OffsetOutOfRange, RepeatedTerm, DegreeTooHigh, TupleWidth, NotOneValue, SelectorNotBit, TooMany}
use Rattle.list_laws.specs.AndThen.{◌>>=◌}
use Rattle.table_shape.specs.Value.{degree}
use Rattle.table_shape.specs.Width.{width_at, log_values_at, terms_width, width, has_width}
use Rattle.table_shape.specs.Forms.{level_at, linear_level}
use Rattle.table_shape.specs.Parts.{ShapeParts}

-- the number of the column with this name
abbrev pub number_of_name : List ℕ → List ColumnShape → Option ℕ
number_of_name name columns = position_from (λ c. bytes_eq name c.name) 0 columns

-- all values, where each is there
abbrev pub all_some : {X : Type 0} → List (Option X) → Option (List X)
all_some [] = Some []
all_some (None ∷ os) = None
all_some (Some x ∷ os) = option_map (λ xs. x ∷ xs) (all_some os)

abbrev pub resolved_step : List ColumnShape → Expr-F (Option ShapeExpr) → Option ShapeExpr
resolved_step columns (Expr-F.Number n) = Some (shaped.Number n)
resolved_step columns (Expr-F.Column name) = option_map shaped.Column (number_of_name name columns)
resolved_step columns (Expr-F.Sum parts) = option_map shaped.Sum (all_some parts)
resolved_step columns (Expr-F.Product parts) = option_map shaped.Product (all_some parts)

-- an expression with numbers of columns in place of names, where each name is known
abbrev pub resolved : List ColumnShape → Expr → Option ShapeExpr
resolved columns = fold-Expr (Option ShapeExpr) (resolved_step columns)

abbrev pub fault : {X : Type 0} → ℕ → ShapeKind → Result X ShapeFault
fault item kind = Err (record { item = item; kind = kind })

abbrev pub column_names : TableShape → List (List ℕ)
column_names table = map (λ c. c.name) table.columns

-- the table with a column more; k is the declaration's number
abbrev pub with_column : ℕ → List ℕ → ℕ → ℕ → TableShape → Result TableShape ShapeFault
with_column k name level log_values table =
    if nat_le max_columns (length table.columns) then fault k TooMany
    else (if list_any (λ c. bytes_eq name c.name) table.columns then fault k DoubleName
    else Ok (record table { columns = table.columns ++ record { name = name; level = level; log_values = log_values; kind = Committed } ∷ [] }))

-- ---- virtual columns

abbrev pub resolved_term : List ColumnShape → Term → Option ShapeTerm
resolved_term columns t = option_map (λ c. record { coefficient = t.coefficient; column = c }) (number_of_name t.column columns)

-- a form with numbers of columns in place of names, where each name is known
abbrev pub resolved_form : List ColumnShape → VirtualForm → Option ShapeForm
resolved_form columns (virtual.Shl name b o) = option_map (λ c. form.Shl c b o) (number_of_name name columns)
resolved_form columns (virtual.Shr name b o) = option_map (λ c. form.Shr c b o) (number_of_name name columns)
resolved_form columns (virtual.Rol name b o) = option_map (λ c. form.Rol c b o) (number_of_name name columns)
resolved_form columns (virtual.Pack name k) = option_map (λ c. form.Pack c k) (number_of_name name columns)
resolved_form columns (virtual.Project name k j) = option_map (λ c. form.Project c k j) (number_of_name name columns)
resolved_form columns (virtual.Linear k0 terms) = option_map (λ ts. form.Linear k0 ts) (all_some (map (resolved_term columns) terms))

abbrev pub terms_of : VirtualForm → List Term
terms_of (virtual.Shl name b o) = []
terms_of (virtual.Shr name b o) = []
terms_of (virtual.Rol name b o) = []
terms_of (virtual.Pack name k) = []
terms_of (virtual.Project name k j) = []
terms_of (virtual.Linear k0 terms) = terms

-- whether a column stands in two terms
abbrev pub repeats : List ShapeTerm → Bool
repeats [] = false
repeats (t ∷ terms) = list_any (λ (u : ShapeTerm). t.column == u.column) terms || repeats terms

-- the kind of the first check that holds
abbrev pub first_fault : List (Bool × ShapeKind) → Option ShapeKind
first_fault [] = None
first_fault (check ∷ checks) = if check.0 then Some check.1 else first_fault checks

-- blocks of 2 ^ b values are no longer than a row, and o is a place in them
abbrev pub block_checks : ℕ → ℕ → ℕ → List (Bool × ShapeKind)
block_checks v b o = (nat_lt v b, BlockTooLong) ∷ (not (nat_lt o (2 ^ b)), OffsetOutOfRange) ∷ []

-- what may be wrong with a form over known columns, in order
abbrev pub form_checks : List ColumnShape → ShapeForm → List (Bool × ShapeKind)
form_checks columns (form.Shl c b o) = block_checks (log_values_at columns c) b o
form_checks columns (form.Shr c b o) = block_checks (log_values_at columns c) b o
form_checks columns (form.Rol c b o) = block_checks (log_values_at columns c) b o
form_checks columns (form.Pack c k) = (nat_lt (log_values_at columns c) k, BlockTooLong) ∷ (nat_lt max_level (level_at columns c + k), LevelTooHigh) ∷ []
form_checks columns (form.Project c k j) = block_checks (log_values_at columns c) k j
form_checks columns (form.Linear k0 terms) = (repeats terms, RepeatedTerm) ∷ (not (list_all (λ (t : ShapeTerm). log_values_at columns t.column == terms_width columns terms) terms), UnequalWidth) ∷ []

-- the level of a form's values
abbrev pub form_level : List ColumnShape → ShapeForm → ℕ
form_level columns (form.Shl c b o) = level_at columns c
form_level columns (form.Shr c b o) = level_at columns c
form_level columns (form.Rol c b o) = level_at columns c
form_level columns (form.Pack c k) = level_at columns c + k
form_level columns (form.Project c k j) = level_at columns c
form_level columns (form.Linear k0 terms) = linear_level columns k0 terms

-- the logarithm of how many there are per row
abbrev pub form_log_values : List ColumnShape → ShapeForm → ℕ
form_log_values columns (form.Shl c b o) = log_values_at columns c
form_log_values columns (form.Shr c b o) = log_values_at columns c
form_log_values columns (form.Rol c b o) = log_values_at columns c
form_log_values columns (form.Pack c k) = log_values_at columns c - k
form_log_values columns (form.Project c k j) = log_values_at columns c - k
form_log_values columns (form.Linear k0 terms) = terms_width columns terms

-- the table with a column of this form, once its checks are through
abbrev pub with_form : ℕ → List ℕ → TableShape → ShapeForm → Option ShapeKind → Result TableShape ShapeFault
with_form k name table f (Some kind) = fault k kind
with_form k name table f None = Ok (record table { columns = table.columns ++ record { name = name; level = form_level table.columns f; log_values = form_log_values table.columns f; kind = Virtual f } ∷ [] })

-- a form stands where each column's name is known
abbrev pub with_resolved_form : ℕ → List ℕ → TableShape → Option ShapeForm → Result TableShape ShapeFault
with_resolved_form k name table None = fault k UnknownName
with_resolved_form k name table (Some f) = with_form k name table f (first_fault (form_checks table.columns f))

-- the table with a virtual column more
abbrev pub with_virtual : ℕ → List ℕ → VirtualForm → TableShape → Result TableShape ShapeFault
with_virtual k name f table =
    if nat_le max_columns (length table.columns) || nat_lt max_terms (length (terms_of f)) then fault k TooMany
    else (if list_any (λ c. bytes_eq name c.name) table.columns then fault k DoubleName
    else with_resolved_form k name table (resolved_form table.columns f))

-- ---- constraints

-- a constraint by its expression, which stands where each column's name is known
abbrev pub with_expr : ℕ → List ℕ → TableShape → Option ShapeExpr → Result TableShape ShapeFault
with_expr k name table None = fault k UnknownName
with_expr k name table (Some expr) =
    if not (has_width table.columns (width table.columns expr) expr) then fault k UnequalWidth
    else (if nat_lt max_degree (degree expr) then fault k DegreeTooHigh
    else Ok (record table { constraints = table.constraints ++ record { name = name; log_values = width table.columns expr; degree = degree expr; expr = expr } ∷ [] }))

-- the table with a constraint more
abbrev pub with_constraint : ℕ → List ℕ → Expr → TableShape → Result TableShape ShapeFault
with_constraint k name expr table =
    if nat_le max_constraints (length table.constraints) then fault k TooMany
    else (if list_any (λ z. bytes_eq name z.name) table.constraints then fault k DoubleName
    else with_expr k name table (resolved table.columns expr))

-- ---- channels and boundaries

-- the number of the channel with this name
abbrev pub number_of_channel : List ℕ → List ChannelShape → Option ℕ
number_of_channel name channels = position_from (λ c. bytes_eq name c.name) 0 channels

-- the channels with one more
abbrev pub with_channel : ℕ → List ℕ → ℕ → List ChannelShape → Result (List ChannelShape) ShapeFault
with_channel k name width channels =
    if nat_le max_channels (length channels) then fault k TooMany
    else (if list_any (λ c. bytes_eq name c.name) channels then fault k DoubleName
    else (if width == 0 || nat_lt max_channel_width width then fault k TupleWidth
    else Ok (channels ++ record { name = name; width = width } ∷ [])))

-- a boundary by its channel, which stands where its name is known
abbrev pub with_tuple : ℕ → Side → List ℕ → List ChannelShape → List BoundaryShape → Option ℕ → Result (List BoundaryShape) ShapeFault
with_tuple k side values channels boundaries None = fault k UnknownName
with_tuple k side values channels boundaries (Some c) =
    if not (length values == width_at channels c) then fault k TupleWidth
    else Ok (boundaries ++ record { side = side; channel = c; values = values } ∷ [])

-- the boundaries with one more, after these channels
abbrev pub with_boundary : ℕ → Side → List ℕ → List ℕ → List ChannelShape → List BoundaryShape → Result (List BoundaryShape) ShapeFault
with_boundary k side channel values channels boundaries =
    if nat_le max_boundaries (length boundaries) then fault k TooMany
    else with_tuple k side values channels boundaries (number_of_channel channel channels)

-- ---- flushes

-- a selector's number, where its name is known or there is no selector
abbrev pub resolved_selector : List ColumnShape → Option (List ℕ) → Option (Option ℕ)
resolved_selector columns None = Some None
resolved_selector columns (Some name) = option_map Some (number_of_name name columns)

-- a flush with numbers in place of names, where each name is known
abbrev pub resolved_flush : List ChannelShape → List ColumnShape → Side → List ℕ → List (List ℕ) → Option (List ℕ) → Option FlushShape
resolved_flush channels columns side channel names selector =
    option_and_then (λ c. option_and_then (λ cs. option_map (λ s. record { side = side; channel = c; columns = cs; selector = s }) (resolved_selector columns selector))
    (all_some (map (λ name. number_of_name name columns) names))) (number_of_channel channel channels)

-- a selector is a column of one bit per row
abbrev pub is_selector : List ColumnShape → Option ℕ → Bool
is_selector columns None = true
is_selector columns (Some s) = level_at columns s == 0 && log_values_at columns s == 0

-- what may be wrong with a flush over known columns, in order
abbrev pub flush_checks : List ChannelShape → List ColumnShape → FlushShape → List (Bool × ShapeKind)
flush_checks channels columns flush =
    (not (length flush.columns == width_at channels flush.channel), TupleWidth) ∷ (not (list_all (λ c. log_values_at columns c == 0) flush.columns), NotOneValue)
    ∷ (not (is_selector columns flush.selector), SelectorNotBit) ∷ []

-- the table with this flush, once its checks are through
abbrev pub with_checked_flush : ℕ → TableShape → FlushShape → Option ShapeKind → Result TableShape ShapeFault
with_checked_flush k table flush (Some kind) = fault k kind
with_checked_flush k table flush None = Ok (record table { flushes = table.flushes ++ flush ∷ [] })

-- a flush stands where each name is known
abbrev pub with_resolved_flush : ℕ → List ChannelShape → TableShape → Option FlushShape → Result TableShape ShapeFault
with_resolved_flush k channels table None = fault k UnknownName
with_resolved_flush k channels table (Some flush) = with_checked_flush k table flush (first_fault (flush_checks channels table.columns flush))

-- the table with a flush more
abbrev pub with_flush : ℕ → List ChannelShape → Side → List ℕ → List (List ℕ) → Option (List ℕ) → TableShape → Result TableShape ShapeFault
with_flush k channels side channel names selector table =
    if nat_le max_flushes (length table.flushes) then fault k TooMany
    else with_resolved_flush k channels table (resolved_flush channels table.columns side channel names selector)

-- ---- items and declarations

-- the table with what an item declares, after these channels
abbrev pub with_item : ℕ → List ChannelShape → Item → TableShape → Result TableShape ShapeFault
with_item k channels (item.Column name level log_values) table = with_column k name level log_values table
with_item k channels (item.Zero name expr) table = with_constraint k name expr table
with_item k channels (item.Virtual name f) table = with_virtual k name f table
with_item k channels (item.Flush side channel names selector) table = with_flush k channels side channel names selector table

-- the table with these items, numbered from k on
abbrev pub with_items : ℕ → List ChannelShape → List Item → TableShape → Result TableShape ShapeFault
with_items k channels [] table = Ok table
with_items k channels (i ∷ items) table = with_item k channels i table >>= with_items (k + 1) channels items

abbrev pub table_names : List TableShape → List (List ℕ)
table_names tables = map (λ t. t.name) tables

-- a table of this name with nothing in it, after these tables
abbrev pub begun_table : ℕ → List ℕ → List TableShape → Result TableShape ShapeFault
begun_table k name tables =
    if nat_le max_tables (length tables) then fault k TooMany
    else (if list_any (λ t. bytes_eq name t.name) tables then fault k DoubleName else Ok (record { name = name; columns = []; constraints = []; flushes = [] }))

-- the shape with what declarations declare, numbered from k on
abbrev pub with_decls : ℕ → List Decl → ShapeParts → Result ShapeParts ShapeFault
with_decls k [] shape = Ok shape
with_decls k (decl.Channel name width ∷ decls) shape = with_channel k name width shape.channels >>= (λ channels. with_decls (k + 1) decls (record shape { channels = channels }))
with_decls k (decl.Boundary side channel values ∷ decls) shape =
    with_boundary k side channel values shape.channels shape.boundaries >>= (λ boundaries. with_decls (k + 1) decls (record shape { boundaries = boundaries }))
with_decls k (decl.Table name items ∷ decls) shape =
    begun_table k name shape.tables >>= with_items (k + 1) shape.channels items >>= (λ table. with_decls (k + 1 + length items) decls (record shape { tables = shape.tables ++ table ∷ [] }))

-- a shape with nothing in it but the digest of its text
abbrev pub begun_shape : List Decl → ShapeParts
begun_shape decls = record { channels = []; boundaries = []; tables = []; digest = sha256 (canonical decls) }

-- the shape of declarations, or the first fault, the checks of each declaration in their order
abbrev pub shape_of : List Decl → Result ShapeParts ShapeFault
shape_of decls = with_decls 0 decls (begun_shape decls)
