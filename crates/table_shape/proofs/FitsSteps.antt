-- What a shape keeps where something is added at an end.
use Rattle.std.proofs.Common.{◌≡◌, ℕ, zero, suc, ◌<◌, ◌≤◌, false, List, [], ◌∷◌, ◌++◌, length, map, take, Option, Some, None, refl, sym, ◌∙◌, ap, subst, inl, inr, ◌⊎◌, arith, length-append}
use Rattle.std.specs.List.{slice_get, list_any, AllByRecursion, IsDistinct}
use Rattle.std.specs.Option.{IsSomeAnd}
use Rattle.std.specs.Str.{bytes_eq}
use Rattle.std.proofs.lemmas.List.{map-append, take-append-le}
use Rattle.std.proofs.Math.Seq.{take-append_seam}
use Rattle.std.proofs.lemmas.Option.{slice_get_within}
use Rattle.table_text.specs.Limits.{max_level, max_log_values}
use Rattle.table_shape.specs.declared.shape.ChannelShape.{ChannelShape}
use Rattle.table_shape.specs.declared.shape.BoundaryShape.{BoundaryShape}
use Rattle.table_shape.specs.declared.shape.FlushShape.{FlushShape}
use Rattle.table_shape.specs.declared.shape.ColumnKind.TheVariants.{Committed}
use Rattle.table_shape.specs.declared.shape.ColumnShape.{ColumnShape}
use Rattle.table_shape.specs.declared.shape.ConstraintShape.{ConstraintShape}
use Rattle.table_shape.specs.declared.shape.TableShape.{TableShape}
use Rattle.table_shape.specs.Parts.{ShapeParts}
use Rattle.table_shape.specs.Fits.{AreSized, ColumnFits, ConstraintFits, ChannelFits, BoundaryFits, HasOneValue, IsSelector, FlushFits, TableFits, FlushesFit, ShapeFits}
use Rattle.list_laws.proofs.Names.{list_any-map}
use Rattle.table_shape.proofs.Differ.{differ_snoc, no_names_differ}
use Rattle.table_shape.proofs.WidthSteps.{slice_get_more, has_width_more}

-- an item of a list with one more at its end
pub slice_get_push : {X : Type 0} (xs : List X) (y : X) (i : ℕ) (x : X) → slice_get (xs ++ y ∷ []) i ≡ Some x → (slice_get xs i ≡ Some x) ⊎ ((i ≡ length xs) × (y ≡ x))
slice_get_push [] y zero x e = inr (refl, cc)
slice_get_push [] y (suc i) x e = absurd cc
slice_get_push (z ∷ xs) y zero x e = inl e
slice_get_push (z ∷ xs) y (suc i) x e = elim (slice_get_push xs y i x e) [ inl h ↦ inl h | inr h ↦ inr (ap suc h.0, h.1) ]

-- each member of a list fits, where one that fits is added at the end
pub each_pushed : {X : Type 0} (Fits : X → Type 0) (xs : List X) (new : X) → ((i : ℕ) (x : X) → slice_get xs i ≡ Some x → Fits x) → Fits new → (i : ℕ) (x : X) → slice_get (xs ++ new ∷ []) i ≡ Some x → Fits x
each_pushed {X} Fits xs new all one i x at = elim (slice_get_push xs new i x at) [ inl h ↦ all i x h | inr h ↦ subst Fits h.1 one ]

-- a new name in a list of things that have one
pub names_pushed : {X : Type 0} (name : X → List ℕ) (xs : List X) (new : X) → IsDistinct bytes_eq (map name xs) → list_any (λ x. bytes_eq (name new) (name x)) xs ≡ false → IsDistinct bytes_eq (map name (xs ++ new ∷ []))
names_pushed name xs new d h = subst (IsDistinct bytes_eq) (sym (map-append name xs (new ∷ []))) (differ_snoc (map name xs) (name new) d (sym (list_any-map (bytes_eq (name new)) name xs) ∙ h))

pub take_push : {X : Type 0} (xs : List X) (y : X) (i : ℕ) (x : X) → slice_get xs i ≡ Some x → take i (xs ++ y ∷ []) ≡ take i xs
take_push xs y i x e = take-append-le i xs (y ∷ []) (let h = slice_get_within xs i x e in omega arith)

pub are_sized : (table : TableShape) → TableFits table → AreSized table.columns
are_sized table fits c column at = ((fits.columns c column at).level, (fits.columns c column at).log_values)

-- ---- a table with nothing in it

abbrev pub empty_table : List ℕ → TableShape
empty_table name = record { name = name; columns = []; constraints = []; flushes = [] }

pub empty_fits : (name : List ℕ) → TableFits (empty_table name)
empty_fits name = record {
  few_columns = omega arith;
  few_constraints = omega arith;
  few_flushes = omega arith;
  columns = λ c column at. absurd cc;
  constraints = λ z constraint at. absurd cc;
  columns_differ = no_names_differ;
  constraints_differ = no_names_differ;
}

pub empty_is : (name n : List ℕ) (columns : List ColumnShape) (constraints : List ConstraintShape) (flushes : List FlushShape) → n ≡ name → columns ≡ [] → constraints ≡ [] → flushes ≡ []
    → TableFits (record { name = n; columns = columns; constraints = constraints; flushes = flushes })
empty_is name n columns constraints flushes p q r s =
    let e : empty_table name ≡ record { name = n; columns = columns; constraints = constraints; flushes = flushes } = λ i. record { name = sym p i; columns = sym q i; constraints = sym r i; flushes = sym s i } in
    subst TableFits e (empty_fits name)

-- ---- a column more

abbrev pub with_columns : TableShape → List ColumnShape → TableShape
with_columns table columns = record table { columns = table.columns ++ columns }

pub new_column : (name : List ℕ) (columns : List ColumnShape) → list_any (λ c. bytes_eq name c.name) columns ≡ false → list_any (bytes_eq name) (map (λ c. c.name) columns) ≡ false
new_column name columns h = sym (list_any-map (bytes_eq name) (λ c. c.name) columns) ∙ h

column_fits_pushed : (columns : List ColumnShape) (column : ColumnShape) (c : ℕ) (x : ColumnShape) → ((c : ℕ) (x : ColumnShape) → slice_get columns c ≡ Some x → ColumnFits (take c columns) x) → ColumnFits columns column
    → (slice_get columns c ≡ Some x) ⊎ ((c ≡ length columns) × (column ≡ x)) → ColumnFits (take c (columns ++ column ∷ [])) x
column_fits_pushed columns column c x all one (inl h) = subst (λ (before : List ColumnShape). ColumnFits before x) (sym (take_push columns column c x h)) (all c x h)
column_fits_pushed columns column c x all one (inr h) =
    let e : take c (columns ++ column ∷ []) ≡ columns = ap (λ i. take i (columns ++ column ∷ [])) h.0 ∙ take-append_seam columns (column ∷ []) in
    subst (λ (x : ColumnShape). ColumnFits (take c (columns ++ column ∷ [])) x) h.1 (subst (λ (before : List ColumnShape). ColumnFits before column) (sym e) one)

constraint_fits_pushed : (columns more : List ColumnShape) (z : ConstraintShape) → ConstraintFits columns z → ConstraintFits (columns ++ more) z
constraint_fits_pushed columns more z fits = record { log_values = fits.log_values; equal_width = has_width_more columns more z.log_values z.expr fits.equal_width; degree_is = fits.degree_is; low = fits.low }

pub column_pushed : (table : TableShape) (column : ColumnShape) → TableFits table → ColumnFits table.columns column → length table.columns < 256 → list_any (λ c. bytes_eq column.name c.name) table.columns ≡ false
    → TableFits (with_columns table (column ∷ []))
column_pushed table column fits one room new = record {
  few_columns = let e = length-append table.columns (column ∷ []) in omega arith;
  few_constraints = fits.few_constraints;
  few_flushes = fits.few_flushes;
  columns = λ c x at. column_fits_pushed table.columns column c x fits.columns one (slice_get_push table.columns column c x at);
  constraints = λ z constraint at. constraint_fits_pushed table.columns (column ∷ []) constraint (fits.constraints z constraint at);
  columns_differ = subst (IsDistinct bytes_eq) (sym (map-append (λ (c : ColumnShape). c.name) table.columns (column ∷ []))) (differ_snoc (map (λ c. c.name) table.columns) column.name fits.columns_differ (new_column column.name table.columns new));
  constraints_differ = fits.constraints_differ;
}

pub committed_fits : (before : List ColumnShape) (name : List ℕ) (level log_values : ℕ) → level ≤ max_level → log_values ≤ max_log_values → ColumnFits before (record { name = name; level = level; log_values = log_values; kind = Committed })
committed_fits before name level log_values l v = record { level = l; log_values = v; kind = tt }

-- ---- a constraint more

abbrev pub with_constraints : TableShape → List ConstraintShape → TableShape
with_constraints table constraints = record table { constraints = table.constraints ++ constraints }

pub new_constraint : (name : List ℕ) (constraints : List ConstraintShape) → list_any (λ z. bytes_eq name z.name) constraints ≡ false → list_any (bytes_eq name) (map (λ z. z.name) constraints) ≡ false
new_constraint name constraints h = sym (list_any-map (bytes_eq name) (λ z. z.name) constraints) ∙ h

pub constraint_pushed : (table : TableShape) (z : ConstraintShape) → TableFits table → ConstraintFits table.columns z → length table.constraints < 256 → list_any (λ y. bytes_eq z.name y.name) table.constraints ≡ false
    → TableFits (with_constraints table (z ∷ []))
constraint_pushed table z fits one room new = record {
  few_columns = fits.few_columns;
  few_constraints = let e = length-append table.constraints (z ∷ []) in omega arith;
  few_flushes = fits.few_flushes;
  columns = fits.columns;
  constraints = each_pushed (ConstraintFits table.columns) table.constraints z fits.constraints one;
  columns_differ = fits.columns_differ;
  constraints_differ = subst (IsDistinct bytes_eq) (sym (map-append (λ (z : ConstraintShape). z.name) table.constraints (z ∷ []))) (differ_snoc (map (λ z. z.name) table.constraints) z.name fits.constraints_differ (new_constraint z.name table.constraints new));
}

-- ---- a flush more

abbrev pub with_flushes : TableShape → List FlushShape → TableShape
with_flushes table flushes = record table { flushes = table.flushes ++ flushes }

pub flush_pushed : (table : TableShape) (flush : FlushShape) → TableFits table → length table.flushes < 64 → TableFits (with_flushes table (flush ∷ []))
flush_pushed table flush fits room = record {
  few_columns = fits.few_columns;
  few_constraints = fits.few_constraints;
  few_flushes = let e = length-append table.flushes (flush ∷ []) in omega arith;
  columns = fits.columns;
  constraints = fits.constraints;
  columns_differ = fits.columns_differ;
  constraints_differ = fits.constraints_differ;
}

-- ---- what stays where channels or columns are added

some_more : {X : Type 0} (P : X → Type 0) (xs more : List X) (i : ℕ) (o : Option X) → slice_get xs i ≡ o → IsSomeAnd o P → IsSomeAnd (slice_get (xs ++ more) i) P
some_more P xs more i None e h = absurd h
some_more {X} P xs more i (Some x) e h = subst (λ (o : Option X). IsSomeAnd o P) (sym (slice_get_more xs more i x e)) h

pub is_there_more : {X : Type 0} (P : X → Type 0) (xs more : List X) (i : ℕ) → IsSomeAnd (slice_get xs i) P → IsSomeAnd (slice_get (xs ++ more) i) P
is_there_more P xs more i h = some_more P xs more i (slice_get xs i) refl h

one_value_more : (columns more : List ColumnShape) (cs : List ℕ) → AllByRecursion (HasOneValue columns) cs → AllByRecursion (HasOneValue (columns ++ more)) cs
one_value_more columns more [] h = tt
one_value_more columns more (c ∷ cs) h = (is_there_more (λ (column : ColumnShape). column.log_values ≡ 0) columns more c h.0, one_value_more columns more cs h.1)

selector_more : (columns more : List ColumnShape) (o : Option ℕ) → IsSelector columns o → IsSelector (columns ++ more) o
selector_more columns more None h = tt
selector_more columns more (Some s) h = is_there_more (λ (column : ColumnShape). (column.level ≡ 0) × (column.log_values ≡ 0)) columns more s h

flush_fits_columns : (channels : List ChannelShape) (columns more : List ColumnShape) (flush : FlushShape) → FlushFits channels columns flush → FlushFits channels (columns ++ more) flush
flush_fits_columns channels columns more flush h = record { width = h.width; one_value = one_value_more columns more flush.columns h.one_value; selector = selector_more columns more flush.selector h.selector }

flush_fits_channels : (channels more : List ChannelShape) (columns : List ColumnShape) (flush : FlushShape) → FlushFits channels columns flush → FlushFits (channels ++ more) columns flush
flush_fits_channels channels more columns flush h = record {
  width = is_there_more (λ (channel : ChannelShape). length flush.columns ≡ channel.width) channels more flush.channel h.width;
  one_value = h.one_value;
  selector = h.selector;
}

-- the flushes of a table fit where columns or channels are added, or a flush that fits
pub flushes_fit_columns : (channels : List ChannelShape) (table : TableShape) (columns : List ColumnShape) → FlushesFit channels table → FlushesFit channels (with_columns table columns)
flushes_fit_columns channels table columns h f flush at = flush_fits_columns channels table.columns columns flush (h f flush at)

pub flushes_fit_pushed : (channels : List ChannelShape) (table : TableShape) (flush : FlushShape) → FlushesFit channels table → FlushFits channels table.columns flush → FlushesFit channels (with_flushes table (flush ∷ []))
flushes_fit_pushed channels table flush h one = each_pushed (FlushFits channels table.columns) table.flushes flush h one

-- ---- channels, boundaries and tables

abbrev pub begun : List ℕ → ShapeParts
begun digest = record { channels = []; boundaries = []; tables = []; digest = digest }

abbrev pub with_channels : ShapeParts → List ChannelShape → ShapeParts
with_channels shape channels = record shape { channels = shape.channels ++ channels }

abbrev pub with_boundaries : ShapeParts → List BoundaryShape → ShapeParts
with_boundaries shape boundaries = record shape { boundaries = shape.boundaries ++ boundaries }

abbrev pub with_tables : ShapeParts → List TableShape → ShapeParts
with_tables shape tables = record shape { tables = shape.tables ++ tables }

pub begun_fits : (digest : List ℕ) → length digest ≡ 32 → ShapeFits (begun digest)
begun_fits digest h = record {
  few_channels = omega arith;
  few_boundaries = omega arith;
  few_tables = omega arith;
  channels = λ c channel at. absurd cc;
  boundaries = λ b boundary at. absurd cc;
  tables = λ t table at. absurd cc;
  flushes = λ t table at. absurd cc;
  channels_differ = no_names_differ;
  tables_differ = no_names_differ;
  digest = h;
}

pub channel_pushed : (shape : ShapeParts) (channel : ChannelShape) → ShapeFits shape → ChannelFits channel → length shape.channels < 64 → list_any (λ c. bytes_eq channel.name c.name) shape.channels ≡ false → ShapeFits (with_channels shape (channel ∷ []))
channel_pushed shape channel fits one room new = record {
  few_channels = let e = length-append shape.channels (channel ∷ []) in omega arith;
  few_boundaries = fits.few_boundaries;
  few_tables = fits.few_tables;
  channels = each_pushed ChannelFits shape.channels channel fits.channels one;
  boundaries = λ b boundary at. record { width = is_there_more (λ (c : ChannelShape). length boundary.values ≡ c.width) shape.channels (channel ∷ []) boundary.channel (fits.boundaries b boundary at).width };
  tables = fits.tables;
  flushes = λ t table at f flush is. flush_fits_channels shape.channels (channel ∷ []) table.columns flush (fits.flushes t table at f flush is);
  channels_differ = names_pushed (λ (c : ChannelShape). c.name) shape.channels channel fits.channels_differ new;
  tables_differ = fits.tables_differ;
  digest = fits.digest;
}

pub boundary_pushed : (shape : ShapeParts) (boundary : BoundaryShape) → ShapeFits shape → BoundaryFits shape.channels boundary → length shape.boundaries < 4096 → ShapeFits (with_boundaries shape (boundary ∷ []))
boundary_pushed shape boundary fits one room = record {
  few_channels = fits.few_channels;
  few_boundaries = let e = length-append shape.boundaries (boundary ∷ []) in omega arith;
  few_tables = fits.few_tables;
  channels = fits.channels;
  boundaries = each_pushed (BoundaryFits shape.channels) shape.boundaries boundary fits.boundaries one;
  tables = fits.tables;
  flushes = fits.flushes;
  channels_differ = fits.channels_differ;
  tables_differ = fits.tables_differ;
  digest = fits.digest;
}

pub table_pushed : (shape : ShapeParts) (table : TableShape) → ShapeFits shape → TableFits table → FlushesFit shape.channels table → length shape.tables < 64 → list_any (λ t. bytes_eq table.name t.name) shape.tables ≡ false
    → ShapeFits (with_tables shape (table ∷ []))
table_pushed shape table fits one flushes room new = record {
  few_channels = fits.few_channels;
  few_boundaries = fits.few_boundaries;
  few_tables = let e = length-append shape.tables (table ∷ []) in omega arith;
  channels = fits.channels;
  boundaries = fits.boundaries;
  tables = each_pushed TableFits shape.tables table fits.tables one;
  flushes = each_pushed (FlushesFit shape.channels) shape.tables table fits.flushes flushes;
  channels_differ = fits.channels_differ;
  tables_differ = names_pushed (λ (t : TableShape). t.name) shape.tables table fits.tables_differ new;
  digest = fits.digest;
}
