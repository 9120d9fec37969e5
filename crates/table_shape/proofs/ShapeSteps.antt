-- Items, channels, boundaries and tables added one after the other.
use Rattle.std.proofs.Common.{◌≡◌, ℕ, suc, ◌<◌, ◌≤◌, ◌+◌, List, [], ◌∷◌, ◌++◌, length, drop, get_or, Result, Ok, refl, sym, ◌∙◌, ap, subst, arith, drop-cons, add-one, false}
use Rattle.std.specs.List.{list_any}
use Rattle.std.specs.Str.{bytes_eq}
use Rattle.sha2.specs.Sha256.{sha256}
use Rattle.sha2.proofs.Facts256.{length-sha256}
use Rattle.table_text.specs.Canonical.{canonical}
use Rattle.table_text.specs.Limits.{max_declarations}
use Rattle.table_text.specs.Valid.{ItemLevelsFit, LevelsFit, declarations}
use Rattle.table_text.specs.declared.decl.Side.{Side}
use Rattle.table_text.specs.declared.decl.Item.{Item}
use Rattle.table_text.specs.declared.decl.Item.TheVariants as item
use Rattle.table_text.specs.declared.decl.Decl.{Decl}
use Rattle.table_text.specs.declared.decl.Decl.TheVariants.{Channel, Boundary, Table}
use Rattle.table_shape.specs.declared.fault.ShapeFault.{ShapeFault}
use Rattle.table_shape.specs.declared.fault.ShapeStop.{ShapeStop}
use Rattle.table_shape.specs.declared.shape.ChannelShape.{ChannelShape}
use Rattle.table_shape.specs.declared.shape.BoundaryShape.{BoundaryShape}
use Rattle.table_shape.specs.declared.shape.TableShape.{TableShape}
use Rattle.table_shape.specs.Parts.{ShapeParts}
use Rattle.table_shape.specs.Fits.{TableFits, FlushesFit, ShapeFits}
use Rattle.table_shape.specs.Shape.{with_channel, with_boundary, begun_table, with_item, with_items, with_decls, shape_of}
use Rattle.table_shape.specs.ShapeGives.{Refuses}
use Rattle.list_laws.specs.AndThen.{◌>>=◌}
use Rattle.list_laws.proofs.Steps.{bind_is}
use Rattle.table_shape.proofs.FitsSteps.{begun, begun_fits, with_tables, channel_pushed, boundary_pushed, table_pushed}
use Rattle.table_shape.proofs.VirtualSteps.{Refuses-bind}
use Rattle.table_shape.proofs.Passed.{channel_passed, boundary_passed, table_passed, items_keep}

-- ---- an item more

later_levels : (i : Item) (items : List Item) → ItemLevelsFit (i ∷ items) → ItemLevelsFit items
later_levels (item.Column name level log_values) items h = h.2
later_levels (item.Virtual name f) items h = h
later_levels (item.Zero name expr) items h = h
later_levels (item.Flush side channel columns selector) items h = h

-- what is left after the item at a place
pub item_added : (i k : ℕ) (items : List Item) (d here : Item) (channels : List ChannelShape) (old new : TableShape) (all : Result TableShape ShapeFault) → i < length items → get_or items i d ≡ here → ItemLevelsFit (drop i items)
    → with_items k channels (drop i items) old ≡ all → with_item k channels here old ≡ Ok new → ItemLevelsFit (drop (i + 1) items) × (with_items (k + 1) channels (drop (i + 1) items) new ≡ all)
item_added i k items d here channels old new all below at levels rest h =
    let e : drop i items ≡ here ∷ drop (i + 1) items = drop-cons items i d below ∙ ap (λ (x : Item). x ∷ drop (suc i) items) at ∙ rw add-one refl in
    let next = bind_is (with_item k channels here old) new (with_items (k + 1) channels (drop (i + 1) items)) h in
    (later_levels here (drop (i + 1) items) (subst ItemLevelsFit e levels), sym next ∙ sym (ap (λ (left : List Item). with_items k channels left old) e) ∙ rest)

-- ---- the shape

-- what is kept while a shape grows: k is the number of the next declaration, of those that are left
pub record Adds (k : ℕ) (decls : List Decl) (shape : ShapeParts) (all : Result ShapeParts ShapeFault) : Type 0 where
  pub levels : LevelsFit decls
  pub few : k + declarations decls ≤ max_declarations
  pub fits : ShapeFits shape
  pub rest : with_decls k decls shape ≡ all

pub adds_none : (decls : List Decl) (digest : List ℕ) → LevelsFit decls → declarations decls ≤ max_declarations → digest ≡ sha256 (canonical decls) → Adds 0 decls (begun digest) (shape_of decls)
adds_none decls digest levels few e =
    subst (λ (d : List ℕ). Adds 0 decls (begun d) (shape_of decls)) (sym e)
    (record { levels = levels; few = omega arith; fits = begun_fits (sha256 (canonical decls)) (length-sha256 (canonical decls)); rest = refl })

-- ---- a channel more

channel_fits : (k : ℕ) (name : List ℕ) (width : ℕ) (shape : ShapeParts) (channels : List ChannelShape) → ShapeFits shape → with_channel k name width shape.channels ≡ Ok channels → ShapeFits (record shape { channels = channels })
channel_fits k name width shape channels fits h =
    let p = channel_passed k name width shape.channels channels h in
    subst (λ (cs : List ChannelShape). ShapeFits (record shape { channels = cs })) p.is
    (channel_pushed shape (record { name = name; width = width }) fits (record { wide = p.wide; few = p.few }) p.room p.free)

pub adds_channel : (k n : ℕ) (name : List ℕ) (width : ℕ) (decls : List Decl) (shape : ShapeParts) (channels : List ChannelShape) (all : Result ShapeParts ShapeFault)
    → Adds k (Channel name width ∷ decls) shape all → with_channel k name width shape.channels ≡ Ok channels → n ≡ k + 1 → Adds n decls (record shape { channels = channels }) all
adds_channel k n name width decls shape channels all adds h e =
    let few = adds.few in
    let next = bind_is (with_channel k name width shape.channels) channels (λ channels. with_decls (k + 1) decls (record shape { channels = channels })) h in
    record {
      levels = adds.levels;
      few = omega (arith, few);
      fits = channel_fits k name width shape channels adds.fits h;
      rest = ap (λ (m : ℕ). with_decls m decls (record shape { channels = channels })) e ∙ sym next ∙ adds.rest;
    }

-- ---- a boundary more

boundary_fits : (k : ℕ) (side : Side) (channel values : List ℕ) (shape : ShapeParts) (boundaries : List BoundaryShape) → ShapeFits shape → with_boundary k side channel values shape.channels shape.boundaries ≡ Ok boundaries
    → ShapeFits (record shape { boundaries = boundaries })
boundary_fits k side channel values shape boundaries fits h =
    let p = boundary_passed k side channel values shape.channels shape.boundaries boundaries h in
    subst (λ (bs : List BoundaryShape). ShapeFits (record shape { boundaries = bs })) p.is
    (boundary_pushed shape (record { side = side; channel = p.number; values = values }) fits p.fits p.room)

pub adds_boundary : (k n : ℕ) (side : Side) (channel values : List ℕ) (decls : List Decl) (shape : ShapeParts) (boundaries : List BoundaryShape) (all : Result ShapeParts ShapeFault)
    → Adds k (Boundary side channel values ∷ decls) shape all → with_boundary k side channel values shape.channels shape.boundaries ≡ Ok boundaries → n ≡ k + 1 → Adds n decls (record shape { boundaries = boundaries }) all
adds_boundary k n side channel values decls shape boundaries all adds h e =
    let few = adds.few in
    let next = bind_is (with_boundary k side channel values shape.channels shape.boundaries) boundaries (λ boundaries. with_decls (k + 1) decls (record shape { boundaries = boundaries })) h in
    record {
      levels = adds.levels;
      few = omega (arith, few);
      fits = boundary_fits k side channel values shape boundaries adds.fits h;
      rest = ap (λ (m : ℕ). with_decls m decls (record shape { boundaries = boundaries })) e ∙ sym next ∙ adds.rest;
    }

-- ---- a table more

-- a table of a new name is added to those before
table_fits : (k : ℕ) (name : List ℕ) (items : List Item) (shape : ShapeParts) (begun table : TableShape) → begun_table k name shape.tables ≡ Ok begun → with_items (k + 1) shape.channels items begun ≡ Ok table
    → ShapeFits shape → TableFits table → ShapeFits (with_tables shape (table ∷ []))
table_fits k name items shape begun table h i fits one =
    let p = table_passed k name shape.tables begun h in
    let keeps = items_keep (k + 1) shape.channels items begun table i in
    let named : name ≡ table.name = ap (λ (t : TableShape). t.name) p.is ∙ sym keeps.name_is in
    table_pushed shape table fits one (keeps.flushes_fit (subst (λ (t : TableShape). FlushesFit shape.channels t) p.is (λ f flush at. absurd cc))) p.room
    (subst (λ (n : List ℕ). list_any (λ t. bytes_eq n t.name) shape.tables ≡ false) named p.new)

-- one table more of declarations
with_decls-table : (k n : ℕ) (name : List ℕ) (items : List Item) (decls : List Decl) (shape : ShapeParts) (begun table : TableShape)
    → begun_table k name shape.tables ≡ Ok begun → with_items (k + 1) shape.channels items begun ≡ Ok table → n ≡ k + 1 + length items
    → with_decls n decls (with_tables shape (table ∷ [])) ≡ with_decls k (Table name items ∷ decls) shape
with_decls-table k n name items decls shape begun table h i e = rw (h, i, e) refl

pub adds_table : (k n : ℕ) (name : List ℕ) (items : List Item) (decls : List Decl) (shape : ShapeParts) (tables : List TableShape) (begun table : TableShape) (all : Result ShapeParts ShapeFault)
    → Adds k (Table name items ∷ decls) shape all → begun_table k name shape.tables ≡ Ok begun → with_items (k + 1) shape.channels items begun ≡ Ok table → n ≡ k + (1 + length items)
    → tables ≡ shape.tables ++ table ∷ [] → TableFits table → Adds n decls (record shape { tables = tables }) all
adds_table k n name items decls shape tables begun table all adds h i e pushed one =
    let few = adds.few in
    let numbered : n ≡ k + 1 + length items = omega arith in
    subst (λ (ts : List TableShape). Adds n decls (record shape { tables = ts }) all) (sym pushed)
    (record {
      levels = adds.levels.1;
      few = omega (arith, few);
      fits = table_fits k name items shape begun table h i adds.fits one;
      rest = with_decls-table k n name items decls shape begun table h i numbered ∙ adds.rest;
    })

-- a table whose items are refused
pub table_refused : (k : ℕ) (name : List ℕ) (items : List Item) (decls : List Decl) (shape : ShapeParts) (begun : TableShape) (stop : ShapeStop) (all : Result ShapeParts ShapeFault)
    → Adds k (Table name items ∷ decls) shape all → begun_table k name shape.tables ≡ Ok begun → Refuses stop (with_items (k + 1) shape.channels items begun) → Refuses stop all
table_refused k name items decls shape begun stop all adds h refused =
    let after : TableShape → Result ShapeParts ShapeFault = λ table. with_decls (k + 1 + length items) decls (with_tables shape (table ∷ [])) in
    let e : (with_items (k + 1) shape.channels items begun >>= after) ≡ with_decls k (Table name items ∷ decls) shape = rw h refl in
    subst (Refuses stop) (e ∙ adds.rest) (Refuses-bind stop (with_items (k + 1) shape.channels items begun) after refused)

-- ---- the declaration at a place

-- what is left begins with the declaration at the place
pub adds_from : (i k : ℕ) (decls : List Decl) (d here : Decl) (shape : ShapeParts) (all : Result ShapeParts ShapeFault) → i < length decls → get_or decls i d ≡ here → Adds k (drop i decls) shape all → Adds k (here ∷ drop (i + 1) decls) shape all
adds_from i k decls d here shape all below at adds =
    let e : drop i decls ≡ here ∷ drop (i + 1) decls = drop-cons decls i d below ∙ ap (λ (x : Decl). x ∷ drop (suc i) decls) at ∙ rw add-one refl in
    subst (λ (ds : List Decl). Adds k ds shape all) e adds

-- the same of a shape whose parts are equal
pub adds_as : (n : ℕ) (decls : List Decl) (channels cs : List ChannelShape) (boundaries bs : List BoundaryShape) (tables ts : List TableShape) (digest : List ℕ) (all : Result ShapeParts ShapeFault) → cs ≡ channels → bs ≡ boundaries → ts ≡ tables
    → Adds n decls (record { channels = channels; boundaries = boundaries; tables = tables; digest = digest }) all → Adds n decls (record { channels = cs; boundaries = bs; tables = ts; digest = digest }) all
adds_as n decls channels cs boundaries bs tables ts digest all p q r adds =
    let path : ◌≡◌ {A = ShapeParts} (record { channels = channels; boundaries = boundaries; tables = tables; digest = digest }) (record { channels = cs; boundaries = bs; tables = ts; digest = digest }) =
    λ i. record { channels = sym p i; boundaries = sym q i; tables = sym r i; digest = digest } in
    subst (λ (shape : ShapeParts). Adds n decls shape all) path adds
