-- The products of flushes and boundaries are those of the tuples that they send.
use Rattle.std.proofs.Common.{◌≡◌, ℕ, zero, suc, ◌+◌, ◌*◌, ◌^◌, ◌<◌, ◌≤◌, ◌==◌, ltb, Bool, true, false, cond, List, [], ◌∷◌, ◌++◌, length, map, Option, Some, None, refl, sym, ap, ◌∙◌, subst, arith}
use Rattle.std.specs.Prelude.{slice_get, slice_index}
use Rattle.std.specs.List.{filter, flat_map}
use Rattle.std.specs.Option.{IsSomeAnd}
use Rattle.tower_laws.specs.Tower.{mul}
use Rattle.counting_laws.specs.Multiset.{product_by}
use Rattle.multiset_laws.specs.Fingerprint.{fingerprint}
use Rattle.multiset_laws.proofs.Leaves.{product_by-append, product_by-map}
use Rattle.layer_laws.proofs.LeafSteps.{flush_product as leaf_products}
use Rattle.list_laws.specs.CeilLog.{ceil_log}
use Rattle.list_laws.proofs.CeilLog.{is_least}
use Rattle.table_text.specs.declared.decl.Side.{Side}
use Rattle.table_shape.specs.declared.shape.BoundaryShape.{BoundaryShape}
use Rattle.table_shape.specs.declared.shape.ColumnShape.{ColumnShape}
use Rattle.table_shape.specs.declared.shape.FlushShape.{FlushShape}
use Rattle.table_shape.specs.declared.shape.TableShape.{TableShape}
use Rattle.table_shape.specs.Channels.{boundary_tuples, flush_tuples, is_boundary_of, is_flush_of, is_taken, rows_below, table_tuples, tuple_at, tuples}
use Rattle.table_shape.specs.Filling.{Filling, IsFilling, values_of}
use Rattle.table_shape.specs.Fits.{IsSelector, ShapeFits}
use Rattle.table_shape.specs.Lowering.{boundaries_product, flush_product, selector_at, side_product, tables_product}
use Rattle.table_shape.specs.Parts.{ShapeParts}

-- ---- one flush

-- the selector's value at each row is a bit
abbrev pub HasBits : (ℕ → List ℕ) → FlushShape → Type 0
HasBits values flush = (y : ℕ) → selector_at values flush.selector y < 2

taken_is : (values : ℕ → List ℕ) (selector : Option ℕ) (y : ℕ) → (selector_at values selector y == 1) ≡ is_taken values selector y
taken_is values None y = refl
taken_is values (Some s) y = refl

pub flush_is : (a g : ℕ) (values : ℕ → List ℕ) (m : ℕ) (flush : FlushShape) → HasBits values flush → flush_product a g values m flush ≡ product_by (fingerprint a g) (flush_tuples values m flush)
flush_is a g values m flush bits =
    leaf_products (2 ^ ceil_log m) m a g (selector_at values flush.selector) (tuple_at values flush) (is_least m).enough (λ y h. bits y)
    ∙ (λ i. product_by (fingerprint a g) (map (tuple_at values flush) (filter (λ y. taken_is values flush.selector y i) (rows_below m))))

-- ---- the flushes of a table

flushes_here : (a g : ℕ) (values : ℕ → List ℕ) (m : ℕ) (flush : FlushShape) (rest : List FlushShape) (b : Bool) → HasBits values flush → product_by (flush_product a g values m) rest ≡ product_by (fingerprint a g) (flat_map (flush_tuples values m) rest)
    → product_by (flush_product a g values m) (cond b (flush ∷ rest) rest) ≡ product_by (fingerprint a g) (flat_map (flush_tuples values m) (cond b (flush ∷ rest) rest))
flushes_here a g values m flush rest true bits h =
    (λ i. mul (flush_is a g values m flush bits i) (h i)) ∙ sym (product_by-append (fingerprint a g) (flush_tuples values m flush) (flat_map (flush_tuples values m) rest))
flushes_here a g values m flush rest false bits h = h

pub flushes_are : (a g : ℕ) (values : ℕ → List ℕ) (m : ℕ) (p : FlushShape → Bool) (flushes : List FlushShape) → ((f : ℕ) (flush : FlushShape) → slice_get flushes f ≡ Some flush → HasBits values flush)
    → product_by (flush_product a g values m) (filter p flushes) ≡ product_by (fingerprint a g) (flat_map (flush_tuples values m) (filter p flushes))
flushes_are a g values m p [] bits = refl
flushes_are a g values m p (flush ∷ flushes) bits =
    flushes_here a g values m flush (filter p flushes) (p flush) (bits 0 flush refl) (flushes_are a g values m p flushes (λ f own at. bits (suc f) own at))

-- ---- tables and boundaries

-- each flush of table t has bits
abbrev pub TableHasBits : Filling → ℕ → TableShape → Type 0
TableHasBits filling t table = (f : ℕ) (flush : FlushShape) → slice_get table.flushes f ≡ Some flush → HasBits (values_of filling t) flush

pub tables_are : (side : Side) (channel a g : ℕ) (filling : Filling) (rows : List ℕ) (t : ℕ) (tables : List TableShape) → ((i : ℕ) (table : TableShape) → slice_get tables i ≡ Some table → TableHasBits filling (t + i) table)
    → tables_product side channel a g filling rows t tables ≡ product_by (fingerprint a g) (table_tuples side channel filling rows t tables)
tables_are side channel a g filling rows t [] bits = refl
tables_are side channel a g filling rows t (table ∷ tables) bits =
    let own : t + 0 ≡ t = omega arith in
    let here = flushes_are a g (values_of filling t) (slice_index rows t) (is_flush_of side channel) table.flushes (subst (λ (k : ℕ). TableHasBits filling k table) own (bits 0 table refl)) in
    let rest = tables_are side channel a g filling rows (t + 1) tables (λ i other at. let next : t + suc i ≡ t + 1 + i = omega arith in subst (λ (k : ℕ). TableHasBits filling k other) next (bits (suc i) other at)) in
    (λ i. mul (here i) (rest i)) ∙ sym (product_by-append (fingerprint a g) (flat_map (flush_tuples (values_of filling t) (slice_index rows t)) (filter (is_flush_of side channel) table.flushes)) (table_tuples side channel filling rows (t + 1) tables))

pub boundaries_are : (side : Side) (channel a g : ℕ) (boundaries : List BoundaryShape) → boundaries_product side channel a g boundaries ≡ product_by (fingerprint a g) (boundary_tuples side channel boundaries)
boundaries_are side channel a g boundaries = sym (product_by-map (fingerprint a g) (λ (b : BoundaryShape). b.values) (filter (is_boundary_of side channel) boundaries))

-- one side of a channel
pub side_is : (side : Side) (shape : ShapeParts) (rows : List ℕ) (filling : Filling) (a g channel : ℕ) → ((t : ℕ) (table : TableShape) → slice_get shape.tables t ≡ Some table → TableHasBits filling t table)
    → side_product side shape rows filling a g channel ≡ product_by (fingerprint a g) (tuples side shape rows filling channel)
side_is side shape rows filling a g channel bits =
    let tables = tables_are side channel a g filling rows 0 shape.tables (λ t table at. let own : t ≡ 0 + t = omega arith in subst (λ (k : ℕ). TableHasBits filling k table) own (bits t table at)) in
    (λ i. mul (tables i) (boundaries_are side channel a g shape.boundaries i)) ∙ sym (product_by-append (fingerprint a g) (table_tuples side channel filling rows 0 shape.tables) (boundary_tuples side channel shape.boundaries))

-- ---- selectors of a shape that fits

column_has_bits : (m : ℕ) (values : List ℕ) (column : ColumnShape) (y : ℕ) → column.level ≡ 0 → slice_index values y < 2 ^ (2 ^ column.level) → slice_index values y < 2
column_has_bits m values column y e h = subst (λ (l : ℕ). slice_index values y < 2 ^ (2 ^ l)) e h

selector_has_bits : (filling : Filling) (rows : List ℕ) (tables : List TableShape) (t : ℕ) (table : TableShape) → IsFilling tables rows filling → slice_get tables t ≡ Some table
    → (selector : Option ℕ) → IsSelector table.columns selector → (y : ℕ) → selector_at (values_of filling t) selector y < 2
selector_has_bits filling rows tables t table fills at None is y = omega arith
selector_has_bits filling rows tables t table fills at (Some s) is y = go (slice_get table.columns s) refl is
  where
    go : (found : Option ColumnShape) → slice_get table.columns s ≡ found → IsSomeAnd found (λ (column : ColumnShape). (column.level ≡ 0) × (column.log_values ≡ 0)) → slice_index (values_of filling t s) y < 2
    go None e is = absurd is
    go (Some column) e is = column_has_bits 0 (values_of filling t s) column y is.0 ((fills.columns t s table column at e).fits y)

pub has_bits : (shape : ShapeParts) (rows : List ℕ) (filling : Filling) → ShapeFits shape → IsFilling shape.tables rows filling → (t : ℕ) (table : TableShape) → slice_get shape.tables t ≡ Some table → TableHasBits filling t table
has_bits shape rows filling fits fills t table at f flush own y = selector_has_bits filling rows shape.tables t table fills at flush.selector (fits.flushes t table at f flush own).selector y
