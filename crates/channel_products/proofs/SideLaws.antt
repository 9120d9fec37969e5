-- The product of a side's true values is that of the fingerprints of its tuples.
use Rattle.std.proofs.Common.{◌≡◌, ◌∙◌, ℕ, ◌^◌, ◌<◌, ◌==◌, Bool, true, false, cond, List, [], ◌∷◌, map, Option, Some, None, refl, sym}
use Rattle.std.specs.List.{AllByRecursion, filter, flat_map}
use Rattle.tower_laws.specs.Tower.{mul}
use Rattle.tower_laws.proofs.Field.{identity, field_terms}
use Rattle.counting_laws.specs.Multiset.{product_by}
use Rattle.multiset_laws.specs.Fingerprint.{fingerprint}
use Rattle.multiset_laws.proofs.Leaves.{product_by-append, product_by-map}
use Rattle.layer_laws.proofs.LeafSteps.{flush_product as leaf_products}
use Rattle.list_laws.specs.CeilLog.{ceil_log}
use Rattle.list_laws.proofs.CeilLog.{is_least}
use Rattle.sumcheck.specs.Machine.{Filling}
use Rattle.table_text.specs.declared.decl.Side.{Side}
use Rattle.table_shape.specs.declared.shape.BoundaryShape.{BoundaryShape}
use Rattle.table_shape.specs.declared.shape.FlushShape.{FlushShape}
use Rattle.table_shape.specs.Channels.{boundary_tuples, flush_tuples, is_boundary_of, is_flush_of, is_taken, rows_below, tuple_at}
use Rattle.table_shape.specs.Lowering.{boundaries_product, flush_product, selector_at}
use Rattle.channel_products.specs.declared.channels.Channels.{Channels}
use Rattle.channel_products.specs.declared.flushed.Flushed.{Flushed}
use Rattle.channel_products.specs.Balancing.{flushed_value, side_value}
use Rattle.channel_products.specs.Channels.{HasBits, product_of, tuples_of}

-- ---- one flush
taken_is : (values : ℕ → List ℕ) (selector : Option ℕ) (y : ℕ) → (selector_at values selector y == 1) ≡ is_taken values selector y
taken_is values None y = refl
taken_is values (Some s) y = refl

flush_is : (a g : ℕ) (values : ℕ → List ℕ) (m : ℕ) (flush : FlushShape) → ((row : ℕ) → row < m → selector_at values flush.selector row < 2) → flush_product a g values m flush ≡ product_by (fingerprint a g) (flush_tuples values m flush)
flush_is a g values m flush bits =
    leaf_products (2 ^ ceil_log m) m a g (selector_at values flush.selector) (tuple_at values flush) (is_least m).enough bits
    ∙ (λ i. product_by (fingerprint a g) (map (tuple_at values flush) (filter (λ y. taken_is values flush.selector y i) (rows_below m))))

-- ---- the flushes of a side
one_times : (x : ℕ) → mul 1 x ≡ x
one_times x = identity (x ∷ []) (search field_terms depth 60 fits 20000) refl

abbrev sent : Filling → Flushed → List (List ℕ)
sent F f = flush_tuples (F f.table) f.rows f.shape

one_more : (F : Filling) (a g : ℕ) (f : Flushed) (rest : List Flushed) (n : ℕ) (b : Bool) → HasBits F f → n ≡ product_by (fingerprint a g) (flat_map (sent F) rest)
    → mul (cond b (product_of F a g f) 1) n ≡ product_by (fingerprint a g) (flat_map (sent F) (cond b (f ∷ rest) rest))
one_more F a g f rest n true bits h =
    (λ i. mul (flush_is a g (F f.table) f.rows f.shape bits i) (h i)) ∙ sym (product_by-append (fingerprint a g) (sent F f) (flat_map (sent F) rest))
one_more F a g f rest n false bits h = one_times n ∙ h

flushes_are : (F : Filling) (side : Side) (c a g : ℕ) (fs : List Flushed) → AllByRecursion (HasBits F) fs
    → flushed_value side c fs (map (product_of F a g) fs) ≡ product_by (fingerprint a g) (flat_map (sent F) (filter (λ (f : Flushed). is_flush_of side c f.shape) fs))
flushes_are F side c a g [] bits = refl
flushes_are F side c a g (f ∷ fs) bits = one_more F a g f (filter (λ (f : Flushed). is_flush_of side c f.shape) fs) _ (is_flush_of side c f.shape) bits.0 (flushes_are F side c a g fs bits.1)

-- ---- with its boundaries
boundaries_are : (side : Side) (c a g : ℕ) (boundaries : List BoundaryShape) → boundaries_product side c a g boundaries ≡ product_by (fingerprint a g) (boundary_tuples side c boundaries)
boundaries_are side c a g boundaries = sym (product_by-map (fingerprint a g) (λ (b : BoundaryShape). b.values) (filter (is_boundary_of side c) boundaries))

pub side_is : (F : Filling) (side : Side) (c a g : ℕ) (ch : Channels) → AllByRecursion (HasBits F) ch.flushes
    → side_value side c a g ch (map (product_of F a g) ch.flushes) ≡ product_by (fingerprint a g) (tuples_of F side c ch)
side_is F side c a g ch bits =
    (λ i. mul (flushes_are F side c a g ch.flushes bits i) (boundaries_are side c a g ch.boundaries i))
    ∙ sym (product_by-append (fingerprint a g) (flat_map (sent F) (filter (λ (f : Flushed). is_flush_of side c f.shape) ch.flushes)) (boundary_tuples side c ch.boundaries))
