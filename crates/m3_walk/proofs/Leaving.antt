-- A reduction that is done leaves claims that are true exactly where its own are.
use Rattle.std.proofs.Common.{◌≡◌, ◌↔◌, ℕ, zero, suc, List, [], ◌∷◌, ◌++◌, length, map, refl, sym}
use Rattle.std.specs.List.{AllByRecursion}
use Rattle.sumcheck.specs.declared.column_claim.ColumnClaim.{ColumnClaim}
use Rattle.sumcheck.specs.Column.{ColumnHolds}
use Rattle.sumcheck.specs.Machine.{Filling}
use Rattle.sumcheck.specs.Rounds.{round_claim, sum_claim}
use Rattle.sumcheck.specs.Summing.{adding, closed}
use Rattle.table_shape.specs.Placement.{Block}
use Rattle.channel_products.specs.declared.flushed.Flushed.{Flushed}
use Rattle.channel_products.specs.Balancing as balance
use Rattle.channel_products.specs.Balancing.{Balancing, balancing}
use Rattle.channel_products.specs.Channels.{product_of}
use Rattle.channel_products.specs.Descent as descent
use Rattle.channel_products.specs.Descent.{Descent, HasRows}
use Rattle.zerocheck.specs.Zero as zero
use Rattle.zerocheck.specs.Zero.{Zero, zerocheck}
use Rattle.eval_reduce.specs.Linear as linear
use Rattle.eval_reduce.specs.Linear.{Linear, linear_step}
use Rattle.eval_reduce.specs.Merge as merge
use Rattle.eval_reduce.specs.Merge.{Merge}
use Rattle.eval_reduce.specs.Pack as pack
use Rattle.eval_reduce.specs.Pack.{Pack}
use Rattle.eval_reduce.specs.Shift as shift
use Rattle.eval_reduce.specs.Shift.{Shift}
use Rattle.bit_claim.specs.Batching as batch
use Rattle.bit_claim.specs.Batching.{Batching, BitValue, batching}
use Rattle.ring_switch.specs.Switching as switch
use Rattle.ring_switch.specs.Switching.{Switching, switching}
use Rattle.m3_walk.specs.declared.stage.Stage.{Stage}
use Rattle.m3_walk.specs.declared.stage.Stage.TheVariants.{Start, Channels, Flush, Constraints, Merge as Merges, Linear as Combines, Project as Projects, Claimed, Pack as Packs, Shift as Shifts, Bits, Words, Switch}
use Rattle.m3_walk.specs.declared.product.Product.{Product}
use Rattle.m3_walk.specs.Kept.{BitHolds, Kept, KeptFits, KeptHolds, Packed, PackedHolds, ProductHolds}
use Rattle.m3_walk.specs.Linking.{bits_left, descent_left, left, linear_left, merge_left, pack_left, packed_left, products_left, products_with, shift_left, zero_left}
use Rattle.m3_walk.specs.Stages.{StageFits, StageHolds, packed_filling, staged}
use Rattle.m3_walk.proofs.Parts.{all_joined, first_part, second_part}

pub still_due : {X : Type 0} (x : X) (xs : List X) → x ∷ xs ≡ [] → ⊥
still_due x xs e = cc

-- ---- claims put to those that wait
-- what is claimed is as true as these claims on columns
columns : (F : Filling) (w : Kept) (cs : List ColumnClaim) (P : Type 0) → (P → AllByRecursion (ColumnHolds F) cs) → (AllByRecursion (ColumnHolds F) cs → P)
    → (P × KeptHolds F w) ↔ KeptHolds F (record w { columns = w.columns ++ cs })
columns F w cs P to from = (
  (λ h. record { products = h.1.products; columns = all_joined (ColumnHolds F) w.columns cs h.1.columns (to h.0); bits = h.1.bits; packed = h.1.packed }),
  (λ k. (from (second_part (ColumnHolds F) w.columns cs k.columns), record { products = k.products; columns = first_part (ColumnHolds F) w.columns cs k.columns; bits = k.bits; packed = k.packed })),
)

products : (F : Filling) (w : Kept) (ps : List Product) (P : Type 0) → (P → AllByRecursion (ProductHolds F) ps) → (AllByRecursion (ProductHolds F) ps → P)
    → (P × KeptHolds F w) ↔ KeptHolds F (record w { products = w.products ++ ps })
products F w ps P to from = (
  (λ h. record { products = all_joined (ProductHolds F) w.products ps h.1.products (to h.0); columns = h.1.columns; bits = h.1.bits; packed = h.1.packed }),
  (λ k. (from (second_part (ProductHolds F) w.products ps k.products), record { products = first_part (ProductHolds F) w.products ps k.products; columns = k.columns; bits = k.bits; packed = k.packed })),
)

bit_values : (F : Filling) (w : Kept) (bs : List BitValue) (P : Type 0) → (P → AllByRecursion (BitHolds F) bs) → (AllByRecursion (BitHolds F) bs → P)
    → (P × KeptHolds F w) ↔ KeptHolds F (record w { bits = w.bits ++ bs })
bit_values F w bs P to from = (
  (λ h. record { products = h.1.products; columns = h.1.columns; bits = all_joined (BitHolds F) w.bits bs h.1.bits (to h.0); packed = h.1.packed }),
  (λ k. (from (second_part (BitHolds F) w.bits bs k.bits), record { products = k.products; columns = k.columns; bits = first_part (BitHolds F) w.bits bs k.bits; packed = k.packed })),
)

packed_values : (F : Filling) (w : Kept) (ps : List Packed) (P : Type 0) → (P → AllByRecursion (PackedHolds F) ps) → (AllByRecursion (PackedHolds F) ps → P)
    → (P × KeptHolds F w) ↔ KeptHolds F (record w { packed = w.packed ++ ps })
packed_values F w ps P to from = (
  (λ h. record { products = h.1.products; columns = h.1.columns; bits = h.1.bits; packed = all_joined (PackedHolds F) w.packed ps h.1.packed (to h.0) }),
  (λ k. (from (second_part (PackedHolds F) w.packed ps k.packed), record { products = k.products; columns = k.columns; bits = k.bits; packed = first_part (PackedHolds F) w.packed ps k.packed })),
)

-- ---- products of flushes
products_told : (F : Filling) (a g : ℕ) (fs : List Flushed) (v : List ℕ) → v ≡ map (product_of F a g) fs → AllByRecursion (ProductHolds F) (products_with a g fs v)
products_told F a g [] v e = tt
products_told F a g (f ∷ fs) [] e = tt
products_told F a g (f ∷ fs) (x ∷ v) e = (sym (heads e), products_told F a g fs v (tails e))
  where
    heads : x ∷ v ≡ product_of F a g f ∷ map (product_of F a g) fs → x ≡ product_of F a g f
    heads e = cc

    tails : x ∷ v ≡ product_of F a g f ∷ map (product_of F a g) fs → v ≡ map (product_of F a g) fs
    tails e = cc

told_products : (F : Filling) (a g : ℕ) (fs : List Flushed) (v : List ℕ) → length v ≡ length fs → AllByRecursion (ProductHolds F) (products_with a g fs v) → v ≡ map (product_of F a g) fs
told_products F a g [] [] l h = refl
told_products F a g [] (x ∷ v) l h = absurd (too_long l)
  where
    too_long : suc (length v) ≡ zero → ⊥
    too_long e = cc
told_products F a g (f ∷ fs) [] l h = absurd (too_short l)
  where
    too_short : zero ≡ suc (length fs) → ⊥
    too_short e = cc
told_products F a g (f ∷ fs) (x ∷ v) l h = (λ i. sym h.0 i ∷ told_products F a g fs v (less l) h.1 i)
  where
    less : suc (length v) ≡ suc (length fs) → length v ≡ length fs
    less e = cc

-- ---- each reduction
channels_leave : (F : Filling) (b : Balancing) (w : Kept) → balancing.entries b ≡ [] → balancing.fits F b → (balancing.holds F b × KeptHolds F w) ↔ KeptHolds F (record w { products = w.products ++ products_left b })
channels_leave F (balance.waiting ch) w e f = products F w [] (Unit {0}) (λ h. tt) (λ h. tt)
channels_leave F (balance.stated ch) w e f = absurd (still_due _ _ e)
channels_leave F (balance.collapsing ch a) w e f = absurd (still_due _ _ e)
channels_leave F (balance.multiplying ch a g) w e f = absurd (still_due _ _ e)
channels_leave F (balance.told ch a g v) w e f =
    products F w (products_with a g ch.flushes v) (v ≡ map (product_of F a g) ch.flushes) (products_told F a g ch.flushes v) (told_products F a g ch.flushes v f)

flush_leaves : (F : Filling) (d : Descent) (w : Kept) → descent.descent.entries d ≡ [] → (descent.descent.holds F d × KeptHolds F w) ↔ KeptHolds F (record w { columns = w.columns ++ descent_left d })
flush_leaves F (descent.waiting f) w e = columns F w [] (Unit {0}) (λ h. tt) (λ h. tt)
flush_leaves F (descent.layers (adding t (sum_claim d zero z c))) w e = absurd (still_due _ _ e)
flush_leaves F (descent.layers (adding t (sum_claim d (suc n) z c))) w e = absurd (still_due _ _ e)
flush_leaves F (descent.layers (adding t (round_claim d n z v))) w e = absurd (still_due _ _ e)
flush_leaves F (descent.layers (closed p)) w e = absurd (still_due _ _ e)
flush_leaves F (descent.leaves (adding t (sum_claim d zero z c))) w e = absurd (still_due _ _ e)
flush_leaves F (descent.leaves (adding t (sum_claim d (suc n) z c))) w e = absurd (still_due _ _ e)
flush_leaves F (descent.leaves (adding t (round_claim d n z v))) w e = absurd (still_due _ _ e)
flush_leaves F (descent.leaves (closed cs)) w e = columns F w cs (AllByRecursion (ColumnHolds F) cs) (λ h. h) (λ h. h)

zeros_leave : (F : Filling) (z : Zero) (w : Kept) → zerocheck.entries z ≡ [] → (zerocheck.holds F z × KeptHolds F w) ↔ KeptHolds F (record w { columns = w.columns ++ zero_left z })
zeros_leave F (zero.waiting g) w e = columns F w [] (Unit {0}) (λ h. tt) (λ h. tt)
zeros_leave F (zero.stated g) w e = absurd (still_due _ _ e)
zeros_leave F (zero.vector g beta prefix n) w e = absurd (still_due _ _ e)
zeros_leave F (zero.summed (adding t (sum_claim d zero z c))) w e = absurd (still_due _ _ e)
zeros_leave F (zero.summed (adding t (sum_claim d (suc n) z c))) w e = absurd (still_due _ _ e)
zeros_leave F (zero.summed (adding t (round_claim d n z v))) w e = absurd (still_due _ _ e)
zeros_leave F (zero.summed (closed cs)) w e = columns F w cs (AllByRecursion (ColumnHolds F) cs) (λ h. h) (λ h. h)

merge_leaves : (F : Filling) (m : Merge) (w : Kept) → merge.merge.entries m ≡ [] → (merge.merge.holds F m × KeptHolds F w) ↔ KeptHolds F (record w { columns = w.columns ++ merge_left m })
merge_leaves F (merge.waiting n m) w e = columns F w [] (Unit {0}) (λ h. tt) (λ h. tt)
merge_leaves F (merge.opening t c n cs) w e = absurd (still_due _ _ e)
merge_leaves F (merge.summed (adding t (sum_claim d zero z c))) w e = absurd (still_due _ _ e)
merge_leaves F (merge.summed (adding t (sum_claim d (suc n) z c))) w e = absurd (still_due _ _ e)
merge_leaves F (merge.summed (adding t (round_claim d n z v))) w e = absurd (still_due _ _ e)
merge_leaves F (merge.summed (closed c)) w e = columns F w (c ∷ []) (ColumnHolds F c) (λ h. (h, tt)) (λ h. h.0)

linear_leaves : (F : Filling) (l : Linear) (w : Kept) → linear_step.entries l ≡ [] → (linear_step.holds F l × KeptHolds F w) ↔ KeptHolds F (record w { columns = w.columns ++ linear_left l })
linear_leaves F (linear.waiting f) w e = columns F w [] (Unit {0}) (λ h. tt) (λ h. tt)
linear_leaves F (linear.stated f c) w e = absurd (still_due _ _ e)
linear_leaves F (linear.told cs) w e = columns F w cs (AllByRecursion (ColumnHolds F) cs) (λ h. h) (λ h. h)

pack_leaves : (F : Filling) (p : Pack) (w : Kept) → pack.pack.entries p ≡ [] → (pack.pack.holds F p × KeptHolds F w) ↔ KeptHolds F (record w { columns = w.columns ++ pack_left p })
pack_leaves F (pack.waiting f) w e = columns F w [] (Unit {0}) (λ h. tt) (λ h. tt)
pack_leaves F (pack.stated f c) w e = absurd (still_due _ _ e)
pack_leaves F (pack.listed f z prefix v n) w e = absurd (still_due _ _ e)
pack_leaves F (pack.closed c) w e = columns F w (c ∷ []) (ColumnHolds F c) (λ h. (h, tt)) (λ h. h.0)

shift_leaves : (F : Filling) (s : Shift) (w : Kept) → shift.shift.entries s ≡ [] → (shift.shift.holds F s × KeptHolds F w) ↔ KeptHolds F (record w { columns = w.columns ++ shift_left s })
shift_leaves F (shift.waiting s) w e = columns F w [] (Unit {0}) (λ h. tt) (λ h. tt)
shift_leaves F (shift.summed (adding t (sum_claim d zero z c))) w e = absurd (still_due _ _ e)
shift_leaves F (shift.summed (adding t (sum_claim d (suc n) z c))) w e = absurd (still_due _ _ e)
shift_leaves F (shift.summed (adding t (round_claim d n z v))) w e = absurd (still_due _ _ e)
shift_leaves F (shift.summed (closed c)) w e = columns F w (c ∷ []) (ColumnHolds F c) (λ h. (h, tt)) (λ h. h.0)

bits_leave : (F : Filling) (b : Batching) (w : Kept) → batching.entries b ≡ [] → (batching.holds F b × KeptHolds F w) ↔ KeptHolds F (record w { bits = w.bits ++ bits_left b })
bits_leave F (batch.waiting bs m) w e = bit_values F w [] (Unit {0}) (λ h. tt) (λ h. tt)
bits_leave F (batch.opening bs cs) w e = absurd (still_due _ _ e)
bits_leave F (batch.summed (adding t (sum_claim d zero z c))) w e = absurd (still_due _ _ e)
bits_leave F (batch.summed (adding t (sum_claim d (suc n) z c))) w e = absurd (still_due _ _ e)
bits_leave F (batch.summed (adding t (round_claim d n z v))) w e = absurd (still_due _ _ e)
bits_leave F (batch.summed (closed b)) w e = bit_values F w (b ∷ []) (BitHolds F b) (λ h. (h, tt)) (λ h. h.0)

switch_leaves : (F : Filling) (bs : List Block) (s : Switching) (w : Kept) → switching.entries s ≡ [] → (switching.holds (packed_filling bs F) s × KeptHolds F w) ↔ KeptHolds F (record w { packed = w.packed ++ packed_left bs s })
switch_leaves F bs (switch.waiting n) w e = packed_values F w [] (Unit {0}) (λ h. tt) (λ h. tt)
switch_leaves F bs (switch.valued z v) w e = absurd (still_due _ _ e)
switch_leaves F bs (switch.rowed h p rows n) w e = absurd (still_due _ _ e)
switch_leaves F bs (switch.summed (adding t (sum_claim d zero z c))) w e = absurd (still_due _ _ e)
switch_leaves F bs (switch.summed (adding t (sum_claim d (suc n) z c))) w e = absurd (still_due _ _ e)
switch_leaves F bs (switch.summed (adding t (round_claim d n z v))) w e = absurd (still_due _ _ e)
switch_leaves F bs (switch.summed (closed p)) w e = packed_values F w (record { blocks = bs; point = p.point; value = p.value } ∷ []) _ (λ h. (h, tt)) (λ h. h.0)

same : (F : Filling) (w : Kept) → (Unit {0} × KeptHolds F w) ↔ KeptHolds F w
same F w = ((λ h. h.1), (λ h. (tt, h)))

pub leave_holds : (F : Filling) (a : Stage) (w : Kept) → staged.entries a ≡ [] → StageFits F a → KeptFits F w → (StageHolds F a × KeptHolds F w) ↔ KeptHolds F (left a w)
leave_holds F Start w e f k = same F w
leave_holds F (Channels b) w e f k = channels_leave F b w e f.0
leave_holds F (Flush d) w e f k = flush_leaves F d w e
leave_holds F (Constraints z) w e f k = zeros_leave F z w e
leave_holds F (Merges m) w e f k = merge_leaves F m.walk w e
leave_holds F (Combines l) w e f k = linear_leaves F l w e
leave_holds F (Projects p) w e f k = same F w
leave_holds F (Claimed c) w e f k = columns F w (c ∷ []) (ColumnHolds F c) (λ h. (h, tt)) (λ h. h.0)
leave_holds F (Packs p) w e f k = pack_leaves F p w e
leave_holds F (Shifts s) w e f k = shift_leaves F s w e
leave_holds F (Bits b) w e f k = bits_leave F b w e
leave_holds F (Words s) w e f k = same F w
leave_holds F (Switch s) w e f k = switch_leaves F s.placement s.walk w e
