-- A reduction that is done leaves claims that fit, where it does.
use Rattle.std.proofs.Common.{◌≡◌, ℕ, List, [], ◌∷◌, ◌++◌}
use Rattle.std.specs.List.{AllByRecursion}
use Rattle.sumcheck.specs.declared.column_claim.ColumnClaim.{ColumnClaim}
use Rattle.sumcheck.specs.Column.{ColumnFits}
use Rattle.sumcheck.specs.Machine.{Filling}
use Rattle.sumcheck.specs.Summing.{adding, closed}
use Rattle.channel_products.specs.declared.flushed.Flushed.{Flushed}
use Rattle.channel_products.specs.Balancing as balance
use Rattle.channel_products.specs.Balancing.{Balancing}
use Rattle.channel_products.specs.Descent as descent
use Rattle.channel_products.specs.Descent.{Descent, HasRows}
use Rattle.zerocheck.specs.Zero as zero
use Rattle.zerocheck.specs.Zero.{Zero, zerocheck}
use Rattle.eval_reduce.specs.Linear as linear
use Rattle.eval_reduce.specs.Linear.{Linear, linear_step}
use Rattle.eval_reduce.specs.Merge as merge
use Rattle.eval_reduce.specs.Merge.{Merge}
use Rattle.eval_reduce.specs.Pack as pack
use Rattle.eval_reduce.specs.Pack.{Pack}
use Rattle.eval_reduce.specs.Shift as shift
use Rattle.eval_reduce.specs.Shift.{Shift}
use Rattle.bit_claim.specs.Batching as batch
use Rattle.bit_claim.specs.Batching.{Batching, BitValue, batching}
use Rattle.m3_walk.specs.declared.stage.Stage.{Stage}
use Rattle.m3_walk.specs.declared.stage.Stage.TheVariants.{Start, Channels, Flush, Constraints, Merge as Merges, Linear as Combines, Project as Projects, Claimed, Pack as Packs, Shift as Shifts, Bits, Words, Switch}
use Rattle.m3_walk.specs.declared.product.Product.{Product}
use Rattle.m3_walk.specs.Kept.{BitFits, Kept, KeptFits}
use Rattle.m3_walk.specs.Linking.{bits_left, descent_left, left, linear_left, merge_left, pack_left, products_left, products_with, shift_left, zero_left}
use Rattle.m3_walk.specs.Stages.{StageFits, flushes_in, staged}
use Rattle.m3_walk.proofs.Parts.{all_joined}

-- ---- claims put to those that wait
with_columns : (F : Filling) (w : Kept) (cs : List ColumnClaim) → KeptFits F w → AllByRecursion (ColumnFits F) cs → KeptFits F (record w { columns = w.columns ++ cs })
with_columns F w cs k h = record { products = k.products; columns = all_joined (ColumnFits F) w.columns cs k.columns h; bits = k.bits }

with_products : (F : Filling) (w : Kept) (ps : List Product) → KeptFits F w → AllByRecursion (λ (p : Product). HasRows F p.flushed) ps → KeptFits F (record w { products = w.products ++ ps })
with_products F w ps k h = record { products = all_joined (λ (p : Product). HasRows F p.flushed) w.products ps k.products h; columns = k.columns; bits = k.bits }

with_bits : (F : Filling) (w : Kept) (bs : List BitValue) → KeptFits F w → AllByRecursion (BitFits F) bs → KeptFits F (record w { bits = w.bits ++ bs })
with_bits F w bs k h = record { products = k.products; columns = k.columns; bits = all_joined (BitFits F) w.bits bs k.bits h }

-- ---- what each reduction leaves
told_rows : (F : Filling) (a g : ℕ) (fs : List Flushed) (v : List ℕ) → AllByRecursion (HasRows F) fs → AllByRecursion (λ (p : Product). HasRows F p.flushed) (products_with a g fs v)
told_rows F a g [] v h = tt
told_rows F a g (f ∷ fs) [] h = tt
told_rows F a g (f ∷ fs) (x ∷ v) h = (h.0, told_rows F a g fs v h.1)

products_fit : (F : Filling) (b : Balancing) → AllByRecursion (HasRows F) (flushes_in b) → AllByRecursion (λ (p : Product). HasRows F p.flushed) (products_left b)
products_fit F (balance.waiting ch) h = tt
products_fit F (balance.stated ch) h = tt
products_fit F (balance.collapsing ch a) h = tt
products_fit F (balance.multiplying ch a g) h = tt
products_fit F (balance.told ch a g v) h = told_rows F a g ch.flushes v h

descent_fits : (F : Filling) (s : Descent) → descent.descent.fits F s → AllByRecursion (ColumnFits F) (descent_left s)
descent_fits F (descent.waiting f) h = tt
descent_fits F (descent.layers s) h = tt
descent_fits F (descent.leaves (adding t r)) h = tt
descent_fits F (descent.leaves (closed cs)) h = h

zero_fits : (F : Filling) (s : Zero) → zerocheck.fits F s → AllByRecursion (ColumnFits F) (zero_left s)
zero_fits F (zero.waiting g) h = tt
zero_fits F (zero.stated g) h = tt
zero_fits F (zero.vector g beta prefix n) h = tt
zero_fits F (zero.summed (adding t r)) h = tt
zero_fits F (zero.summed (closed cs)) h = h

merge_fits : (F : Filling) (s : Merge) → merge.merge.fits F s → AllByRecursion (ColumnFits F) (merge_left s)
merge_fits F (merge.waiting n m) h = tt
merge_fits F (merge.opening t c n cs) h = tt
merge_fits F (merge.summed (adding t r)) h = tt
merge_fits F (merge.summed (closed c)) h = (h, tt)

linear_fits : (F : Filling) (s : Linear) → linear_step.fits F s → AllByRecursion (ColumnFits F) (linear_left s)
linear_fits F (linear.waiting f) h = tt
linear_fits F (linear.stated f c) h = tt
linear_fits F (linear.told cs) h = h

pack_fits : (F : Filling) (s : Pack) → pack.pack.fits F s → AllByRecursion (ColumnFits F) (pack_left s)
pack_fits F (pack.waiting f) h = tt
pack_fits F (pack.stated f c) h = tt
pack_fits F (pack.listed f z prefix v n) h = tt
pack_fits F (pack.closed c) h = (h, tt)

shift_fits : (F : Filling) (s : Shift) → shift.shift.fits F s → AllByRecursion (ColumnFits F) (shift_left s)
shift_fits F (shift.waiting s) h = tt
shift_fits F (shift.summed (adding t r)) h = tt
shift_fits F (shift.summed (closed c)) h = (h, tt)

bits_fit : (F : Filling) (s : Batching) → batching.fits F s → AllByRecursion (BitFits F) (bits_left s)
bits_fit F (batch.waiting bs m) h = tt
bits_fit F (batch.opening bs cs) h = tt
bits_fit F (batch.summed (adding t r)) h = tt
bits_fit F (batch.summed (closed b)) h = (record { size = h.0.0; vars = h.0.1; elements = h.1 }, tt)

pub leave_fits : (F : Filling) (a : Stage) (w : Kept) → staged.entries a ≡ [] → StageFits F a → KeptFits F w → KeptFits F (left a w)
leave_fits F Start w e h k = k
leave_fits F (Channels b) w e h k = with_products F w (products_left b) k (products_fit F b h.1)
leave_fits F (Flush s) w e h k = with_columns F w (descent_left s) k (descent_fits F s h)
leave_fits F (Constraints z) w e h k = with_columns F w (zero_left z) k (zero_fits F z h)
leave_fits F (Merges m) w e h k = with_columns F w (merge_left m.walk) k (merge_fits F m.walk h)
leave_fits F (Combines l) w e h k = with_columns F w (linear_left l) k (linear_fits F l h)
leave_fits F (Projects p) w e h k = k
leave_fits F (Claimed c) w e h k = with_columns F w (c ∷ []) k (h, tt)
leave_fits F (Packs p) w e h k = with_columns F w (pack_left p) k (pack_fits F p h)
leave_fits F (Shifts s) w e h k = with_columns F w (shift_left s) k (shift_fits F s h)
leave_fits F (Bits b) w e h k = with_bits F w (bits_left b) k (bits_fit F b h)
leave_fits F (Words s) w e h k = k
leave_fits F (Switch s) w e h k = record { products = k.products; columns = k.columns; bits = k.bits }
