-- A reduction that is entered and what stays are true exactly where it and all that waited were.
use Rattle.std.proofs.Common.{◌↔◌, ℕ, List, [], ◌∷◌}
use Rattle.std.specs.List.{AllByRecursion, filter}
use Rattle.sumcheck.specs.Column.{ColumnHolds}
use Rattle.sumcheck.specs.Machine.{Filling}
use Rattle.channel_products.specs.Descent.{HasRows}
use Rattle.eval_reduce.specs.Linear as linear
use Rattle.eval_reduce.specs.Linear.{Linear}
use Rattle.eval_reduce.specs.Merge as merge
use Rattle.eval_reduce.specs.Merge.{Merge}
use Rattle.eval_reduce.specs.Pack as pack
use Rattle.eval_reduce.specs.Pack.{Pack}
use Rattle.eval_reduce.specs.Project as project
use Rattle.eval_reduce.specs.Project.{Project, projected_claim}
use Rattle.eval_reduce.specs.Shift as shift
use Rattle.eval_reduce.specs.Shift.{Shift, stated_sum}
use Rattle.bit_claim.specs.Batching as batch
use Rattle.bit_claim.specs.Batching.{Batching, BitValue}
use Rattle.m3_walk.specs.declared.stage.Stage.{Stage}
use Rattle.m3_walk.specs.declared.stage.Stage.TheVariants.{Start, Channels, Flush, Constraints, Merge as Merges, Linear as Combines, Project as Projects, Claimed, Pack as Packs, Shift as Shifts, Bits, Words, Switch}
use Rattle.claim_lists.specs.OnColumn.{is_off, is_on}
use Rattle.m3_walk.specs.declared.product.Product.{Product}
use Rattle.m3_walk.specs.Kept.{BitFits, Kept, KeptFits, KeptHolds}
use Rattle.m3_walk.specs.Linking.{LinearFits, PackFits, ProjectFits, ShiftFits, WaitingFits, Waits, but_first, enter_bits, enter_linear, enter_merge, enter_pack, enter_project, enter_shift, entered, flush_with, has_block, has_no_block, stay_bits, stay_linear, stay_merge, stay_pack, stay_project, stay_shift, staying, switch_with}
use Rattle.m3_walk.specs.Stages.{StageHolds}
use Rattle.m3_walk.proofs.EnteringFits.{Meanings}
use Rattle.m3_walk.proofs.Parts.{all_kept, all_ordered, all_parts, ordered_all}
use Rattle.m3_walk.proofs.Taking.{one_holds}
use Rattle.m3_walk.proofs.WordSteps.{switch_holds}

-- nothing is taken
same : (F : Filling) (w : Kept) → (Unit {0} × KeptHolds F w) ↔ (Unit {0} × KeptHolds F w)
same F w = ((λ h. h), (λ h. h))

-- ---- each reduction
flush_holds : Meanings → (F : Filling) (w : Kept) (ps : List Product) → AllByRecursion (λ (p : Product). HasRows F p.flushed) ps
    → (StageHolds F (flush_with ps) × KeptHolds F (record w { products = but_first ps })) ↔ (Unit {0} × KeptHolds F (record w { products = ps }))
flush_holds laws F w [] h = same F (record w { products = [] })
flush_holds laws F w (p ∷ ps) h =
    let meant = laws.products F p.flushed p.alpha p.gamma p.value h.0 in (
      (λ a. (tt, record { products = (meant.told a.0, a.1.products); columns = a.1.columns; bits = a.1.bits; packed = a.1.packed })),
      (λ a. (meant.holds a.1.products.0, record { products = a.1.products.1; columns = a.1.columns; bits = a.1.bits; packed = a.1.packed })),
    )

switch_is_true : (F : Filling) (w : Kept) (bs : List BitValue) → AllByRecursion (BitFits F) bs → (StageHolds F (switch_with bs) × KeptHolds F (record w { bits = but_first bs })) ↔ (Unit {0} × KeptHolds F (record w { bits = bs }))
switch_is_true F w [] h = same F (record w { bits = [] })
switch_is_true F w (b ∷ bs) h =
    let both = switch_holds F b h.0 in (
      (λ a. (tt, record { products = a.1.products; columns = a.1.columns; bits = (both.0 a.0, a.1.bits); packed = a.1.packed })),
      (λ a. (both.1 a.1.bits.0, record { products = a.1.products; columns = a.1.columns; bits = a.1.bits.1; packed = a.1.packed })),
    )

merge_holds : (F : Filling) (w : Kept) (t c : ℕ) (m : Merge) → (StageHolds F (enter_merge t c m w.columns) × KeptHolds F (record w { columns = stay_merge t c m w.columns })) ↔ (Unit {0} × KeptHolds F w)
merge_holds F w t c (merge.waiting n m) = (
  (λ a. (tt, record { products = a.1.products; columns = all_parts (ColumnHolds F) (is_on t c) w.columns a.0 a.1.columns; bits = a.1.bits; packed = a.1.packed })),
  (λ a. (all_kept (ColumnHolds F) (is_on t c) w.columns a.1.columns, record { products = a.1.products; columns = all_kept (ColumnHolds F) (is_off t c) w.columns a.1.columns; bits = a.1.bits; packed = a.1.packed })),
)
merge_holds F w t c (merge.opening t' c' n ds) = same F w
merge_holds F w t c (merge.summed s) = same F w

linear_holds : (F : Filling) (w : Kept) (l : Linear) → LinearFits F l → KeptFits F w → (StageHolds F (enter_linear l w.columns) × KeptHolds F (record w { columns = stay_linear l w.columns })) ↔ (Unit {0} × KeptHolds F w)
linear_holds F w (linear.waiting f) h k = one_holds F w f.table f.column f.vars (λ c. Combines (linear.stated f c)) h.0 (λ d on. ((λ a. a), (λ a. a))) k
linear_holds F w (linear.stated f c) h k = same F w
linear_holds F w (linear.told cs) h k = same F w

project_holds : Meanings → (F : Filling) (w : Kept) (p : Project) → ProjectFits F p → KeptFits F w → (StageHolds F (enter_project p w.columns) × KeptHolds F (record w { columns = stay_project p w.columns })) ↔ (Unit {0} × KeptHolds F w)
project_holds laws F w (project.waiting p) h k = one_holds F w p.table p.column p.vars (λ c. Claimed (projected_claim p c)) h.0 (λ d on. (laws.projects F p d h.1 on).1) k
project_holds laws F w (project.closed c) h k = same F w

pack_holds : (F : Filling) (w : Kept) (p : Pack) → PackFits F p → KeptFits F w → (StageHolds F (enter_pack p w.columns) × KeptHolds F (record w { columns = stay_pack p w.columns })) ↔ (Unit {0} × KeptHolds F w)
pack_holds F w (pack.waiting f) h k = one_holds F w f.table f.column f.vars (λ c. Packs (pack.stated f c)) h.0 (λ d on. ((λ a. a), (λ a. a))) k
pack_holds F w (pack.stated f c) h k = same F w
pack_holds F w (pack.listed f z prefix v n) h k = same F w
pack_holds F w (pack.closed c) h k = same F w

shift_holds : Meanings → (F : Filling) (w : Kept) (s : Shift) → ShiftFits F s → KeptFits F w → (StageHolds F (enter_shift s w.columns) × KeptHolds F (record w { columns = stay_shift s w.columns })) ↔ (Unit {0} × KeptHolds F w)
shift_holds laws F w (shift.waiting s) h k = one_holds F w s.table s.column s.vars (λ c. Shifts (stated_sum s c)) h.0 (λ d on. (laws.shifts F s d h.1 on).1) k
shift_holds laws F w (shift.summed s) h k = same F w

bits_hold : (F : Filling) (w : Kept) (b : Batching) → (StageHolds F (enter_bits b w.columns) × KeptHolds F (record w { columns = stay_bits b w.columns })) ↔ (Unit {0} × KeptHolds F w)
bits_hold F w (batch.waiting bs m) = (
  (λ a. (tt, record { products = a.1.products; columns = all_parts (ColumnHolds F) (has_block bs) w.columns (ordered_all (ColumnHolds F) (filter (has_block bs) w.columns) a.0) a.1.columns; bits = a.1.bits; packed = a.1.packed })),
  (λ a. (
    all_ordered (ColumnHolds F) (filter (has_block bs) w.columns) (all_kept (ColumnHolds F) (has_block bs) w.columns a.1.columns),
    record { products = a.1.products; columns = all_kept (ColumnHolds F) (has_no_block bs) w.columns a.1.columns; bits = a.1.bits; packed = a.1.packed },
  )),
)
bits_hold F w (batch.opening bs cs) = same F w
bits_hold F w (batch.summed s) = same F w

pub enter_holds : Meanings → (F : Filling) (g : Stage) (w : Kept) → WaitingFits F g → KeptFits F w → (StageHolds F (entered g w) × KeptHolds F (staying g w)) ↔ (Waits F g × KeptHolds F w)
enter_holds laws F Start w h k = same F w
enter_holds laws F (Channels b) w h k = ((λ a. a), (λ a. a))
enter_holds laws F (Flush d) w h k = flush_holds laws F w w.products k.products
enter_holds laws F (Constraints z) w h k = ((λ a. a), (λ a. a))
enter_holds laws F (Merges m) w h k = merge_holds F w m.table m.column m.walk
enter_holds laws F (Combines l) w h k = linear_holds F w l h k
enter_holds laws F (Projects p) w h k = project_holds laws F w p h k
enter_holds laws F (Claimed c) w h k = same F w
enter_holds laws F (Packs p) w h k = pack_holds F w p h k
enter_holds laws F (Shifts s) w h k = shift_holds laws F w s h k
enter_holds laws F (Bits b) w h k = bits_hold F w b
enter_holds laws F (Words s) w h k = switch_is_true F w w.bits k.bits
enter_holds laws F (Switch s) w h k = same F w
