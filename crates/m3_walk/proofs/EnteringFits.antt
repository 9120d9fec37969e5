-- A reduction that is entered fits, and so does what stays, where it and all that waited did.
use Rattle.std.proofs.Common.{◌≡◌, ℕ, List, [], ◌∷◌, length}
use Rattle.std.specs.List.{AllByRecursion, filter}
use Rattle.sumcheck.specs.declared.column_claim.ColumnClaim.{ColumnClaim}
use Rattle.sumcheck.specs.Column.{ColumnFits}
use Rattle.sumcheck.specs.Machine.{Filling}
use Rattle.channel_products.specs.Descent.{HasRows, ProductsAreMeant}
use Rattle.eval_reduce.specs.Linear as linear
use Rattle.eval_reduce.specs.Linear.{Linear}
use Rattle.eval_reduce.specs.Merge as merge
use Rattle.eval_reduce.specs.Merge.{Merge}
use Rattle.eval_reduce.specs.Pack as pack
use Rattle.eval_reduce.specs.Pack.{Pack}
use Rattle.eval_reduce.specs.Project as project
use Rattle.eval_reduce.specs.Project.{Project, ProjectsKeepTruth, projected_claim}
use Rattle.eval_reduce.specs.Shift as shift
use Rattle.eval_reduce.specs.Shift.{Shift, ShiftsKeepTruth, stated_sum}
use Rattle.bit_claim.specs.Batching as batch
use Rattle.bit_claim.specs.Batching.{Batching, BitValue}
use Rattle.bit_claim.specs.Bits.{Stands}
use Rattle.m3_walk.specs.declared.stage.Stage.{Stage}
use Rattle.m3_walk.specs.declared.stage.Stage.TheVariants.{Start, Channels, Flush, Constraints, Merge as Merges, Linear as Combines, Project as Projects, Claimed, Pack as Packs, Shift as Shifts, Bits, Words, Switch}
use Rattle.claim_lists.specs.OnColumn.{is_off, is_on}
use Rattle.m3_walk.specs.declared.product.Product.{Product}
use Rattle.m3_walk.specs.Kept.{BitFits, Kept, KeptFits}
use Rattle.m3_walk.specs.Linking.{BitsFit, LinearFits, MergeFits, PackFits, ProjectFits, ShiftFits, WaitingFits, but_first, enter_bits, enter_linear, enter_merge, enter_pack, enter_project, enter_shift, entered, flush_with, has_block, has_no_block, stay_bits, stay_linear, stay_merge, stay_pack, stay_project, stay_shift, staying, switch_with}
use Rattle.m3_walk.specs.Stages.{StageFits}
use Rattle.m3_walk.proofs.Parts.{all_kept, all_ordered}
use Rattle.m3_walk.proofs.Taking.{all_passed, is_claim_on, one_fits}
use Rattle.m3_walk.proofs.WordSteps.{switch_fits}

-- what is known of products of flushes, and of claims on projected and shifted columns
pub record Meanings : Type 0 where
  pub products : ProductsAreMeant
  pub projects : ProjectsKeepTruth
  pub shifts : ShiftsKeepTruth

-- ---- each reduction
flush_fits : Meanings → (F : Filling) (w : Kept) (ps : List Product) → AllByRecursion (λ (p : Product). HasRows F p.flushed) ps → KeptFits F w → StageFits F (flush_with ps) × KeptFits F (record w { products = but_first ps })
flush_fits laws F w [] h k = (tt, record { products = tt; columns = k.columns; bits = k.bits })
flush_fits laws F w (p ∷ ps) h k =
    let meant = laws.products F p.flushed p.alpha p.gamma p.value h.0 in
    (meant.fits, record { products = h.1; columns = k.columns; bits = k.bits })

switch_is_fit : (F : Filling) (w : Kept) (bs : List BitValue) → AllByRecursion (BitFits F) bs → KeptFits F w → StageFits F (switch_with bs) × KeptFits F (record w { bits = but_first bs })
switch_is_fit F w [] h k = (tt, record { products = k.products; columns = k.columns; bits = tt })
switch_is_fit F w (b ∷ bs) h k = (switch_fits F b h.0, record { products = k.products; columns = k.columns; bits = h.1 })

merge_fits : (F : Filling) (w : Kept) (t c : ℕ) (m : Merge) → MergeFits F t c m → KeptFits F w → StageFits F (enter_merge t c m w.columns) × KeptFits F (record w { columns = stay_merge t c m w.columns })
merge_fits F w t c (merge.waiting n m) h k = (
  (
    h,
    all_passed (ColumnFits F) (λ (d : ColumnClaim). (d.table ≡ t) × ((d.column ≡ c) × (length d.point ≡ n))) (is_on t c)
        (λ d on fit. let here = is_claim_on F t c n d h on fit in (here.table_is, (here.column_is, here.long))) w.columns k.columns,
  ),
  record { products = k.products; columns = all_kept (ColumnFits F) (is_off t c) w.columns k.columns; bits = k.bits },
)
merge_fits F w t c (merge.opening t' c' n ds) h k = (tt, k)
merge_fits F w t c (merge.summed s) h k = (tt, k)

linear_fits : (F : Filling) (w : Kept) (l : Linear) → LinearFits F l → KeptFits F w → StageFits F (enter_linear l w.columns) × KeptFits F (record w { columns = stay_linear l w.columns })
linear_fits F w (linear.waiting f) h k = one_fits F w f.table f.column f.vars (λ c. Combines (linear.stated f c)) h.0 (λ d on. h.1 d on.table_is on.column_is on.long) k
linear_fits F w (linear.stated f c) h k = (tt, k)
linear_fits F w (linear.told cs) h k = (tt, k)

project_fits : Meanings → (F : Filling) (w : Kept) (p : Project) → ProjectFits F p → KeptFits F w → StageFits F (enter_project p w.columns) × KeptFits F (record w { columns = stay_project p w.columns })
project_fits laws F w (project.waiting p) h k = one_fits F w p.table p.column p.vars (λ c. Claimed (projected_claim p c)) h.0 (λ d on. (laws.projects F p d h.1 on).0) k
project_fits laws F w (project.closed c) h k = (tt, k)

pack_fits : (F : Filling) (w : Kept) (p : Pack) → PackFits F p → KeptFits F w → StageFits F (enter_pack p w.columns) × KeptFits F (record w { columns = stay_pack p w.columns })
pack_fits F w (pack.waiting f) h k = one_fits F w f.table f.column f.vars (λ c. Packs (pack.stated f c)) h.0 (λ d on. h.1 d on.table_is on.column_is on.long) k
pack_fits F w (pack.stated f c) h k = (tt, k)
pack_fits F w (pack.listed f z prefix v n) h k = (tt, k)
pack_fits F w (pack.closed c) h k = (tt, k)

shift_fits : Meanings → (F : Filling) (w : Kept) (s : Shift) → ShiftFits F s → KeptFits F w → StageFits F (enter_shift s w.columns) × KeptFits F (record w { columns = stay_shift s w.columns })
shift_fits laws F w (shift.waiting s) h k = one_fits F w s.table s.column s.vars (λ c. Shifts (stated_sum s c)) h.0 (λ d on. (laws.shifts F s d h.1 on).0) k
shift_fits laws F w (shift.summed s) h k = (tt, k)

bits_fit : (F : Filling) (w : Kept) (b : Batching) → BitsFit F b → KeptFits F w → StageFits F (enter_bits b w.columns) × KeptFits F (record w { columns = stay_bits b w.columns })
bits_fit F w (batch.waiting bs m) h k = (
  (h.0, all_ordered (Stands F bs) (filter (has_block bs) w.columns) (all_passed (ColumnFits F) (Stands F bs) (has_block bs) h.1 w.columns k.columns)),
  record { products = k.products; columns = all_kept (ColumnFits F) (has_no_block bs) w.columns k.columns; bits = k.bits },
)
bits_fit F w (batch.opening bs cs) h k = (tt, k)
bits_fit F w (batch.summed s) h k = (tt, k)

pub enter_fits : Meanings → (F : Filling) (g : Stage) (w : Kept) → WaitingFits F g → KeptFits F w → StageFits F (entered g w) × KeptFits F (staying g w)
enter_fits laws F Start w h k = (tt, k)
enter_fits laws F (Channels b) w h k = (h, k)
enter_fits laws F (Flush d) w h k = flush_fits laws F w w.products k.products k
enter_fits laws F (Constraints z) w h k = (h, k)
enter_fits laws F (Merges m) w h k = merge_fits F w m.table m.column m.walk h k
enter_fits laws F (Combines l) w h k = linear_fits F w l h k
enter_fits laws F (Projects p) w h k = project_fits laws F w p h k
enter_fits laws F (Claimed c) w h k = (tt, k)
enter_fits laws F (Packs p) w h k = pack_fits F w p h k
enter_fits laws F (Shifts s) w h k = shift_fits laws F w s h k
enter_fits laws F (Bits b) w h k = bits_fit F w b h k
enter_fits laws F (Words s) w h k = switch_is_fit F w w.bits k.bits k
enter_fits laws F (Switch s) w h k = (tt, k)
