-- The reductions of a proof as a chain: what one leaves is what the next takes.
-- Source: docs/PROOF.md, "The reductions of a proof" and "The claims that wait".
use Rattle.std.specs.Prelude.{◌≤◌, ◌^◌, List, length}
use Rattle.walk_chain.specs.Chain.{Chain}
use Rattle.channel_products.specs.Balancing as balance
use Rattle.zerocheck.specs.Zero as zero
use Rattle.eval_reduce.specs.Linear as linear
use Rattle.eval_reduce.specs.Linear.{Linear}
use Rattle.eval_reduce.specs.Pack as pack
use Rattle.eval_reduce.specs.Pack.{Pack}
use Rattle.eval_reduce.specs.Project as project
use Rattle.eval_reduce.specs.Project.{Project}
use Rattle.eval_reduce.specs.Shift as shift
use Rattle.eval_reduce.specs.Shift.{Shift}
use Rattle.m3_walk.specs.declared.stage.Stage.{Stage}
use Rattle.m3_walk.specs.declared.stage.Stage.TheVariants.{Start, Channels, Flush, Constraints, Merge as Merges, Linear as Combines, Project as Projects, Claimed, Pack as Packs, Shift as Shifts, Bits, Words, Switch}
use Rattle.m3_walk.specs.Kept.{Kept, KeptFits, KeptHolds, kept_claims}
use Rattle.m3_walk.specs.Linking.{IsFor, IsOne, Place, Sizes, TakesBits, TakesMerge, TakesWords, WaitingFits, Waits, entered, left, plan_with, sizes, sizes_after, sizes_left, staying, waiting_claims}
use Rattle.m3_walk.specs.Stages.{staged}

-- ---- a reduction can be entered with claims of these sizes
-- one claim is on its column, at a point with a coordinate for each variable
abbrev pub TakesLinear : Linear → List Place → Type 0
TakesLinear (linear.waiting f) ps = IsOne f.table f.column f.vars ps
TakesLinear (linear.stated f c) ps = ⊥
TakesLinear (linear.told cs) ps = ⊥

abbrev pub TakesProject : Project → List Place → Type 0
TakesProject (project.waiting p) ps = IsOne p.table p.column p.vars ps
TakesProject (project.closed c) ps = ⊥

abbrev pub TakesPack : Pack → List Place → Type 0
TakesPack (pack.waiting f) ps = IsOne f.table f.column f.vars ps
TakesPack (pack.stated f c) ps = ⊥
TakesPack (pack.listed f z prefix v n) ps = ⊥
TakesPack (pack.closed c) ps = ⊥

abbrev pub TakesShift : Shift → List Place → Type 0
TakesShift (shift.waiting s) ps = IsOne s.table s.column s.vars ps
TakesShift (shift.summed s) ps = ⊥

abbrev pub Takes : Stage → Sizes → Type 0
Takes Start k = ⊥
Takes (Channels b) k = balance.IsWaiting b
Takes (Flush d) k = IsFor d k.products
Takes (Constraints z) k = zero.IsWaiting z
Takes (Merges m) k = TakesMerge m.table m.column m.walk k.columns
Takes (Combines l) k = TakesLinear l k.columns
Takes (Projects p) k = TakesProject p k.columns
Takes (Claimed c) k = ⊥
Takes (Packs p) k = TakesPack p k.columns
Takes (Shifts s) k = TakesShift s k.columns
Takes (Bits b) k = TakesBits b k.columns
Takes (Words s) k = TakesWords s k.bits
Takes (Switch s) k = ⊥

-- there is memory for what waits
pub record HasRoom (k : Sizes) : Type 0 where
  pub products : length k.products ≤ k.room
  pub columns : length k.columns ≤ k.room
  pub bits : length k.bits ≤ 1
  pub packed : length k.packed ≤ 1

-- ---- the chain
abbrev pub linking : Chain Stage Kept Sizes
linking = record {
  walk = staged;
  key = sizes;
  kept_fits = KeptFits;
  kept_holds = KeptHolds;
  kept_pending = kept_claims;
  stage_fits = WaitingFits;
  waits = Waits;
  stage_pending = waiting_claims;
  enter = entered;
  stays = staying;
  leaves = left;
  plan = plan_with;
  left_key = sizes_left;
  key_after = sizes_after;
  takes = Takes;
  has_room = HasRoom;
}
