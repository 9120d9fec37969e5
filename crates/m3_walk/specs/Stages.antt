-- The reductions of a proof as one machine: what each of them is, in any of its states.
-- Source: docs/PROOF.md, "The reductions of a proof".
use Rattle.std.specs.Prelude.{ℕ, ◌-◌, ◌^◌, List, [], ◌∷◌, Option, None}
use Rattle.std.specs.List.{AllByRecursion}
use Rattle.tensor_laws.specs.Switch.{packed_bits}
use Rattle.sumcheck.specs.declared.entry.Entry.{Entry}
use Rattle.sumcheck.specs.declared.refused.Refused.{Refused}
use Rattle.sumcheck.specs.Claim.{Claim, column_value}
use Rattle.sumcheck.specs.Column.{ColumnFits, ColumnHolds}
use Rattle.sumcheck.specs.Machine.{Filling, Machine}
use Rattle.table_shape.specs.Placement.{Block, places_log}
use Rattle.channel_products.specs.declared.flushed.Flushed.{Flushed}
use Rattle.channel_products.specs.Balancing.{Balancing, balancing, collapsing, multiplying, stated, told, waiting}
use Rattle.channel_products.specs.Descent.{HasRows, descent}
use Rattle.zerocheck.specs.Zero.{zerocheck}
use Rattle.eval_reduce.specs.Linear.{linear_step}
use Rattle.eval_reduce.specs.Merge.{merge}
use Rattle.eval_reduce.specs.Pack.{pack}
use Rattle.eval_reduce.specs.Shift.{shift}
use Rattle.bit_claim.specs.Batching.{batching}
use Rattle.bit_claim.specs.Bits.{bits}
use Rattle.ring_switch.specs.Switching.{switching}
use Rattle.m3_walk.specs.declared.stage.Stage.{Stage}
use Rattle.m3_walk.specs.declared.stage.Stage.TheVariants.{Start, Channels, Flush, Constraints, Merge, Linear, Project, Claimed, Pack, Shift, Bits, Words, Switch}

-- ---- the packed table
-- the words of the table of all bits of a filling, 128 bits each
abbrev pub words : Filling → List Block → List ℕ
words F bs = packed_bits (2 ^ (places_log bs - 7)) 128 (bits F bs)

-- a filling that has these words in every column: the ring switch asks a filling for them alone
abbrev pub packed_filling : List Block → Filling → Filling
packed_filling bs F = λ t c. words F bs

-- ---- the flushes of channels
abbrev pub flushes_in : Balancing → List Flushed
flushes_in (waiting ch) = ch.flushes
flushes_in (stated ch) = ch.flushes
flushes_in (collapsing ch a) = ch.flushes
flushes_in (multiplying ch a g) = ch.flushes
flushes_in (told ch a g v) = ch.flushes

-- ---- the machine
abbrev pub stage_entries : Stage → List Entry
stage_entries Start = []
stage_entries (Channels w) = balancing.entries w
stage_entries (Flush w) = descent.entries w
stage_entries (Constraints w) = zerocheck.entries w
stage_entries (Merge m) = merge.entries m.walk
stage_entries (Linear w) = linear_step.entries w
stage_entries (Project w) = []
stage_entries (Claimed c) = []
stage_entries (Pack w) = pack.entries w
stage_entries (Shift w) = shift.entries w
stage_entries (Bits w) = batching.entries w
stage_entries (Words w) = []
stage_entries (Switch s) = switching.entries s.walk

abbrev pub stage_refusal : Stage → List ℕ → Option Refused
stage_refusal Start v = None
stage_refusal (Channels w) v = balancing.refusal w v
stage_refusal (Flush w) v = descent.refusal w v
stage_refusal (Constraints w) v = zerocheck.refusal w v
stage_refusal (Merge m) v = merge.refusal m.walk v
stage_refusal (Linear w) v = linear_step.refusal w v
stage_refusal (Project w) v = None
stage_refusal (Claimed c) v = None
stage_refusal (Pack w) v = pack.refusal w v
stage_refusal (Shift w) v = shift.refusal w v
stage_refusal (Bits w) v = batching.refusal w v
stage_refusal (Words w) v = None
stage_refusal (Switch s) v = switching.refusal s.walk v

abbrev pub stage_message : Stage → List ℕ → Stage
stage_message Start v = Start
stage_message (Channels w) v = Channels (balancing.after_message w v)
stage_message (Flush w) v = Flush (descent.after_message w v)
stage_message (Constraints w) v = Constraints (zerocheck.after_message w v)
stage_message (Merge m) v = Merge (record m { walk = merge.after_message m.walk v })
stage_message (Linear w) v = Linear (linear_step.after_message w v)
stage_message (Project w) v = Project w
stage_message (Claimed c) v = Claimed c
stage_message (Pack w) v = Pack (pack.after_message w v)
stage_message (Shift w) v = Shift (shift.after_message w v)
stage_message (Bits w) v = Bits (batching.after_message w v)
stage_message (Words w) v = Words w
stage_message (Switch s) v = Switch (record s { walk = switching.after_message s.walk v })

abbrev pub stage_draw : Stage → ℕ → Stage
stage_draw Start r = Start
stage_draw (Channels w) r = Channels (balancing.after_draw w r)
stage_draw (Flush w) r = Flush (descent.after_draw w r)
stage_draw (Constraints w) r = Constraints (zerocheck.after_draw w r)
stage_draw (Merge m) r = Merge (record m { walk = merge.after_draw m.walk r })
stage_draw (Linear w) r = Linear (linear_step.after_draw w r)
stage_draw (Project w) r = Project w
stage_draw (Claimed c) r = Claimed c
stage_draw (Pack w) r = Pack (pack.after_draw w r)
stage_draw (Shift w) r = Shift (shift.after_draw w r)
stage_draw (Bits w) r = Bits (batching.after_draw w r)
stage_draw (Words w) r = Words w
stage_draw (Switch s) r = Switch (record s { walk = switching.after_draw s.walk r })

abbrev pub stage_pending : Stage → List Claim
stage_pending Start = []
stage_pending (Channels w) = balancing.pending w
stage_pending (Flush w) = descent.pending w
stage_pending (Constraints w) = zerocheck.pending w
stage_pending (Merge m) = merge.pending m.walk
stage_pending (Linear w) = linear_step.pending w
stage_pending (Project w) = []
stage_pending (Claimed c) = column_value c ∷ []
stage_pending (Pack w) = pack.pending w
stage_pending (Shift w) = shift.pending w
stage_pending (Bits w) = batching.pending w
stage_pending (Words w) = []
stage_pending (Switch s) = switching.pending s.walk

abbrev pub stage_round : Stage → Option ℕ
stage_round Start = None
stage_round (Channels w) = balancing.round_claim w
stage_round (Flush w) = descent.round_claim w
stage_round (Constraints w) = zerocheck.round_claim w
stage_round (Merge m) = merge.round_claim m.walk
stage_round (Linear w) = linear_step.round_claim w
stage_round (Project w) = None
stage_round (Claimed c) = None
stage_round (Pack w) = pack.round_claim w
stage_round (Shift w) = shift.round_claim w
stage_round (Bits w) = batching.round_claim w
stage_round (Words w) = None
stage_round (Switch s) = switching.round_claim s.walk

-- the columns of channels' flushes have a value for each row, which their products will ask for
abbrev pub StageFits : Filling → Stage → Type 0
StageFits F Start = Unit {0}
StageFits F (Channels w) = balancing.fits F w × AllByRecursion (HasRows F) (flushes_in w)
StageFits F (Flush w) = descent.fits F w
StageFits F (Constraints w) = zerocheck.fits F w
StageFits F (Merge m) = merge.fits F m.walk
StageFits F (Linear w) = linear_step.fits F w
StageFits F (Project w) = Unit {0}
StageFits F (Claimed c) = ColumnFits F c
StageFits F (Pack w) = pack.fits F w
StageFits F (Shift w) = shift.fits F w
StageFits F (Bits w) = batching.fits F w
StageFits F (Words w) = Unit {0}
StageFits F (Switch s) = switching.fits (packed_filling s.placement F) s.walk

abbrev pub StageHolds : Filling → Stage → Type 0
StageHolds F Start = Unit {0}
StageHolds F (Channels w) = balancing.holds F w
StageHolds F (Flush w) = descent.holds F w
StageHolds F (Constraints w) = zerocheck.holds F w
StageHolds F (Merge m) = merge.holds F m.walk
StageHolds F (Linear w) = linear_step.holds F w
StageHolds F (Project w) = Unit {0}
StageHolds F (Claimed c) = ColumnHolds F c
StageHolds F (Pack w) = pack.holds F w
StageHolds F (Shift w) = shift.holds F w
StageHolds F (Bits w) = batching.holds F w
StageHolds F (Words w) = Unit {0}
StageHolds F (Switch s) = switching.holds (packed_filling s.placement F) s.walk

abbrev pub stage_honest : Filling → Stage → List ℕ
stage_honest F Start = []
stage_honest F (Channels w) = balancing.honest F w
stage_honest F (Flush w) = descent.honest F w
stage_honest F (Constraints w) = zerocheck.honest F w
stage_honest F (Merge m) = merge.honest F m.walk
stage_honest F (Linear w) = linear_step.honest F w
stage_honest F (Project w) = []
stage_honest F (Claimed c) = []
stage_honest F (Pack w) = pack.honest F w
stage_honest F (Shift w) = shift.honest F w
stage_honest F (Bits w) = batching.honest F w
stage_honest F (Words w) = []
stage_honest F (Switch s) = switching.honest (packed_filling s.placement F) s.walk

abbrev pub staged : Machine Stage
staged = record {
  entries = stage_entries;
  refusal = stage_refusal;
  after_message = stage_message;
  after_draw = stage_draw;
  pending = stage_pending;
  round_claim = stage_round;
  fits = StageFits;
  holds = StageHolds;
  honest = stage_honest;
}
