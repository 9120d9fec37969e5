-- The prover of a shifted column beside its walk, whatever value is claimed.
-- Source: docs/REDUCTIONS.md, "Shifted columns".
use Rattle.std.specs.Prelude.{◌≡◌, ◌≤◌, ◌<◌, ◌^◌, [], length, Option, None, Some}
use Rattle.sumcheck.specs.declared.summand.Pair.{Pair}
use Rattle.sumcheck.specs.Machine.{Filling}
use Rattle.sumcheck.specs.Proving.{Proving}
use Rattle.sumcheck.specs.Rounds.{sum_claim, with_claim}
use Rattle.sumcheck.specs.Summing.{adding, closed}
use Rattle.eval_reduce.specs.Ending.{Ending, GoesOn, Tells, untold}
use Rattle.eval_reduce.specs.declared.shift_prover.ShiftProver.{ShiftProver}
use Rattle.eval_reduce.specs.Shift.{Shift, Shifted, shifted_sum, source_of, summed, waiting}

-- a prover that was given no claim yet
pub record IsNewShifter (p : ShiftProver) : Type 0 where
  pub empty : p.point.items ≡ []
  pub none : p.sum ≡ None
  pub ending : p.ending ≡ untold p.shifting.table p.shifting.source p.shifting.vars

-- the prover holds the source and the point
pub record HoldsBlock (p : ShiftProver) (F : Filling) (t : Shifted) : Type 0 where
  pub small : p.shifting.block ≤ 7
  pub within : p.shifting.offset < 2 ^ p.shifting.block
  pub same : p.shifting ≡ t.shifting
  pub source : p.source.items ≡ source_of F t.shifting
  pub at : p.point.items ≡ t.point
  pub block : t.shifting.block ≤ length t.point
  pub all : length t.point ≡ t.shifting.vars
  pub long : length (source_of F t.shifting) ≡ 2 ^ length t.point

-- the ending before the sum's first draw
abbrev pub on_source : Shifted → Ending
on_source t = untold t.shifting.table t.shifting.source t.shifting.vars

abbrev pub FollowsBlock : ShiftProver → Option (Proving Pair) → Filling → Shift → Type 0
FollowsBlock p q F (waiting s) = ⊥
FollowsBlock p None F (summed (adding t r)) = ((with_claim 0 r ≡ sum_claim 2 t.shifting.block [] 0) × (p.ending ≡ on_source t)) × HoldsBlock p F t
FollowsBlock p None F (summed (closed c)) = ⊥
FollowsBlock p (Some q) F (summed (adding t r)) = GoesOn q p.ending (shifted_sum F t) (on_source t) t.shifting.block r × HoldsBlock p F t
FollowsBlock p (Some q) F (summed (closed c)) = Tells p.ending F c

abbrev pub FollowsShift : ShiftProver → Filling → Shift → Type 0
FollowsShift p F s = FollowsBlock p p.sum F s
