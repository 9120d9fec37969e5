-- Steps of the walk.
use Rattle.std.proofs.Common.{◌≡◌, ℕ, zero, suc, ◌<◌, List, [], ◌∷◌, length, get_or, Option, None, Some, arith}
use Rattle.std.specs.List.{AllByRecursion}
use Rattle.sumcheck.specs.declared.column_claim.ColumnClaim.{ColumnClaim}
use Rattle.sumcheck.specs.Machine.{AwaitsDraw}
use Rattle.sumcheck.specs.Rounds.{Rounds, DrawIsDue}
use Rattle.sumcheck.proofs.Lawful.{draw_due}
use Rattle.table_shape.specs.Placement.{Block}
use Rattle.bit_claim.specs.declared.bit_walk.Stage.{Stage}
use Rattle.bit_claim.specs.declared.bit_walk.Stage.TheVariants.{Waiting, Opening, Adding}
use Rattle.bit_claim.specs.Batching.{Batched, Batching, BitValue, batch_sum, batching_entries}
use Rattle.bit_claim.specs.Bits.{IsPlaced}
use Rattle.bit_claim.specs.BitWalk.{batching_of}

pub placed_at_index : (bs : List Block) (cs : List ColumnClaim) (i : ℕ) (c : ColumnClaim) → i < length cs → c ≡ get_or cs i c → AllByRecursion (IsPlaced bs) cs → IsPlaced bs c
placed_at_index bs [] i c l e h = absurd (omega arith)
placed_at_index bs (x ∷ cs) zero c l e h = rw e h.0
placed_at_index bs (x ∷ cs) (suc i) c l e h = placed_at_index bs cs i c (omega arith) e h.1

at_stage : (g : Stage) (t : Batched) (r : Rounds) (o : Option BitValue) (m : ℕ) → g ≡ Adding → AwaitsDraw (batching_entries (batching_of g t r o m)) → DrawIsDue r
at_stage Waiting t r None m e h = absurd (cc)
at_stage Opening t r None m e h = absurd (cc)
at_stage Adding t r None m e h = draw_due batch_sum t r h
at_stage Waiting t r (Some c) m e h = absurd h
at_stage Opening t r (Some c) m e h = absurd h
at_stage Adding t r (Some c) m e h = absurd h

pub bind_due : (g : Stage) (t : Batched) (r : Rounds) (o : Option BitValue) (m : ℕ) (s : Batching) → batching_of g t r o m ≡ s → g ≡ Adding → AwaitsDraw (batching_entries s) → DrawIsDue r
bind_due g t r o m s v e h = at_stage g t r o m e (rw v h)
