-- What is made before the first entry of a proof is read, and why nothing is made.
-- Source: docs/PROOF.md, "The verdict".
use Rattle.std.specs.Prelude.{◌≡◌, ◌≤◌, ℕ, List, length, Err}
use Rattle.sumcheck.specs.Machine.{Machine}
use Rattle.table_shape.specs.Limits.{max_size_log}
use Rattle.table_shape.specs.Parts.{ShapeParts}
use Rattle.table_shape.specs.Size.{size_log}
use Rattle.proof_plan.specs.declared.plan_entry.PlanEntry.{PlanEntry}
use Rattle.proof_plan.specs.Plan.{packed_log, plan}
use Rattle.proof_plan.specs.PlanParts.{PlanParts}
use Rattle.walk_chain.specs.Chain.{Chained, chained}
use Rattle.m3_walk.specs.declared.stage.Stage.{Stage}
use Rattle.m3_walk.specs.Course.{walked}
use Rattle.m3_walk.specs.Kept.{Kept}
use Rattle.m3_walk.specs.Linked.{linking}
use Rattle.m3_verifier.specs.declared.verify_stop.VerifyStop.{VerifyStop}
use Rattle.m3_verifier.specs.Verdict.{Answers, first_state, verdict_on_rows}

-- what is due of the reductions are the messages and draws of these entries
unfoldable pub AreDue : {S : Type 0} → Machine S → List PlanEntry → S → Type 0
AreDue M es s = walked es ≡ M.entries s

-- the plan of these rows
unfoldable pub IsPlan : ShapeParts → List ℕ → PlanParts → Type 0
IsPlan shape rows p = (p ≡ record { entries = plan shape rows; tables = length shape.tables; packed_log = packed_log shape rows }) × (size_log shape.tables rows ≤ max_size_log)

-- the reductions of these rows before any message
unfoldable pub IsFirst : ShapeParts → List ℕ → Chained Stage Kept → Type 0
IsFirst shape rows s = (s ≡ first_state shape rows) × (walked (plan shape rows) ≡ (chained linking).entries s)

-- nothing is made for so many rows: they are too large, or there is no memory
unfoldable pub StopsForRows : ShapeParts → List ℕ → VerifyStop → Type 0
StopsForRows shape rows stop = (file : List ℕ) → Answers (verdict_on_rows shape rows file) (Err stop)
