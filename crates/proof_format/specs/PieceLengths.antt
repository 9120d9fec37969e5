-- What the pieces of a proof's file come to.
-- Source: docs/PROOF.md, "The bytes".
use Rattle.std.specs.Prelude.{◌≡◌, ℕ, List}
use Rattle.proof_plan.specs.declared.plan_entry.PlanEntry.{PlanEntry}
use Rattle.proof_plan.specs.Sizes.{entries_length}
use Rattle.proof_format.specs.Pieces.{lengths, pieces}

-- they are as long as the entries, whatever number the first entry has
abbrev pub PiecesAreAsLong : Type 0
PiecesAreAsLong = (m e : ℕ) (es : List PlanEntry) → lengths (pieces m e es) ≡ entries_length m es
