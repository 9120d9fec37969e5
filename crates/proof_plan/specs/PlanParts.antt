-- A plan as contracts see it.
-- Source: docs/PROOF.md, "The plan".
use Rattle.std.specs.Prelude.{ℕ, List}
use Rattle.proof_plan.specs.declared.plan_entry.PlanEntry.{PlanEntry}

pub record PlanParts : Type 0 where
  pub entries : List PlanEntry
  pub tables : ℕ
  -- the packed table has 2 ^ packed_log words
  pub packed_log : ℕ
