-- What each plan keeps: few entries, each with small numbers, so that its sums fit into 64 bits.
-- Source: docs/PROOF.md, "The plan".
use Rattle.std.specs.Prelude.{ℕ, ◌≤◌, ◌^◌, length}
use Rattle.std.specs.List.{AllByRecursion}
use Rattle.table_shape.specs.Limits.{max_size_log, max_tables}
use Rattle.proof_plan.specs.declared.plan_entry.PlanEntry.{PlanEntry}
use Rattle.proof_plan.specs.declared.plan_entry.PlanEntry.TheVariants.{Root, Message, Draw, Constant, Queries}
use Rattle.proof_plan.specs.PlanParts.{PlanParts}

-- the most values of a message: a product for each flush
abbrev pub max_message : ℕ
max_message = 4096

abbrev pub max_count : ℕ
max_count = 2 ^ 38

abbrev pub max_entries : ℕ
max_entries = 2 ^ 25

abbrev pub EntryIsSmall : PlanEntry → Type 0
EntryIsSmall Root = Unit {0}
EntryIsSmall (Message check n) = n ≤ max_message
EntryIsSmall (Draw kind n) = n ≤ max_count
EntryIsSmall Constant = Unit {0}
EntryIsSmall Queries = Unit {0}

pub record PlanFits (p : PlanParts) : Type 0 where
  pub few : length p.entries ≤ max_entries
  pub small : AllByRecursion EntryIsSmall p.entries
  pub few_tables : p.tables ≤ max_tables
  pub packed : p.packed_log ≤ max_size_log
