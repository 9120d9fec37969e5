-- The items of a proof after its head, in order, up to the first that fails.
-- Source: docs/PROOF.md, "The verdict".
use Rattle.std.specs.Prelude.{ℕ, suc, ◌*◌, List, [], ◌∷◌, ◌++◌, Option, None, Some, Result, Ok, Err}
use Rattle.poly_forms.specs.declared.draw_kind.DrawKind.{DrawKind}
use Rattle.sumcheck.specs.declared.refused.Refused.{Refused}
use Rattle.sumcheck.specs.Machine.{AwaitsDraw, AwaitsMessage, Machine}
use Rattle.proof_plan.specs.declared.plan_entry.PlanEntry.{PlanEntry}
use Rattle.proof_plan.specs.declared.plan_entry.PlanEntry.TheVariants.{Root, Message, Draw, Constant, Queries}
use Rattle.proof_plan.specs.Sizes.{query_count}
use Rattle.m3_verifier.specs.declared.halt.Halt.{Halt}
use Rattle.m3_verifier.specs.declared.halt.Halt.TheVariants.{Refused as Refuses}
use Rattle.m3_verifier.specs.declared.halt.Stopped.{Stopped}
use Rattle.m3_verifier.specs.Progress.{Progress, after_challenge, after_constant, after_root, after_said, challenge, message_tag, said}
use Rattle.m3_verifier.specs.Queries.{Words, after_draws, or_halt, queries, short}

-- ---- an entry
-- a check that fails
abbrev pub refused : Option Refused → Option Halt
refused None = None
refused (Some r) = Some (Refuses r)

abbrev pub words_of : {S : Type 0} → Progress S → Words
words_of p = record { rounds = p.rounds; roots = p.roots; folds = p.folds; constant = p.constant }

abbrev pub all_queries : {S : Type 0} → Progress S → Result (List ℕ) Halt
all_queries p = queries (words_of p) query_count 0 p.transcript p.bytes

abbrev pub halt_of : Result (List ℕ) Halt → Option Halt
halt_of (Ok bytes) = None
halt_of (Err h) = Some h

abbrev pub left_of : Result (List ℕ) Halt → List ℕ
left_of (Ok bytes) = bytes
left_of (Err h) = []

-- a message of n values: whole, and then right
abbrev pub message_halt : {S : Type 0} → Machine S → ℕ → Progress S → Option Halt
message_halt M n p = or_halt (short (16 * n) p.bytes) (refused (M.refusal p.state (said n p)))

-- why the reading halts at an entry: it isn't whole, or else its check fails
abbrev pub entry_halt : {S : Type 0} → Machine S → PlanEntry → Progress S → Option Halt
entry_halt M Root p = short 32 p.bytes
entry_halt M (Message check n) p = message_halt M n p
entry_halt M (Draw kind n) p = None
entry_halt M Constant p = message_halt M 1 p
entry_halt M Queries p = halt_of (all_queries p)

abbrev pub after_entry : {S : Type 0} → Machine S → PlanEntry → Progress S → Progress S
after_entry M Root p = after_root p
after_entry M (Message check n) p = after_said M message_tag n p
after_entry M (Draw kind n) p = after_challenge M kind p
after_entry M Constant p = after_constant M p
after_entry M Queries p = record p { transcript = after_draws query_count p.transcript; bytes = left_of (all_queries p) }

-- ---- all of them
-- a draw that is reached, and the state before it
pub record Reached (S : Type 0) : Type 0 where
  pub entry : ℕ
  pub kind : DrawKind
  pub count : ℕ
  pub before : S
  pub challenge : ℕ

abbrev pub draws_at : {S : Type 0} → PlanEntry → ℕ → Progress S → List (Reached S)
draws_at (Draw kind n) i p = record { entry = i; kind = kind; count = n; before = p.state; challenge = challenge p } ∷ []
draws_at _ i p = []

-- where the reading ends: the entry that halts it, the draws that were reached, and how far it came. An entry that halts leaves all as it was
pub record Ending (S : Type 0) : Type 0 where
  pub stopped : Option Stopped
  pub reached : List (Reached S)
  pub last : Progress S

abbrev pub stops_at : {S : Type 0} → ℕ → Option Halt → Progress S → Ending S → Ending S
stops_at i None p next = next
stops_at i (Some h) p next = record { stopped = Some (record { entry = i; halt = h }); reached = []; last = p }

abbrev pub with_draws : {S : Type 0} → List (Reached S) → Ending S → Ending S
with_draws draws e = record { stopped = e.stopped; reached = draws ++ e.reached; last = e.last }

-- the entries from number i on
unfoldable pub reading : {S : Type 0} → Machine S → List PlanEntry → ℕ → Progress S → Ending S
reading M [] i p = record { stopped = None; reached = []; last = p }
reading M (e ∷ es) i p = stops_at i (entry_halt M e p) p (with_draws (draws_at e i p) (reading M es (suc i) (after_entry M e p)))

-- ---- what is due of the reductions at an entry
abbrev pub IsDue : {S : Type 0} → Machine S → PlanEntry → S → Type 0
IsDue M (Message check n) s = AwaitsMessage n (M.entries s)
IsDue M (Draw kind n) s = AwaitsDraw (M.entries s)
IsDue M Constant s = AwaitsMessage 1 (M.entries s)
IsDue M Root s = Unit {0}
IsDue M Queries s = Unit {0}
