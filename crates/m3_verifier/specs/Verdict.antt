-- What a file is judged to be as a proof of the tables of a shape.
-- Source: docs/PROOF.md, "The verdict".
use Rattle.std.specs.Prelude.{◌≡◌, ℕ, ◌+◌, ltb, cond, List, [], ◌∷◌, length, take, drop, Option, None, Some, Result, Ok, Err}
use Rattle.table_shape.specs.Limits.{max_size_log}
use Rattle.table_shape.specs.Parts.{ShapeParts}
use Rattle.table_shape.specs.Size.{size_log}
use Rattle.table_shape.specs.declared.size_stop.SizeStop.{SizeStop}
use Rattle.table_shape.specs.declared.size_stop.SizeStop.TheVariants as size
use Rattle.transcript.specs.Transcript.{after_absorb, start}
use Rattle.proof_plan.specs.declared.plan_entry.PlanEntry.{PlanEntry}
use Rattle.proof_plan.specs.Plan.{flush_count, packed_log, plan}
use Rattle.proof_plan.specs.Sizes.{draws, head_length, proof_length, total}
use Rattle.proof_format.specs.Head.{head_fault, head_rows}
use Rattle.proof_format.specs.declared.head_stop.HeadStop.{HeadStop}
use Rattle.proof_format.specs.declared.head_stop.HeadStop.TheVariants as head
use Rattle.proof_format.specs.declared.proof_fault.ProofFault.{ProofFault}
use Rattle.proof_format.specs.declared.proof_fault.ProofFault.TheVariants.{Short, Trailing}
use Rattle.walk_chain.specs.Chain.{Chained, chained, settle}
use Rattle.m3_walk.specs.declared.stage.Stage.{Stage}
use Rattle.m3_walk.specs.declared.stage.Stage.TheVariants.{Start}
use Rattle.m3_walk.specs.Course.{claim_count, course}
use Rattle.m3_walk.specs.Kept.{Kept, none_wait}
use Rattle.m3_walk.specs.Linked.{linking}
use Rattle.m3_verifier.specs.declared.halt.Halt.{Halt}
use Rattle.m3_verifier.specs.declared.halt.Halt.TheVariants as halt
use Rattle.m3_verifier.specs.declared.halt.Stopped.{Stopped}
use Rattle.m3_verifier.specs.declared.verified.Refusal.TheVariants.{Entry, Query}
use Rattle.m3_verifier.specs.declared.verified.Verified.{Verified}
use Rattle.m3_verifier.specs.declared.verified.Verified.TheVariants.{Accepted, Rejected}
use Rattle.m3_verifier.specs.declared.verify_stop.VerifyStop.{VerifyStop}
use Rattle.m3_verifier.specs.declared.verify_stop.VerifyStop.TheVariants.{Fault, NoMemory, ReadFault, TooLarge}
use Rattle.m3_verifier.specs.Progress.{Progress}
use Rattle.m3_verifier.specs.Reading.{Ending, reading}

-- ---- before the first entry
-- there is memory for so many claims on columns, and for so many products
abbrev pub room_of : ShapeParts → ℕ
room_of shape = flush_count shape.tables + claim_count shape.tables

-- all channels and all constraints are claimed to be right
unfoldable pub first_state : ShapeParts → List ℕ → Chained Stage Kept
first_state shape rows = settle linking (course shape rows) Start (none_wait (room_of shape))

abbrev pub head_tag : ℕ
head_tag = 0

-- the head of the tables, n of them, is read and absorbed, before reductions in this state. The word is to be folded with so many draws
unfoldable pub begun : {S : Type 0} → S → (tables rounds : ℕ) → List ℕ → Progress S
begun s tables rounds file = record {
  state = s;
  transcript = after_absorb start head_tag (take (head_length tables) file);
  bytes = drop (head_length tables) file;
  roots = [];
  folds = [];
  constant = 0;
  rounds = rounds;
}

-- ---- what is said of a reading of a file of `have` bytes, of which `need` are due
abbrev pub said_of_halt : (entry have need : ℕ) → Halt → Result Verified VerifyStop
said_of_halt entry have need halt.Short = Err (Fault (Short have need))
said_of_halt entry have need (halt.Refused r) = Ok (Rejected (Entry entry r.check r.left r.right))
said_of_halt entry have need (halt.Query fault) = Ok (Rejected (Query fault))
said_of_halt entry have need halt.NoMemory = Err NoMemory

-- after the last entry nothing follows
abbrev pub said_at_end : List PlanEntry → ℕ → List ℕ → Result Verified VerifyStop
said_at_end es need [] = Ok (Accepted (draws es) (total es))
said_at_end es need (b ∷ bytes) = Err (Fault (Trailing need b))

abbrev pub said_of_end : List PlanEntry → (have need : ℕ) → List ℕ → Option Stopped → Result Verified VerifyStop
said_of_end es have need bytes None = said_at_end es need bytes
said_of_end es have need bytes (Some s) = said_of_halt s.entry have need s.halt

abbrev pub said_of : {S : Type 0} → List PlanEntry → (have need : ℕ) → Ending S → Result Verified VerifyStop
said_of es have need e = said_of_end es have need e.last.bytes e.stopped

-- ---- the items in order: the head, the size, the entries, the end
unfoldable pub verdict_on_entries : ShapeParts → List ℕ → List ℕ → Result Verified VerifyStop
verdict_on_entries shape rows file =
    let es = plan shape rows in
    let tables = length shape.tables in
    let m = packed_log shape rows in
    said_of es (length file) (proof_length tables m es) (reading (chained linking) es 0 (begun (first_state shape rows) tables m file))

unfoldable pub verdict_on_rows : ShapeParts → List ℕ → List ℕ → Result Verified VerifyStop
verdict_on_rows shape rows file =
    let e = size_log shape.tables rows in
    cond (ltb max_size_log e) (Err (TooLarge e)) (verdict_on_entries shape rows file)

abbrev pub unless_fault : Option ProofFault → Result Verified VerifyStop → Result Verified VerifyStop
unless_fault None next = next
unless_fault (Some fault) next = Err (Fault fault)

unfoldable pub verdict : ShapeParts → List ℕ → Result Verified VerifyStop
verdict shape file = unless_fault (head_fault shape.digest (length shape.tables) file) (verdict_on_rows shape (head_rows (length shape.tables) file) file)

-- ---- an answer is the verdict, unless memory ran out or a read failed
abbrev pub Answers : Result Verified VerifyStop → Result Verified VerifyStop → Type 0
Answers due (Ok verified) = due ≡ Ok verified
Answers due (Err (Fault fault)) = due ≡ Err (Fault fault)
Answers due (Err (TooLarge log_bits)) = due ≡ Err (TooLarge log_bits)
Answers due (Err ReadFault) = Unit {0}
Answers due (Err NoMemory) = Unit {0}

-- ---- the stops of a head and of a size
abbrev pub stop_of_head : HeadStop → VerifyStop
stop_of_head (head.Fault fault) = Fault fault
stop_of_head head.NoMemory = NoMemory

abbrev pub stop_of_size : SizeStop → VerifyStop
stop_of_size (size.TooLarge log_bits) = TooLarge log_bits
stop_of_size size.NoMemory = NoMemory
