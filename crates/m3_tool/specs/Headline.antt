-- What a run promises.
-- Source: docs/FORMATS.md, "Commands" and "What is printed"; docs/ENDS.md, "What the calls do".
use Rattle.std.specs.Prelude.{◌≡◌, ◌≢◌, ◌↔◌, ℕ, ◌⊎◌, IsTrue, Bool, true, List, Option, Some}
use Rattle.byte_ends.specs.Counts.{Rose}
use Rattle.byte_ends.specs.Shelf.{ShelfState, bytes_of}
use Rattle.byte_ends.specs.Sink.{SinkState, Puts, PutsPrefix}
use Rattle.m3_tool.specs.declared.status.Status.{Status}
use Rattle.m3_tool.specs.declared.status.Status.TheVariants.{Yes, No, ReadFault, WriteFault}
use Rattle.table_text.specs.declared.decl.Decl.{Decl}
use Rattle.table_text.specs.Canonical.{canonical}
use Rattle.table_text.specs.Faults.{IsTablesText}
use Rattle.table_shape.specs.Lowering.{LoweredHolds}
use Rattle.table_shape.specs.Satisfies.{Satisfies}
use Rattle.witness_reader.specs.Witness.{filling_of}
use Rattle.m3_tool.specs.Command.{Command, check, print, lower, count}
use Rattle.m3_tool.specs.Lines.{satisfied_line, lowered_text, count_text, read_fault_line, no_memory_line}
use Rattle.m3_tool.specs.Run.{Answer, HasCounts, HasDecls, HasWitness, IsDue, IsSatisfied, IsViolated, ReadsFailed, fileless_answer, is_outside}

-- the answer that is due has this status, and its line was put
pub record PutsDue (c : Option Command) (shelf : ShelfState) (old new : SinkState) (status : Status) : Type 0 where
  pub answer : Answer
  pub due : IsDue c shelf answer
  pub status_is : answer.status ≡ status
  pub puts : Puts old new answer.line

-- no answer of another status is due
abbrev pub OnlyDue : Option Command → ShelfState → Status → Type 0
OnlyDue c shelf status = (a : Answer) → IsDue c shelf a → a.status ≡ status

-- a check that says Yes has read a witness that satisfies the tables
abbrev pub SaysSatisfied : Option Command → ShelfState → SinkState → SinkState → Status → Type 0
SaysSatisfied c shelf old new status =
    (tables witness : List ℕ) → c ≡ Some (check tables witness) → IsTrue shelf.told → status ≡ Yes → IsSatisfied (bytes_of shelf tables) (bytes_of shelf witness) × Puts old new satisfied_line

-- one that says No has read a witness that violates them, and puts the first violation
abbrev pub SaysViolated : Option Command → ShelfState → SinkState → SinkState → Status → Type 0
SaysViolated c shelf old new status =
    (tables witness : List ℕ) → c ≡ Some (check tables witness) → IsTrue shelf.told → status ≡ No → (line : List ℕ) × IsViolated (bytes_of shelf tables) (bytes_of shelf witness) line × Puts old new line

-- a print that says Yes has read tables, and puts their canonical text
abbrev pub SaysPrinted : Option Command → ShelfState → SinkState → SinkState → Status → Type 0
SaysPrinted c shelf old new status =
    (tables : List ℕ) → c ≡ Some (print tables) → IsTrue shelf.told → status ≡ Yes → (decls : List Decl) × IsTablesText (bytes_of shelf tables) decls × Puts old new (canonical decls)

-- the products at alpha and gamma of the values that a witness gives, with `holds` exactly where the lowered statement does, and so where the values satisfy the tables
pub record PutsLowered (text witness : List ℕ) (alpha gamma : ℕ) (old new : SinkState) : Type 0 where
  pub read : HasWitness text witness
  pub holds : Bool
  pub exact : IsTrue holds ↔ LoweredHolds read.shape.parts read.given.rows (filling_of read.shape.parts.tables read.given) alpha gamma
  pub satisfied : Satisfies read.shape.parts read.given.rows (filling_of read.shape.parts.tables read.given) → holds ≡ true
  pub puts : Puts old new (lowered_text read.shape.parts read.given.rows (filling_of read.shape.parts.tables read.given) alpha gamma holds)

-- a lower that says Yes has read a witness that gives values to the tables, and puts their products
abbrev pub SaysLowered : Option Command → ShelfState → SinkState → SinkState → Status → Type 0
SaysLowered c shelf old new status =
    (tables witness : List ℕ) (alpha gamma : ℕ) → c ≡ Some (lower tables witness alpha gamma) → IsTrue shelf.told → status ≡ Yes → PutsLowered (bytes_of shelf tables) (bytes_of shelf witness) alpha gamma old new

-- a count that says Yes has read tables, one for each number of rows, whose columns aren't too large, and puts the counted draws of a proof for them and its length
abbrev pub SaysCounted : Option Command → ShelfState → SinkState → SinkState → Status → Type 0
SaysCounted c shelf old new status =
    (tables rows : List ℕ) → c ≡ Some (count tables rows) → IsTrue shelf.told → status ≡ Yes → (has : HasCounts (bytes_of shelf tables) rows) × Puts old new (count_text has.shape.parts rows)

-- words that name no file have their answer, whatever the shelf tells, unless a write fails
abbrev pub AnswersWords : Option Command → SinkState → SinkState → Status → Type 0
AnswersWords c old new status = (a : Answer) → fileless_answer c ≡ Some a → ((status ≡ a.status) × Puts old new a.line) ⊎ ((status ≡ WriteFault) × Rose old.faults new.faults)

-- a run ends with this status, or with one of the outside
abbrev pub EndsWith : Status → Status → Type 0
EndsWith expected status = (status ≡ expected) ⊎ IsTrue (is_outside status)

-- a check whose files are accepted says whether the witness satisfies the tables, and a print, a lower or a count of accepted files says Yes, unless the outside ends the run
pub record SaysWhether (c : Option Command) (shelf : ShelfState) (status : Status) : Type 0 where
  pub yes : (tables witness : List ℕ) → c ≡ Some (check tables witness) → IsTrue shelf.told → IsSatisfied (bytes_of shelf tables) (bytes_of shelf witness) → EndsWith Yes status
  pub no : (tables witness line : List ℕ) → c ≡ Some (check tables witness) → IsTrue shelf.told → IsViolated (bytes_of shelf tables) (bytes_of shelf witness) line → EndsWith No status
  pub printed : (tables : List ℕ) → c ≡ Some (print tables) → IsTrue shelf.told → HasDecls (bytes_of shelf tables) → EndsWith Yes status
  pub lowered : (tables witness : List ℕ) (alpha gamma : ℕ) → c ≡ Some (lower tables witness alpha gamma) → IsTrue shelf.told → HasWitness (bytes_of shelf tables) (bytes_of shelf witness) → EndsWith Yes status
  pub counted : (tables rows : List ℕ) → c ≡ Some (count tables rows) → IsTrue shelf.told → HasCounts (bytes_of shelf tables) rows → EndsWith Yes status

-- where no count of faults rose, the outside ends a run by want of memory alone
abbrev pub IsUndisturbed : ShelfState → ShelfState → SinkState → SinkState → Status → Type 0
IsUndisturbed old_shelf new_shelf old_sink new_sink status =
    ¬ Rose old_shelf.read_faults new_shelf.read_faults → ¬ Rose old_sink.faults new_sink.faults → (status ≢ ReadFault) × (status ≢ WriteFault)

-- a line that a run may put: the one that is due where the files are told, that of a read that failed, or that of want of memory
abbrev pub MayPut : Option Command → ShelfState → ShelfState → List ℕ → Type 0
MayPut c old new line =
    (IsTrue old.told → (a : Answer) × IsDue c old a × (line ≡ a.line)) ⊎ ((ReadsFailed c old new × (line ≡ read_fault_line)) ⊎ (line ≡ no_memory_line))

-- a first part of such a line was put
pub record PutsPart (c : Option Command) (old_shelf new_shelf : ShelfState) (old_sink new_sink : SinkState) : Type 0 where
  pub line : List ℕ
  pub may : MayPut c old_shelf new_shelf line
  pub part : PutsPrefix old_sink new_sink line
