-- What the program's own answers stand for.
-- Source: docs/ARCHITECTURE.md, "Within m3_tool".
use Rattle.std.specs.Prelude.{◌≡◌, ◌≢◌, ◌≤◌, ℕ, false, IsTrue, List, length, Option, Some, None, Result, Ok, Err}
use Rattle.table_text.specs.declared.decl.Decl.{Decl}
use Rattle.table_text.specs.declared.fault.TextFault.{TextFault}
use Rattle.table_text.specs.Faults.{IsTablesText, IsFirstFault}
use Rattle.m3_tool.specs.Limits.{max_tables_file}
use Rattle.m3_tool.specs.declared.answer.Text.{Text}
use Rattle.m3_tool.specs.declared.answer.Text.TheVariants.{Fixed, Made}
use Rattle.m3_tool.specs.declared.answer.Answer.{Answer as OwnAnswer}
use Rattle.m3_tool.specs.declared.tables.Stop.{Stop}
use Rattle.m3_tool.specs.declared.tables.Stop.TheVariants as stop
use Rattle.m3_tool.specs.Run.{Answer, answer, IsDue, IsNoneOrCount, ReadsFailed, fileless_answer, is_outside}
use Rattle.byte_ends.specs.Shelf.{ShelfState, bytes_of, SameFaults, ReadsOnly}
use Rattle.m3_tool.specs.declared.status.Status.TheVariants.{Words, ReadFault, WriteFault, NoMemory}
use Rattle.m3_tool.specs.Command.{Command, check, print, lower, count, help, version}
use Rattle.m3_tool.specs.Lines.{read_fault_line, no_memory_line}

abbrev pub line_of : Text → List ℕ
line_of (Fixed text) = text.now
line_of (Made text) = text.items

abbrev pub answer_of : OwnAnswer → Answer
answer_of a = answer a.status (line_of a.text)

-- the answer of a command, or that of what stopped it
abbrev pub Stops : Result OwnAnswer Stop → Answer → Type 0
Stops (Ok a) b = b ≡ answer_of a
Stops (Err stop.ReadFault) b = b ≡ answer ReadFault read_fault_line
Stops (Err stop.NoMemory) b = b ≡ answer NoMemory no_memory_line

-- a text is read in one way: it has declarations or a first fault, and no others
pub record IsReadOnce (text : List ℕ) : Type 0 where
  pub reading : Result (List Decl) TextFault
  pub decls : (decls : List Decl) → IsTablesText text decls → reading ≡ Ok decls
  pub fault : (fault : TextFault) → IsFirstFault text fault → reading ≡ Err fault

-- so is the text of a file that isn't too long
abbrev pub IsFileReadOnce : List ℕ → Type 0
IsFileReadOnce text = length text ≤ max_tables_file → IsReadOnce text

-- the text of the tables that a command names is read once
abbrev pub IsCommandReadOnce : Option Command → ShelfState → Type 0
IsCommandReadOnce None shelf = Unit {0}
IsCommandReadOnce (Some (check tables witness)) shelf = IsFileReadOnce (bytes_of shelf tables)
IsCommandReadOnce (Some (print tables)) shelf = IsFileReadOnce (bytes_of shelf tables)
IsCommandReadOnce (Some (lower tables witness alpha gamma)) shelf = IsFileReadOnce (bytes_of shelf tables)
IsCommandReadOnce (Some (count tables rows)) shelf = IsFileReadOnce (bytes_of shelf tables)
IsCommandReadOnce (Some help) shelf = Unit {0}
IsCommandReadOnce (Some version) shelf = Unit {0}

-- an answer to words, by the shelf before and after
pub record IsAnswered (c : Option Command) (old new : ShelfState) (a : Answer) : Type 0 where
  pub due : IsTrue old.told → is_outside a.status ≡ false → IsDue c old a
  pub once : IsTrue old.told → is_outside a.status ≡ false → IsCommandReadOnce c old
  pub fileless : (b : Answer) → fileless_answer c ≡ Some b → a ≡ b
  pub fits : a.status ≡ Words → IsNoneOrCount c
  pub read_fault : a.status ≡ ReadFault → ReadsFailed c old new × (a.line ≡ read_fault_line)
  pub no_memory : a.status ≡ NoMemory → a.line ≡ no_memory_line
  pub no_write : a.status ≢ WriteFault
  pub quiet : a.status ≢ ReadFault → SameFaults old new
  pub reads_only : ReadsOnly old new
