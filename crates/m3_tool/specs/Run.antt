-- What is due to words, by the bytes of the files.
-- Source: docs/FORMATS.md, "Commands", "What is printed" and "Limits".
use Rattle.std.specs.Prelude.{◌≡◌, ◌↔◌, ℕ, ◌==◌, ◌⊎◌, ◌≤◌, nat_lt, if◌then◌else◌, IsTrue, Bool, true, false, List, length, Option, Some, None, MatchResult}
use Rattle.std.specs.Bool.{MatchBool}
use Rattle.byte_ends.specs.Shelf.{ShelfState, bytes_of, ReadFailed}
use Rattle.table_text.specs.declared.decl.Decl.{Decl}
use Rattle.table_text.specs.declared.fault.TextFault.{TextFault}
use Rattle.table_text.specs.Canonical.{canonical}
use Rattle.table_text.specs.Faults.{IsTablesText, IsFirstFault}
use Rattle.m3_tool.specs.Limits.{max_tables_file, max_witness_file}
use Rattle.witness_reader.specs.declared.fault.WitnessStop.{WitnessStop}
use Rattle.witness_reader.specs.declared.fault.WitnessStop.TheVariants as stop
use Rattle.m3_tool.specs.declared.status.Status.{Status}
use Rattle.m3_tool.specs.declared.status.Status.TheVariants.{Yes, No, Words, Tables, Witness, ReadFault, WriteFault, TooLarge, NoMemory, TooLong}
use Rattle.table_shape.specs.Limits.{max_size_log}
use Rattle.table_shape.specs.Parts.{ShapeParts}
use Rattle.table_shape.specs.Shape.{shape_of}
use Rattle.table_shape.specs.ShapeMeaning.{IsShape}
use Rattle.table_shape.specs.Size.{size_log}
use Rattle.table_shape.specs.Filling.{Filling}
use Rattle.table_shape.specs.Lowering.{LoweredHolds}
use Rattle.table_shape.specs.Satisfies.{Satisfies, Violation, IsFirstViolation}
use Rattle.witness_reader.specs.Witness.{WitnessData, witness_of, filling_of}
use Rattle.witness_reader.specs.WitnessMeaning.{GivesWitness}
use Rattle.m3_tool.specs.Command.{Command, check, print, lower, count, help, version}
use Rattle.m3_tool.specs.Lines.{satisfied_line, violation_line, lowered_text, count_text, text_fault_line, shape_fault_line, witness_fault_line, too_large_line, too_long_line, words_line, no_memory_line, help_text, version_line}

-- how a run ends, and what it puts
pub record Answer : Type 0 where
  pub status : Status
  pub line : List ℕ

abbrev pub answer : Status → List ℕ → Answer
answer status line = record { status = status; line = line }

-- an answer to a shape
abbrev pub ToShape : Type 1
ToShape = ShapeParts → Answer → Type 0

-- an answer to the values that a witness gives to tables
abbrev pub ToValues : Type 1
ToValues = ShapeParts → List ℕ → Filling → Answer → Type 0

-- the values satisfy the tables, or this is the first violation
abbrev pub IsJudgement : ToValues
IsJudgement shape rows filling a =
    (Satisfies shape rows filling × (a ≡ answer Yes satisfied_line))
    ⊎ ((v : Violation) × (first : IsFirstViolation shape rows filling v) × (a ≡ answer No (violation_line shape rows filling v first)))

-- the products at alpha and gamma, and whether the lowered statement holds, as it does where the values satisfy the tables
pub record IsLowered (alpha gamma : ℕ) (shape : ShapeParts) (rows : List ℕ) (filling : Filling) (a : Answer) : Type 0 where
  pub holds : Bool
  pub exact : IsTrue holds ↔ LoweredHolds shape rows filling alpha gamma
  pub satisfied : Satisfies shape rows filling → IsTrue holds
  pub is : a ≡ answer Yes (lowered_text shape rows filling alpha gamma holds)

abbrev pub witness_refusal : WitnessStop → Answer
witness_refusal (stop.Fault fault) = answer Witness (witness_fault_line fault)
witness_refusal (stop.TooLarge log_bits) = answer TooLarge (too_large_line log_bits)
witness_refusal stop.NoMemory = answer NoMemory no_memory_line

-- the witness is refused, or the values that it gives have such an answer
abbrev pub IsWitnessAnswer : ToValues → ShapeParts → List ℕ → Answer → Type 0
IsWitnessAnswer Answers shape witness a = MatchResult (witness_of shape.tables witness) (λ (w : WitnessData). Answers shape w.rows (filling_of shape.tables w) a) (λ stop. a ≡ witness_refusal stop)

-- a file of a witness is too long, or it is read
abbrev pub IsWitnessFileAnswer : ToValues → ShapeParts → List ℕ → Answer → Type 0
IsWitnessFileAnswer Answers shape witness a = MatchBool (nat_lt max_witness_file (length witness)) (a ≡ answer TooLong (too_long_line max_witness_file)) (IsWitnessAnswer Answers shape witness a)

-- what numbers of rows come to: more or fewer of them than tables, columns that are too large on them, or the counted draws of a proof
abbrev pub count_answer : List ℕ → ShapeParts → Answer
count_answer rows shape =
    if length rows == length shape.tables then (if nat_lt max_size_log (size_log shape.tables rows) then answer TooLarge (too_large_line (size_log shape.tables rows)) else answer Yes (count_text shape rows)) else answer Words words_line

abbrev pub IsCounted : List ℕ → ToShape
IsCounted rows shape a = a ≡ count_answer rows shape

-- the declarations have no shape, or it has such an answer
abbrev pub IsShapeAnswer : ToShape → List Decl → Answer → Type 0
IsShapeAnswer Answers decls a = MatchResult (shape_of decls) (λ shape. Answers shape a) (λ fault. a ≡ answer Tables (shape_fault_line fault))

-- the first fault of a text
abbrev pub IsTextRefusal : List ℕ → Answer → Type 0
IsTextRefusal text a = (fault : TextFault) × IsFirstFault text fault × (a ≡ answer Tables (text_fault_line fault))

-- a text has a fault, or its declarations have such an answer
abbrev pub IsTextAnswer : List ℕ → (List Decl → Answer → Type 0) → Answer → Type 0
IsTextAnswer text Answers a = IsTextRefusal text a ⊎ ((decls : List Decl) × IsTablesText text decls × Answers decls a)

-- a file of tables is too long, or its text is judged so
abbrev pub OfTablesFile : List ℕ → Answer → Type 0 → Type 0
OfTablesFile text a Judged = MatchBool (nat_lt max_tables_file (length text)) (a ≡ answer TooLong (too_long_line max_tables_file)) Judged

abbrev pub IsTablesAnswer : List ℕ → (List Decl → Answer → Type 0) → Answer → Type 0
IsTablesAnswer text Answers a = OfTablesFile text a (IsTextAnswer text Answers a)

-- tables are read and resolved, and their shape has such an answer
abbrev pub IsResolvedAnswer : ToShape → List ℕ → Answer → Type 0
IsResolvedAnswer Answers text a = IsTablesAnswer text (IsShapeAnswer Answers) a

-- tables are read and resolved, and a witness for them
abbrev pub IsReadAnswer : ToValues → List ℕ → List ℕ → Answer → Type 0
IsReadAnswer Answers text witness a = IsResolvedAnswer (λ shape b. IsWitnessFileAnswer Answers shape witness b) text a

-- the values of a check are judged
abbrev pub IsCheckAnswer : List ℕ → List ℕ → Answer → Type 0
IsCheckAnswer text witness a = IsReadAnswer IsJudgement text witness a

-- those of a lower are lowered
abbrev pub IsLowerAnswer : ℕ → ℕ → List ℕ → List ℕ → Answer → Type 0
IsLowerAnswer alpha gamma text witness a = IsReadAnswer (IsLowered alpha gamma) text witness a

abbrev pub IsPrinted : List Decl → Answer → Type 0
IsPrinted decls a = a ≡ answer Yes (canonical decls)

-- the declarations of a print are printed
abbrev pub IsPrintAnswer : List ℕ → Answer → Type 0
IsPrintAnswer text a = IsTablesAnswer text IsPrinted a

-- the draws of a proof for tables on so many rows each are counted
abbrev pub IsCountAnswer : List ℕ → List ℕ → Answer → Type 0
IsCountAnswer rows text a = IsResolvedAnswer (IsCounted rows) text a

-- the answer that is due to words, by the bytes of the files that they name
abbrev pub IsDue : Option Command → ShelfState → Answer → Type 0
IsDue None shelf a = a ≡ answer Words words_line
IsDue (Some (check tables witness)) shelf a = IsCheckAnswer (bytes_of shelf tables) (bytes_of shelf witness) a
IsDue (Some (print tables)) shelf a = IsPrintAnswer (bytes_of shelf tables) a
IsDue (Some (lower tables witness alpha gamma)) shelf a = IsLowerAnswer alpha gamma (bytes_of shelf tables) (bytes_of shelf witness) a
IsDue (Some (count tables rows)) shelf a = IsCountAnswer rows (bytes_of shelf tables) a
IsDue (Some help) shelf a = a ≡ answer Yes help_text
IsDue (Some version) shelf a = a ≡ answer Yes version_line

-- the answer to words that name no file
abbrev pub fileless_answer : Option Command → Option Answer
fileless_answer None = Some (answer Words words_line)
fileless_answer (Some (check tables witness)) = None
fileless_answer (Some (print tables)) = None
fileless_answer (Some (lower tables witness alpha gamma)) = None
fileless_answer (Some (count tables rows)) = None
fileless_answer (Some help) = Some (answer Yes help_text)
fileless_answer (Some version) = Some (answer Yes version_line)

-- a status that the bytes of the files don't tell: a fault of the outside, or want of memory
abbrev pub is_outside : Status → Bool
is_outside ReadFault = true
is_outside WriteFault = true
is_outside NoMemory = true
is_outside Yes = false
is_outside No = false
is_outside Words = false
is_outside Tables = false
is_outside Witness = false
is_outside TooLarge = false
is_outside TooLong = false

-- a text of tables within its limit, that has declarations
pub record HasDecls (text : List ℕ) : Type 0 where
  pub decls : List Decl
  pub within : length text ≤ max_tables_file
  pub text_is : IsTablesText text decls

-- such a text whose declarations have a shape
pub record HasShape (text : List ℕ) : Type 0 where
  pub decls : List Decl
  pub parts : ShapeParts
  pub within : length text ≤ max_tables_file
  pub text_is : IsTablesText text decls
  pub shape_is : IsShape decls parts

-- such a text, and a witness within its limit that gives values to its columns
pub record HasWitness (text witness : List ℕ) : Type 0 where
  pub shape : HasShape text
  pub given : WitnessData
  pub within : length witness ≤ max_witness_file
  pub witness_is : GivesWitness shape.parts.tables witness given

-- a text of tables with a shape, a number of rows for each table, and columns that aren't too large on them
pub record HasCounts (text rows : List ℕ) : Type 0 where
  pub shape : HasShape text
  pub each : length rows ≡ length shape.parts.tables
  pub sized : size_log shape.parts.tables rows ≤ max_size_log

-- a witness that gives values which satisfy the tables
pub record IsSatisfied (text witness : List ℕ) : Type 0 where
  pub read : HasWitness text witness
  pub satisfies : Satisfies read.shape.parts read.given.rows (filling_of read.shape.parts.tables read.given)

-- a witness that gives values which violate the tables, and the line that says where first
pub record IsViolated (text witness line : List ℕ) : Type 0 where
  pub read : HasWitness text witness
  pub violation : Violation
  pub first : IsFirstViolation read.shape.parts read.given.rows (filling_of read.shape.parts.tables read.given) violation
  pub line_is : line ≡ violation_line read.shape.parts read.given.rows (filling_of read.shape.parts.tables read.given) violation first

-- a read of a file has failed that is due: where the files are told, what the command reads before it is accepted
abbrev pub DueReadFailed : ShelfState → ShelfState → List ℕ → Type 0 → Type 0
DueReadFailed old new name Accepted = ReadFailed old new name × (IsTrue old.told → Accepted)

-- a read that a check or a lower makes has failed, and was due
abbrev pub WitnessReadsFailed : ShelfState → ShelfState → List ℕ → List ℕ → Type 0
WitnessReadsFailed old new tables witness = ReadFailed old new tables ⊎ DueReadFailed old new witness (HasShape (bytes_of old tables))

-- the same of any command
abbrev pub ReadsFailed : Option Command → ShelfState → ShelfState → Type 0
ReadsFailed None old new = ⊥
ReadsFailed (Some (check tables witness)) old new = WitnessReadsFailed old new tables witness
ReadsFailed (Some (print tables)) old new = ReadFailed old new tables
ReadsFailed (Some (lower tables witness alpha gamma)) old new = WitnessReadsFailed old new tables witness
ReadsFailed (Some (count tables rows)) old new = ReadFailed old new tables
ReadsFailed (Some help) old new = ⊥
ReadsFailed (Some version) old new = ⊥

-- words that fit no command, or a count, which may have another number of rows than there are tables
abbrev pub IsNoneOrCount : Option Command → Type 0
IsNoneOrCount c = (c ≡ None) ⊎ ((tables rows : List ℕ) × (c ≡ Some (count tables rows)))
