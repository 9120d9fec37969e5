-- What the steps of a check, of a lower and of a count say.
-- Source: docs/ARCHITECTURE.md, "Within m3_tool".
use Rattle.std.specs.Prelude.{◌≡◌, ◌≤◌, ℕ, ◌⊎◌, List, length, Result, Ok, Err}
use Rattle.table_text.specs.declared.decl.Decl.{Decl}
use Rattle.table_text.specs.Faults.{IsTablesText}
use Rattle.m3_tool.specs.Limits.{max_tables_file}
use Rattle.m3_tool.specs.declared.tables.Parsed.{Parsed}
use Rattle.m3_tool.specs.declared.tables.Parsed.TheVariants as parsed
use Rattle.m3_tool.specs.declared.shapes.Shaped.{Shaped}
use Rattle.m3_tool.specs.declared.shapes.Shaped.TheVariants as shaped
use Rattle.m3_tool.specs.declared.witness.Question.{Question}
use Rattle.m3_tool.specs.declared.witness.Question.TheVariants.{Satisfied, Lowered}
use Rattle.m3_tool.specs.declared.status.Status.{Status}
use Rattle.m3_tool.specs.declared.status.Status.TheVariants.{Yes, No, Words, Tables, Witness, ReadFault, WriteFault, TooLarge, NoMemory, TooLong}
use Rattle.table_shape.specs.Shape.{shape_of}
use Rattle.m3_tool.specs.Run.{answer, ToShape, ToValues, IsJudgement, IsLowered, IsWitnessFileAnswer, IsCounted, IsTextRefusal, OfTablesFile, IsResolvedAnswer}
use Rattle.m3_tool.specs.Lines.{shape_fault_line}
use Rattle.table_shape.specs.declared.fault.ShapeFault.{ShapeFault}
use Rattle.m3_tool.specs.declared.tables.Stop.{Stop}
use Rattle.m3_tool.specs.declared.tables.Stop.TheVariants as stop
use Rattle.m3_tool.specs.Answer.{answer_of, IsFileReadOnce}

-- what answers a question to values
abbrev pub Answering : Question → ToValues
Answering Satisfied = IsJudgement
Answering (Lowered alpha gamma) = IsLowered alpha gamma

-- what is asked of a shape: a question to the witness in a file, or the counts at numbers of rows
pub data Asked : Type 0 where
  of_witness : Question → List ℕ → Asked
  of_rows : List ℕ → Asked

-- what answers it
abbrev pub OfShape : Asked → ToShape
OfShape (of_witness question witness) shape a = IsWitnessFileAnswer (Answering question) shape witness a
OfShape (of_rows rows) shape a = IsCounted rows shape a

-- the declarations of a text, or the answer to a text that has none
abbrev pub IsParsed : List ℕ → Parsed → Type 0
IsParsed text (parsed.Tables decls) = IsTablesText text decls
IsParsed text (parsed.Refused a) = IsTextRefusal text (answer_of a)

-- the same of a file, which may be too long
abbrev pub IsParsedFile : List ℕ → Parsed → Type 0
IsParsedFile text (parsed.Tables decls) = (length text ≤ max_tables_file) × IsFileReadOnce text × IsTablesText text decls
IsParsedFile text (parsed.Refused a) = IsFileReadOnce text × OfTablesFile text (answer_of a) (IsTextRefusal text (answer_of a))

-- the shape of declarations, or the answer to those that have none
abbrev pub IsShapedTables : List Decl → Shaped → Type 0
IsShapedTables decls (shaped.Shape shape) = shape_of decls ≡ Ok shape
IsShapedTables decls (shaped.Refused a) = (fault : ShapeFault) × (shape_of decls ≡ Err fault) × (answer_of a ≡ answer Tables (shape_fault_line fault))

-- the shape of a file, or the answer to a file that has none, whatever is asked of a shape
abbrev pub IsShapedFile : List ℕ → Shaped → Type 0
IsShapedFile text (shaped.Shape shape) = (length text ≤ max_tables_file) × IsFileReadOnce text × ((decls : List Decl) × IsTablesText text decls × (shape_of decls ≡ Ok shape))
IsShapedFile text (shaped.Refused a) = IsFileReadOnce text × ((asked : Asked) → IsResolvedAnswer (OfShape asked) text (answer_of a))

abbrev pub OnReadFault : {X : Type 0} → Result X Stop → Type 0 → Type 0
OnReadFault (Ok x) P = Unit {0}
OnReadFault (Err stop.ReadFault) P = P
OnReadFault (Err stop.NoMemory) P = Unit {0}

abbrev pub UnlessReadFault : {X : Type 0} → Result X Stop → Type 0 → Type 0
UnlessReadFault (Ok x) P = P
UnlessReadFault (Err stop.ReadFault) P = Unit {0}
UnlessReadFault (Err stop.NoMemory) P = P

-- a status that a command ends with by the bytes of its files
abbrev pub EndsCheck : Status → Type 0
EndsCheck Yes = Unit {0}
EndsCheck No = Unit {0}
EndsCheck Tables = Unit {0}
EndsCheck Witness = Unit {0}
EndsCheck TooLarge = Unit {0}
EndsCheck TooLong = Unit {0}
EndsCheck Words = ⊥
EndsCheck ReadFault = ⊥
EndsCheck WriteFault = ⊥
EndsCheck NoMemory = ⊥

-- the same of a count, which may have another number of rows than there are tables
abbrev pub EndsCount : Status → Type 0
EndsCount s = EndsCheck s ⊎ (s ≡ Words)

abbrev pub RefusalEnds : Parsed → Type 0
RefusalEnds (parsed.Tables decls) = Unit {0}
RefusalEnds (parsed.Refused a) = EndsCheck a.status

abbrev pub RefusalEndsCheck : Shaped → Type 0
RefusalEndsCheck (shaped.Shape shape) = Unit {0}
RefusalEndsCheck (shaped.Refused a) = EndsCheck a.status
