-- The lines that are printed.
-- Source: docs/FORMATS.md, "What is printed".
use Rattle.std.specs.Prelude.{ℕ, ◌+◌, Bool, false, true, List, [], ◌∷◌, ◌++◌, length, map, codes}
use Rattle.std.specs.Fmt.{decimal, digits}
use Rattle.table_text.specs.Canonical.{joined}
use Rattle.table_text.specs.declared.decl.Side.TheVariants.{Push, Pull}
use Rattle.table_text.specs.declared.fault.TextFault.{TextFault}
use Rattle.table_text.specs.declared.fault.TextKind.{TextKind}
use Rattle.table_text.specs.declared.fault.TextKind.TheVariants as text
use Rattle.table_shape.specs.declared.fault.ShapeFault.{ShapeFault}
use Rattle.table_shape.specs.declared.fault.ShapeKind.{ShapeKind}
use Rattle.table_shape.specs.declared.fault.ShapeKind.TheVariants as shape
use Rattle.witness_reader.specs.declared.fault.WitnessPlace.{WitnessPlace}
use Rattle.witness_reader.specs.declared.fault.WitnessPlace.TheVariants.{Whole, Table, Column}
use Rattle.witness_reader.specs.declared.fault.WitnessKind.{WitnessKind}
use Rattle.witness_reader.specs.declared.fault.WitnessKind.TheVariants as witness
use Rattle.witness_reader.specs.declared.fault.WitnessFault.{WitnessFault}
use Rattle.table_shape.specs.declared.shape.ChannelShape.{ChannelShape}
use Rattle.table_shape.specs.declared.shape.ConstraintShape.{ConstraintShape}
use Rattle.table_shape.specs.declared.shape.TableShape.{TableShape}
use Rattle.table_shape.specs.Parts.{ShapeParts}
use Rattle.table_shape.specs.Filling.{Filling}
use Rattle.table_shape.specs.Lowering.{side_product}
use Rattle.table_shape.specs.Satisfies.{NonZero, Unequal, Violation, nonzero, unequal, IsFirstViolation}
use Rattle.poly_forms.specs.declared.draw_kind.DrawKind.{DrawKind}
use Rattle.poly_forms.specs.Names.{draw_name}
use Rattle.proof_plan.specs.declared.plan_entry.PlanEntry.{PlanEntry}
use Rattle.proof_plan.specs.declared.plan_entry.PlanEntry.TheVariants.{Root, Message, Draw, Constant, Queries}
use Rattle.proof_plan.specs.Plan.{packed_log, plan}
use Rattle.proof_plan.specs.PlanParts.{PlanParts}
use Rattle.proof_plan.specs.Sizes.{proof_length, total}

-- a number in hexadecimal digits
abbrev pub hex : ℕ → List ℕ
hex n = digits 16 false n

abbrev pub satisfied_line : List ℕ
satisfied_line = codes "satisfied\n"

-- the number of an element
abbrev pub value_text : ℕ → List ℕ
value_text n = codes "0x" ++ hex n

-- which table and which constraint a violation is of
abbrev pub violated : TableShape → ConstraintShape → List ℕ
violated table constraint = codes "violated: table " ++ table.name ++ codes ", zero " ++ constraint.name

-- the line of a constraint that isn't 0
abbrev pub nonzero_line : TableShape → ConstraintShape → NonZero → List ℕ
nonzero_line table constraint v =
    violated table constraint ++ codes ", row " ++ decimal v.row ++ codes ", index " ++ decimal v.index ++ codes ", value 0x" ++ hex v.value ++ codes "\n"

-- the line of a tuple that is pushed and pulled unequally often
abbrev pub unequal_line : ChannelShape → Unequal → List ℕ
unequal_line channel v =
    codes "violated: channel " ++ channel.name ++ codes ", tuple (" ++ joined (codes ", ") (map value_text v.tuple) ++ codes "), pushed " ++ decimal v.pushed ++ codes ", pulled " ++ decimal v.pulled ++ codes "\n"

-- the line of the first violation
abbrev pub violation_line : (shape : ShapeParts) (rows : List ℕ) (filling : Filling) (v : Violation) → IsFirstViolation shape rows filling v → List ℕ
violation_line shape rows filling (nonzero v) first = nonzero_line first.table first.constraint v
violation_line shape rows filling (unequal v) first = unequal_line first.1.channel v

-- the products of a channel's two sides
abbrev pub channel_line : List ℕ → ℕ → ℕ → List ℕ
channel_line name push pull = codes "channel " ++ name ++ codes " push " ++ value_text push ++ codes " pull " ++ value_text pull ++ codes "\n"

-- those of the channels numbered from c on, at alpha a and gamma g
abbrev pub channel_lines : ShapeParts → List ℕ → Filling → ℕ → ℕ → ℕ → List ChannelShape → List ℕ
channel_lines shape rows filling a g c [] = []
channel_lines shape rows filling a g c (channel ∷ channels) =
    channel_line channel.name (side_product Push shape rows filling a g c) (side_product Pull shape rows filling a g c) ++ channel_lines shape rows filling a g (c + 1) channels

-- whether the lowered statement holds
abbrev pub holds_line : Bool → List ℕ
holds_line true = codes "holds\n"
holds_line false = codes "fails\n"

abbrev pub lowered_text : ShapeParts → List ℕ → Filling → ℕ → ℕ → Bool → List ℕ
lowered_text shape rows filling a g holds = channel_lines shape rows filling a g 0 shape.channels ++ holds_line holds

-- the line of a counted draw, which is entry e of the plan
abbrev pub draw_line : ℕ → DrawKind → ℕ → List ℕ
draw_line e kind n = codes "draw " ++ decimal e ++ codes " " ++ draw_name kind ++ codes " at most " ++ decimal n ++ codes "\n"

abbrev pub entry_line : ℕ → PlanEntry → List ℕ
entry_line e Root = []
entry_line e (Message check n) = []
entry_line e (Draw kind n) = draw_line e kind n
entry_line e Constant = []
entry_line e Queries = []

-- the lines of the counted draws among the entries numbered from e on
abbrev pub draw_lines : ℕ → List PlanEntry → List ℕ
draw_lines e [] = []
draw_lines e (entry ∷ entries) = entry_line e entry ++ draw_lines (e + 1) entries

abbrev pub number_line : List ℕ → ℕ → List ℕ
number_line word n = word ++ codes " " ++ decimal n ++ codes "\n"

-- the counted draws, the sum of their counts, and how many bytes the proof has
abbrev pub plan_text : PlanParts → List ℕ
plan_text p = draw_lines 0 p.entries ++ number_line (codes "total") (total p.entries) ++ number_line (codes "bytes") (proof_length p.tables p.packed_log p.entries)

-- those of a proof for tables on so many rows each
unfoldable pub count_text : ShapeParts → List ℕ → List ℕ
count_text shape rows = plan_text (record { entries = plan shape rows; tables = length shape.tables; packed_log = packed_log shape rows })

abbrev pub text_kind_name : TextKind → List ℕ
text_kind_name text.NotText = codes "NotText"
text_kind_name text.Unexpected = codes "Unexpected"
text_kind_name text.NumberTooWide = codes "NumberTooWide"
text_kind_name text.NameTooLong = codes "NameTooLong"
text_kind_name text.TooDeep = codes "TooDeep"
text_kind_name text.TooMany = codes "TooMany"

abbrev pub text_fault_line : TextFault → List ℕ
text_fault_line fault = codes "tables: " ++ text_kind_name fault.kind ++ codes " at byte " ++ decimal fault.place ++ codes "\n"

abbrev pub shape_kind_name : ShapeKind → List ℕ
shape_kind_name shape.UnknownName = codes "UnknownName"
shape_kind_name shape.DoubleName = codes "DoubleName"
shape_kind_name shape.LevelTooHigh = codes "LevelTooHigh"
shape_kind_name shape.UnequalWidth = codes "UnequalWidth"
shape_kind_name shape.BlockTooLong = codes "BlockTooLong"
shape_kind_name shape.OffsetOutOfRange = codes "OffsetOutOfRange"
shape_kind_name shape.RepeatedTerm = codes "RepeatedTerm"
shape_kind_name shape.DegreeTooHigh = codes "DegreeTooHigh"
shape_kind_name shape.TupleWidth = codes "TupleWidth"
shape_kind_name shape.NotOneValue = codes "NotOneValue"
shape_kind_name shape.SelectorNotBit = codes "SelectorNotBit"
shape_kind_name shape.TooMany = codes "TooMany"

abbrev pub shape_fault_line : ShapeFault → List ℕ
shape_fault_line fault = codes "tables: " ++ shape_kind_name fault.kind ++ codes " at item " ++ decimal fault.item ++ codes "\n"

abbrev pub witness_kind_name : WitnessKind → List ℕ
witness_kind_name witness.NotJson = codes "NotJson"
witness_kind_name witness.NotAnObject = codes "NotAnObject"
witness_kind_name witness.MissingTable = codes "MissingTable"
witness_kind_name witness.BadRows = codes "BadRows"
witness_kind_name witness.MissingColumn = codes "MissingColumn"
witness_kind_name witness.NotAText = codes "NotAText"
witness_kind_name witness.BadHex = codes "BadHex"
witness_kind_name witness.WrongLength = codes "WrongLength"
witness_kind_name witness.PaddingBits = codes "PaddingBits"
witness_kind_name witness.ExtraColumn = codes "ExtraColumn"
witness_kind_name witness.ExtraTable = codes "ExtraTable"

abbrev pub place_name : WitnessPlace → List ℕ
place_name Whole = []
place_name (Table t) = codes " at table " ++ decimal t
place_name (Column t c) = codes " at table " ++ decimal t ++ (codes " column " ++ decimal c)

abbrev pub witness_fault_line : WitnessFault → List ℕ
witness_fault_line fault = codes "witness: " ++ witness_kind_name fault.kind ++ place_name fault.place ++ codes "\n"

abbrev pub too_large_line : ℕ → List ℕ
too_large_line log_bits = codes "too large: log bits " ++ decimal log_bits ++ codes "\n"

abbrev pub too_long_line : ℕ → List ℕ
too_long_line limit = codes "too long: more than " ++ decimal limit ++ codes " bytes\n"

abbrev pub words_line : List ℕ
words_line = codes "words\n"

abbrev pub read_fault_line : List ℕ
read_fault_line = codes "read fault\n"

abbrev pub no_memory_line : List ℕ
no_memory_line = codes "no memory\n"

abbrev pub version_line : List ℕ
version_line = codes "bm3 0.1.0\n"

unfoldable pub help_text : List ℕ
help_text =
    codes "bm3 check TABLES WITNESS\n    Says whether a witness satisfies tables. Reads both files and writes none.\n" ++ codes "bm3 print TABLES\n    Prints the canonical text of tables. Reads the file and writes none.\n" ++ codes "bm3 lower TABLES WITNESS ALPHA GAMMA\n    Prints the products of each channel at two numbers. Reads both files and writes none.\n" ++ codes "bm3 count TABLES ROWS..\n    Prints the draws of a proof that are counted, and the proof's length. Reads the file and writes none.\n" ++ codes "bm3 --help\n    Prints this text.\n" ++ codes "bm3 --version\n    Prints the version.\n"
    ++ codes "Statuses:\n    0   satisfied, or what was asked for was printed\n    1   the witness violates the tables\n    2   the words fit no command, or count has another number of rows\n    3   the text of the tables or their shape is refused\n    4   the witness is refused\n"
    ++ codes "    6   a read failed\n    7   a write failed\n    8   the columns take too many bits\n    9   out of memory\n    10  a file is too long\n"
