-- Facts by the answer of a read of a file up to a limit.
-- Source: docs/ENDS.md, "Whole files".
use Rattle.std.specs.Prelude.{Result, Ok, Err}
use Rattle.byte_ends.specs.declared.reading.ReadStop.{ReadStop}
use Rattle.byte_ends.specs.declared.reading.ReadStop.TheVariants.{ReadFault, NoMemory}

-- a fact where the answer is a read fault
abbrev pub OnFault : {X : Type 0} → Result X ReadStop → Type 0 → Type 0
OnFault (Ok _) P = Unit {0}
OnFault (Err ReadFault) P = P
OnFault (Err NoMemory) P = Unit {0}

-- a fact where the answer is anything else than a read fault
abbrev pub UnlessFault : {X : Type 0} → Result X ReadStop → Type 0 → Type 0
UnlessFault (Ok _) P = P
UnlessFault (Err ReadFault) P = Unit {0}
UnlessFault (Err NoMemory) P = P
