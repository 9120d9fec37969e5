-- Facts by the answer of a whole read.
-- Source: docs/ENDS.md, "Whole files".
use Rattle.std.specs.Prelude.{Result, Ok, Err}
use Rattle.byte_ends.specs.declared.reading.WholeStop.{WholeStop}
use Rattle.byte_ends.specs.declared.reading.WholeStop.TheVariants.{TooLong, ReadFault, NoMemory}

-- a fact where the answer is that the file is too long
abbrev pub OnTooLong : {X : Type 0} → Result X WholeStop → Type 0 → Type 0
OnTooLong (Ok _) P = Unit {0}
OnTooLong (Err TooLong) P = P
OnTooLong (Err ReadFault) P = Unit {0}
OnTooLong (Err NoMemory) P = Unit {0}

-- a fact where the answer is a read fault
abbrev pub OnReadFault : {X : Type 0} → Result X WholeStop → Type 0 → Type 0
OnReadFault (Ok _) P = Unit {0}
OnReadFault (Err TooLong) P = Unit {0}
OnReadFault (Err ReadFault) P = P
OnReadFault (Err NoMemory) P = Unit {0}

-- a fact where the answer is anything else than a read fault
abbrev pub UnlessReadFault : {X : Type 0} → Result X WholeStop → Type 0 → Type 0
UnlessReadFault (Ok _) P = P
UnlessReadFault (Err TooLong) P = P
UnlessReadFault (Err ReadFault) P = Unit {0}
UnlessReadFault (Err NoMemory) P = P
