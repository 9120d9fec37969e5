-- The number of each status.
-- Source: docs/FORMATS.md, "What is printed".
use Rattle.std.specs.Prelude.{ℕ}
use Rattle.m3_tool.specs.declared.status.Status.{Status}
use Rattle.m3_tool.specs.declared.status.Status.TheVariants.{Yes, No, Words, Tables, Witness, ReadFault, WriteFault, TooLarge, NoMemory, TooLong}

abbrev pub code_of : Status → ℕ
code_of Yes = 0
code_of No = 1
code_of Words = 2
code_of Tables = 3
code_of Witness = 4
code_of ReadFault = 6
code_of WriteFault = 7
code_of TooLarge = 8
code_of NoMemory = 9
code_of TooLong = 10
