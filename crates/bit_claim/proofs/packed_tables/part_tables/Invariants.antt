use Rattle.std.proofs.Common.{◌≡◌, ◌++◌, drop}
use Rattle.bit_claim.specs.PackedSum.{high_of, low_of, tables_of}
use Rattle.bit_claim.specs.Words.{part_tables, word_bits}
use Rattle.bit_claim.proofs.packed_tables.part_tables.Given as goal

abbrev pub invariant-loop-i : goal.invariant-loop-i
invariant-loop-i l = l.tables ++ part_tables (low_of l.fn.batch.blocks) (high_of l.fn.batch.blocks) word_bits l.words l.fn.batch.lambda l.factor (drop l.i l.fn.batch.claims) ≡ tables_of l.fn.batch l.words
