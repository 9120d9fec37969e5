use Rattle.std.proofs.Common.{◌≡◌, map, drop}
use Rattle.std.specs.Prelude.{is_some, string_bytes}
use Rattle.m3_tool.specs.Command.{row_counts_of}
use Rattle.m3_tool.proofs.words.are_row_counts.Given as goal

-- the words that are left decide
abbrev pub invariant-loop-word : goal.invariant-loop-word
invariant-loop-word l = is_some (row_counts_of (map string_bytes (drop l.word-index l.words))) ≡ is_some (row_counts_of (map string_bytes l.words))
