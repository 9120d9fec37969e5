use Rattle.std.proofs.Common.{◌≡◌, ℕ, ◌≤◌, ◌++◌, map, drop}
use Rattle.std.specs.Prelude.{slice_index, string_bytes}
use Rattle.std.specs.Option.{option_map}
use Rattle.table_shape.specs.Limits.{max_rows}
use Rattle.m3_tool.specs.Command.{row_counts_of}
use Rattle.m3_tool.proofs.words.rows_of.Given as goal

-- the numbers so far and those of the words that are left
abbrev pub invariant-loop-word : goal.invariant-loop-word
invariant-loop-word l = record {
  made : option_map (λ more. l.rows.items ++ more) (row_counts_of (map string_bytes (drop l.word-index l.words))) ≡ row_counts_of (map string_bytes l.words);
  few : (t : ℕ) → slice_index l.rows.items t ≤ max_rows;
}
