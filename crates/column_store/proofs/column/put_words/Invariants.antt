use Rattle.std.proofs.Common.{◌≡◌, ℕ, ◌<◌, ◌*◌, ◌/◌, ◌%◌, ◌^◌, get_or}
use Rattle.column_store.specs.Digits.{number_of_bytes}
use Rattle.column_store.proofs.column.put_words.Given as goal

abbrev pub invariant-loop-k : goal.invariant-loop-k
invariant-loop-k l = (j : ℕ) → j < l.k → get_or l.words j 0 ≡ number_of_bytes l.bytes / 2 ^ (128 * j) % 2 ^ 128
