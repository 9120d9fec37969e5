use Rattle.std.proofs.Common.{◌≡◌, ℕ, ◌<◌, ◌≤◌, get_or, bit_xor}
use Rattle.column_store.proofs.column.add_words.Given as goal

abbrev pub invariant-loop-k : goal.invariant-loop-k
invariant-loop-k l = record {
  added : (i : ℕ) → i < l.k → get_or l.words i 0 ≡ bit_xor (get_or l.initial.words i 0) (get_or l.others i 0);
  left : (i : ℕ) → l.k ≤ i → get_or l.words i 0 ≡ get_or l.initial.words i 0;
}
