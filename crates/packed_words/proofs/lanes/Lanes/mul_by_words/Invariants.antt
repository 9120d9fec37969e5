use Rattle.std.proofs.Common.{◌≡◌, ℕ, ◌<◌, ◌≤◌, length, get_or}
use Rattle.packed_words.specs.LaneWords.{AreProducts}
use Rattle.packed_words.proofs.lanes.Lanes.mul_by_words.Given as goal

abbrev pub invariant-loop-w : goal.invariant-loop-w
invariant-loop-w g l = record {
  long : length l.self-inside.words ≡ g.row.W;
  done : (k : ℕ) → k < l.w → AreProducts g.F.Tower.LEVEL (get_or l.initial.self-inside.words k 0) (get_or l.other-inside.words k 0) (get_or l.self-inside.words k 0);
  left : (k : ℕ) → l.w ≤ k → get_or l.self-inside.words k 0 ≡ get_or l.initial.self-inside.words k 0;
}
