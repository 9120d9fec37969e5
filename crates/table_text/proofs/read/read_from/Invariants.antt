use Rattle.std.proofs.Common.{◌≡◌, ◌≤◌, ◌-◌, length, drop}
use Rattle.table_text.specs.Lexing.{spots, spots_from}
use Rattle.table_text.specs.Reading.{CountsWithin, begin, reading_from}
use Rattle.table_text.proofs.read.read_from.Given as goal

-- what the pieces that are left make of what was read is what all pieces make
abbrev pub invariant-loop-at : goal.invariant-loop-at
invariant-loop-at l = record {
  left : reading_from l.progress (spots_from l.at 0 (drop l.at l.text)) (length l.text) ≡ reading_from begin (spots l.text) (length l.text);
  within : l.at ≤ length l.text;
  counts : CountsWithin l.progress l.at;
}

abbrev pub decreases-loop-at : goal.decreases-loop-at
decreases-loop-at l = length l.initial.text - l.at
