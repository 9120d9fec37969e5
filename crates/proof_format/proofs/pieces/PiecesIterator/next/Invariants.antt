use Rattle.std.proofs.Common.{◌≡◌, ◌++◌, ◌-◌, length}
use Rattle.proof_format.specs.Openings.{entries_left}
use Rattle.proof_format.proofs.pieces.PiecesIterator.next.Given as goal

abbrev pub invariant-loop-piece : goal.invariant-loop-piece
invariant-loop-piece l = l.self-inside.openings ++ entries_left l.self-inside.plan.now l.self-inside.next ≡ l.fn.self

abbrev pub decreases-loop-piece : goal.decreases-loop-piece
decreases-loop-piece l = length l.self-inside.plan.now.entries - l.self-inside.next
