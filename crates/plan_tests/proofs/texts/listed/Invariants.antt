use Rattle.std.proofs.Common.{◌≡◌, ◌++◌}
use Rattle.proof_format.specs.Pieces.{pieces}
use Rattle.plan_tests.proofs.texts.listed.Given as goal

abbrev pub invariant-loop-piece : goal.invariant-loop-piece
invariant-loop-piece l = l.list.items ++ l.piece-iterator ≡ pieces l.plan.packed_log 0 l.plan.entries
