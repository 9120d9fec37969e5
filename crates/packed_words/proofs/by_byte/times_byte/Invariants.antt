use Rattle.std.proofs.Common.{◌≡◌, ◌*◌, ◌%◌, ◌^◌}
use Rattle.tower_laws.specs.Tower.{mul}
use Rattle.packed_words.proofs.by_byte.times_byte.Given as goal

abbrev pub invariant-loop-place : goal.invariant-loop-place
invariant-loop-place l = l.product ≡ mul l.factor (l.number % 2 ^ (8 * l.place))
