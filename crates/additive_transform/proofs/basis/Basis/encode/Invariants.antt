use Rattle.std.proofs.Common.{◌≡◌, ◌*◌, ◌^◌}
use Rattle.cube_laws.specs.Sums.{tabulate}
use Rattle.word_laws.specs.CodeWord.{word}
use Rattle.additive_transform.proofs.basis.Basis.encode.Given as goal

abbrev pub invariant-loop-block : goal.invariant-loop-block
invariant-loop-block l = l.word.items ≡ tabulate (l.block * 2 ^ l.log) (word 0 l.log l.values)
