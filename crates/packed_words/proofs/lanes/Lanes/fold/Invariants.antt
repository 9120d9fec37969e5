use Rattle.std.proofs.Common.{◌++◌, ◌/◌, length}
use Rattle.cube_laws.specs.Extension.{fold_low}
use Rattle.cube_laws.specs.Sums.{tabulate}
use Rattle.packed_words.proofs.Packed.{Until}
use Rattle.packed_words.proofs.lanes.Lanes.fold.Given as goal

abbrev pub invariant-loop-i : goal.invariant-loop-i
invariant-loop-i g l = Until l.i (fold_low (g.F.Tower.number l.r) l.self ++ tabulate (length l.self / 2) (λ _. 0)) l.initial.folded l.folded
