use Rattle.std.proofs.Common.{◌≡◌, ◌^◌}
use Rattle.cube_laws.specs.Sums.{tabulate}
use Rattle.cube_laws.specs.Extension.{extension}
use Rattle.shift_laws.specs.Shifts.{goes, flag}
use Rattle.cube_mle.specs.Moving.{shift_of}
use Rattle.eval_reduce.proofs.shift_prover.moved_table.Given as goal

abbrev pub invariant-loop-p : goal.invariant-loop-p
invariant-loop-p l =
    l.table.items ≡ tabulate l.p (λ p. extension (tabulate (2 ^ l.shifting.block) (λ q. flag (goes (shift_of l.shifting.kind) l.shifting.block l.shifting.offset q p))) l.low)
