use Rattle.std.proofs.Common.{◌≡◌, ◌≤◌, ◌^◌, length, drop, map}
use Rattle.cube_laws.specs.Extension.{weights}
use Rattle.batch_laws.specs.Batch.{batched}
use Rattle.eval_reduce.specs.Merge.{points}
use Rattle.eval_reduce.proofs.merge_prover.batch_table.Given as goal

abbrev pub invariant-loop-i : goal.invariant-loop-i
invariant-loop-i l = (l.i ≤ length l.claims) × (l.cells.items ≡ batched (2 ^ l.vars) l.mu (map weights (points (drop l.i l.claims))))

abbrev pub decreases-loop-i : goal.decreases-loop-i
decreases-loop-i l = l.i
