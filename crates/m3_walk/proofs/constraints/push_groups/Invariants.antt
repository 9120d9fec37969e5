use Rattle.std.proofs.Common.{◌≡◌, ◌++◌}
use Rattle.std.specs.List.{flat_map}
use Rattle.cube_laws.specs.Sums.{tabulate}
use Rattle.m3_walk.specs.Course.{group_stages}
use Rattle.m3_walk.proofs.constraints.push_groups.Given as goal

abbrev pub invariant-loop-log : goal.invariant-loop-log
invariant-loop-log l = l.stages.items ≡ l.initial.stages.items ++ flat_map (group_stages l.shape.tables l.rows l.t) (tabulate l.log (λ v. v))
