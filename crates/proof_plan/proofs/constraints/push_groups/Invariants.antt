use Rattle.std.proofs.Common.{◌≡◌, ◌++◌}
use Rattle.std.specs.List.{flat_map}
use Rattle.cube_laws.specs.Sums.{tabulate}
use Rattle.proof_plan.specs.Plan.{group_entries}
use Rattle.proof_plan.proofs.constraints.push_groups.Given as goal

abbrev pub invariant-loop-log : goal.invariant-loop-log
invariant-loop-log l = l.entries.items ≡ l.initial.entries.items ++ flat_map (group_entries l.rows l.table) (tabulate l.log (λ v. v))
