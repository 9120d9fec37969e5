use Rattle.std.proofs.Common.{◌≡◌, ◌++◌}
use Rattle.std.specs.List.{flat_map}
use Rattle.cube_laws.specs.Sums.{tabulate}
use Rattle.proof_plan.specs.Plan.{group_columns}
use Rattle.proof_plan.proofs.columns.push_all_group_columns.Given as goal

abbrev pub invariant-loop-log : goal.invariant-loop-log
invariant-loop-log l = l.claimed.items ≡ l.initial.claimed.items ++ flat_map (λ v. group_columns v l.table) (tabulate l.log (λ v. v))
