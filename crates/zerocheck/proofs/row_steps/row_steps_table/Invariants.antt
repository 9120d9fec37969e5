use Rattle.std.proofs.Common.{◌≡◌, ◌*◌, ◌^◌, ltb}
use Rattle.cube_laws.specs.Sums.{tabulate}
use Rattle.shift_laws.specs.Shifts.{flag}
use Rattle.zerocheck.proofs.row_steps.row_steps_table.Given as goal

abbrev pub invariant-loop-p : goal.invariant-loop-p
invariant-loop-p l = (l.on_rows ≡ l.group.rows * 2 ^ l.group.log_values) × (l.table.items ≡ tabulate l.p (λ p. flag (ltb p (l.group.rows * 2 ^ l.group.log_values))))
