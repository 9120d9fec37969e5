use Rattle.shift_laws.proofs.Steps.{step_none, step_all, step_low, step_high, step_rows}
use Rattle.shift_laws.proofs.steps_go_down.Goals as goal

pub returns : goal.returns
returns c = record { none_below = step_none; all_below = step_all; in_lower_half = step_low; in_upper_half = step_high; rows = step_rows }
