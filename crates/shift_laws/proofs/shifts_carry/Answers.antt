use Rattle.shift_laws.proofs.Carries.{up_is, down_is, round_is, carry_start, carry_step}
use Rattle.shift_laws.proofs.shifts_carry.Goals as goal

pub returns : goal.returns
returns c = record { up = up_is; down = down_is; round = round_is; start = carry_start; step = carry_step }
