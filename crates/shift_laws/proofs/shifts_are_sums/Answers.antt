use Rattle.shift_laws.proofs.Moves.{shift_is_sum, shift_last, shifted_fits}
use Rattle.shift_laws.proofs.shifts_are_sums.Goals as goal

pub returns : goal.returns
returns c = record { sums = record { sum = shift_is_sum; final = shift_last }; levels = shifted_fits }
