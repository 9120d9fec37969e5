use Rattle.eval_reduce.proofs.ShiftLaws.{shift_lawful, shifts_keep}
use Rattle.eval_reduce.proofs.laws.shiftings_keep_truth.Goals as goal

pub returns : goal.returns
returns c = record { lawful = shift_lawful; same = shifts_keep }
