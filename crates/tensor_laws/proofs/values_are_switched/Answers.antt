use Rattle.tensor_laws.proofs.Switching.{message_tells, switched, scaled-rows, tensor_rows, combined_at}
use Rattle.tensor_laws.proofs.values_are_switched.Goals as goal

pub returns : goal.returns
returns c = record { message = message_tells; switch = switched; multiples = scaled-rows; rows = tensor_rows; at_point = combined_at }
