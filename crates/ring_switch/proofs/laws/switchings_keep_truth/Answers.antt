use Rattle.ring_switch.proofs.SwitchLaws.{rows_tell, switching_lawful, vectors_counted}
use Rattle.ring_switch.proofs.laws.switchings_keep_truth.Goals as goal

pub returns : goal.returns
returns c = record { lawful = switching_lawful; together = rows_tell; counted = vectors_counted }
