use Rattle.column_store.proofs.Words.{are_enough}
use Rattle.column_store.proofs.column.words_for.Goals as goal

pub returns : goal.returns
returns c = record { enough = are_enough c.args.count c.args.level c.requires.is_a_level c.requires.few }
