use Rattle.witness_reader.proofs.GivenWitness.{read_where_given}
use Rattle.witness_reader.proofs.witness.read_where_given.Goals as goal

pub returns : goal.returns
returns c = read_where_given
