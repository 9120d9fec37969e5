use Rattle.table_shape.specs.Placement.{blocks}
use Rattle.oracle_lowering.proofs.Spots.{word_of_place}
use Rattle.oracle_lowering.proofs.tests.packed_bit.Goals as goal

pub packed-requires : goal.packed-requires
packed-requires c = word_of_place (blocks c.args.lowered.now.shape.tables c.args.lowered.now.rows) c.args.place c.requires
