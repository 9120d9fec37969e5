use Rattle.table_shape.proofs.MeantShape.{shaped_where_meant}
use Rattle.table_shape.proofs.resolving.shaped_where_meant.Goals as goal

pub returns : goal.returns
returns c = shaped_where_meant
