use Rattle.std.proofs.Common.{ap, subst}
use Rattle.table_shape.specs.Parts.{ShapeParts}
use Rattle.table_shape.specs.Fits.{ShapeFits}
use Rattle.oracle_lowering.proofs.Satisfied.{satisfied}
use Rattle.oracle_lowering.proofs.products.follows_from_the_tables.Goals as goal

pub returns : goal.returns
returns c holds = satisfied c.args.store.now.shape c.args.store.now.rows c.args.store.now.filling (subst ShapeFits c.shape.ensures c.tables-tables.ensures.fits) c.rows-rows.ensures.fills holds c.args.alpha c.args.gamma
