use Rattle.proof_plan.proofs.SmallShape.{tables_small}
use Rattle.proof_plan.proofs.plan.all_entries.Goals as goal

pub push_channels-requires-clause-small : goal.push_channels-requires-clause-small
push_channels-requires-clause-small c = tables_small c.args.shape.now c.tables-tables.ensures.fits

pub push_constraints-requires-clause-small : goal.push_constraints-requires-clause-small
push_constraints-requires-clause-small c = rw c.tables-tables.ensures.all (tables_small c.args.shape.now c.tables-tables.ensures.fits)

pub push_tables-requires-clause-small : goal.push_tables-requires-clause-small
push_tables-requires-clause-small c = rw c.tables-tables.ensures.all (tables_small c.args.shape.now c.tables-tables.ensures.fits)
