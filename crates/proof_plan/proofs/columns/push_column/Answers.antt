use Rattle.std.proofs.Common.{ap, arith}
use Rattle.list_laws.specs.CeilLog.{ceil_log}
use Rattle.proof_plan.proofs.EntrySteps.{log_small}
use Rattle.proof_plan.proofs.columns.push_column.Goals as goal

pub overflow_add-vars : goal.overflow_add-vars
overflow_add-vars c = omega (arith, log_small c.args.rows c.ranges.rows.fits, c.ceil_log.ensures, ap ceil_log c.from.ensures, c.requires.log_values)
