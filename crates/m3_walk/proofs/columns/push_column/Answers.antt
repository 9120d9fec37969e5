use Rattle.std.proofs.Common.{ap, arith}
use Rattle.list_laws.specs.CeilLog.{ceil_log}
use Rattle.list_laws.proofs.Powers.{log_of_rows}
use Rattle.m3_walk.proofs.columns.push_column.Goals as goal

pub overflow_add-vars : goal.overflow_add-vars
overflow_add-vars c = omega (arith, log_of_rows c.args.rows c.requires.few_rows, c.ceil_log.ensures, ap ceil_log c.from.ensures, c.requires.small.log_values)

pub push_merge-requires : goal.push_merge-requires
push_merge-requires c = omega (arith, log_of_rows c.args.rows c.requires.few_rows, c.ceil_log.ensures, ap ceil_log c.from.ensures, c.requires.small.log_values)
