use Rattle.std.proofs.Common.{arith}
use Rattle.list_laws.proofs.Powers.{rows_shift_is}
use Rattle.column_store.proofs.bits.written_bits.Goals as goal

pub returns-clause-value : goal.returns-clause-value
returns-clause-value c = (rows_shift_is c.from.result c.args.rows c.args.column.now.log_values c.args.column.now.level c.from.ensures c.requires.rows_few c.requires.values c.requires.level).0

pub returns-clause-bound : goal.returns-clause-bound
returns-clause-bound c =
    let s = rows_shift_is c.from.result c.args.rows c.args.column.now.log_values c.args.column.now.level c.from.ensures c.requires.rows_few c.requires.values c.requires.level in
    omega (arith, s.0, s.1)
