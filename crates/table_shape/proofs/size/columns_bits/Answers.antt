use Rattle.std.proofs.Common.{◌≡◌, ◌≤◌, ◌^◌, ◌+◌, ap, ◌∙◌, arith}
use Rattle.list_laws.specs.CeilLog.{ceil_log}
use Rattle.list_laws.proofs.Powers.{log_of_rows, shift_is}
use Rattle.table_shape.proofs.Bits.{column_here, columns_more, columns_done}
use Rattle.table_shape.proofs.size.columns_bits.Goals as goal

pub overflow_add-bits : goal.overflow_add-bits
overflow_add-bits c =
    let at = column_here c.loop-column.column-index c.args.columns.now c.column-item.result c.loop-column-test.true c.column-item.is c.requires.fit in
    omega (arith, log_of_rows c.args.rows c.requires.rows_few, c.ceil_log-log_rows.ensures, ap ceil_log c.from.ensures, at.0, at.1)

pub overflow_add-bits-in-loop-column : goal.overflow_add-bits-in-loop-column
overflow_add-bits-in-loop-column c =
    let at = column_here c.loop-column.column-index c.args.columns.now c.column-item.result c.loop-column-test.true c.column-item.is c.requires.fit in
    omega (arith, log_of_rows c.args.rows c.requires.rows_few, c.ceil_log-log_rows.ensures, ap ceil_log c.from.ensures, at.0, at.1)

pub overflow_shl-bits : goal.overflow_shl-bits
overflow_shl-bits c =
    let at = column_here c.loop-column.column-index c.args.columns.now c.column-item.result c.loop-column-test.true c.column-item.is c.requires.fit in
    omega (arith, log_of_rows c.args.rows c.requires.rows_few, c.ceil_log-log_rows.ensures, ap ceil_log c.from.ensures, at.0, at.1)

pub overflow_add-bits-in-loop-column-2 : goal.overflow_add-bits-in-loop-column-2
overflow_add-bits-in-loop-column-2 c =
    let at = column_here c.loop-column.column-index c.args.columns.now c.column-item.result c.loop-column-test.true c.column-item.is c.requires.fit in
    let log : c.ceil_log-log_rows.result ≤ 20 = omega (arith, log_of_rows c.args.rows c.requires.rows_few, c.ceil_log-log_rows.ensures, ap ceil_log c.from.ensures) in
    let s = shift_is c.ceil_log-log_rows.result c.column-item.result.log_values c.column-item.result.level log at.1 at.0 in
    omega (arith, s.0, s.1, c.loop-column.invariant.bound, c.requires.few)

pub loop-column-preserved : goal.loop-column-preserved
loop-column-preserved c =
    let at = column_here c.loop-column.column-index c.args.columns.now c.column-item.result c.loop-column-test.true c.column-item.is c.requires.fit in
    let log : c.ceil_log-log_rows.result ≤ 20 = omega (arith, log_of_rows c.args.rows c.requires.rows_few, c.ceil_log-log_rows.ensures, ap ceil_log c.from.ensures) in
    let s = shift_is c.ceil_log-log_rows.result c.column-item.result.log_values c.column-item.result.level log at.1 at.0 in
    let more = columns_more c.args.rows c.loop-column.column-index c.args.columns.now c.column-item.result c.loop-column-test.true c.column-item.is in
    let same : 2 ^ (c.ceil_log-log_rows.result + c.column-item.result.log_values + c.column-item.result.level) ≡ 2 ^ (ceil_log c.args.rows + c.column-item.result.log_values + c.column-item.result.level) = ap (λ n. 2 ^ (n + c.column-item.result.log_values + c.column-item.result.level)) (c.ceil_log-log_rows.ensures ∙ ap ceil_log c.from.ensures) in
    record {
      sum = omega (arith, s.0, more, same, c.loop-column.invariant.sum);
      bound = omega (arith, s.0, s.1, c.loop-column.invariant.bound);
    }

pub returns-clause-value : goal.returns-clause-value
returns-clause-value c = omega (arith, columns_done c.args.rows c.loop-column.column-index c.args.columns.now c.loop-column-test.false, c.loop-column.invariant.sum)
