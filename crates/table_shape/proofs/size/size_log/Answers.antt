use Rattle.std.proofs.Common.{◌≡◌, ◌≤◌, length, drop, get_or, ap, ◌∙◌, arith}
use Rattle.list_laws.specs.CeilLog.{ceil_log}
use Rattle.table_shape.specs.Size.{tables_bits, columns_bits}
use Rattle.table_shape.proofs.Bits.{table_at, tables_more, tables_done}
use Rattle.table_shape.proofs.size.size_log.Goals as goal

pub columns_bits-bits-requires-clause-few : goal.columns_bits-bits-requires-clause-few
columns_bits-bits-requires-clause-few c =
    rw c.as_slice.ensures (table_at c.loop-t.t c.args.shape.now c.tables-table-items.result.now c.table-item.result c.tables-table-items.ensures.all c.loop-t-test.true c.table-item.is c.tables-table-items.ensures.fits).0

pub columns_bits-bits-requires-clause-fit : goal.columns_bits-bits-requires-clause-fit
columns_bits-bits-requires-clause-fit c =
    rw c.as_slice.ensures (table_at c.loop-t.t c.args.shape.now c.tables-table-items.result.now c.table-item.result c.tables-table-items.ensures.all c.loop-t-test.true c.table-item.is c.tables-table-items.ensures.fits).1

pub overflow_add-bits : goal.overflow_add-bits
overflow_add-bits c =
    let few : length c.tables-table-items.result.now ≤ 64 = rw c.tables-table-items.ensures.all c.tables-table-items.ensures.fits.few_tables in
    omega (arith, few, c.columns_bits-bits.ensures.bound, c.loop-t.invariant.bound)

pub loop-t-preserved : goal.loop-t-preserved
loop-t-preserved c =
    let same = ap length c.tables-table-items.ensures.all in
    let more = tables_more c.loop-t.t c.tables-table-items.result.now c.args.rows.now c.table-item.result c.loop-t-test.true c.table-item.is (omega (arith, c.requires.counts, same)) in
    let one = ap (columns_bits (get_or c.args.rows.now c.loop-t.t 0)) c.as_slice.ensures in
    record {
      sum = omega (arith, more, one, c.columns_bits-bits.ensures.value, c.loop-t.invariant.sum);
      bound = omega (arith, c.columns_bits-bits.ensures.bound, c.loop-t.invariant.bound);
    }

pub returns : goal.returns
returns c =
    let done = tables_done c.loop-t.t c.tables-table-items.result.now (drop c.loop-t.t c.args.rows.now) c.loop-t-test.false in
    let all : c.loop-t.bits ≡ tables_bits c.tables-table-items.result.now c.args.rows.now = omega (arith, done, c.loop-t.invariant.sum) in
    c.ceil_log.ensures ∙ ap ceil_log (all ∙ ap (λ ts. tables_bits ts c.args.rows.now) c.tables-table-items.ensures.all)
