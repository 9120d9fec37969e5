use Rattle.std.proofs.Common.{drop, sym, ◌∙◌}
use Rattle.std.proofs.lemmas.Result.{err_from_is_err_and}
use Rattle.serde_json.specs.View.{members_view}
use Rattle.list_laws.proofs.Lists.{item_here}
use Rattle.witness_reader.specs.Witness.{tables_bytes}
use Rattle.witness_reader.proofs.ReadingSteps.{bytes_from, tables_stop_at_object, tables_stop_at_bytes, tables_end, same_bytes, stops_along, ends, is_done}
use Rattle.witness_reader.proofs.witness.tables_bytes.Goals as goal

pub table_bytes-requires-clause-fit : goal.table_bytes-requires-clause-fit
table_bytes-requires-clause-fit c = c.requires.fit c.loop-t.t c.index-tables-t.result (item_here c.args.tables.now c.loop-t.t c.index-tables-t.result c.loop-t-test.true c.index-tables-t.is)

pub returns-in_err-object : goal.returns-in_err-object
returns-in_err-object c = λ objects e.
    let whole = members_view c.args.whole.now.entries in
    let tables = c.args.tables.now in
    let stop = c.in_err-object.field-0.0 in
    let p = err_from_is_err_and c.from_residual.result c.from_residual.ensures.1 in
    let here = tables_stop_at_object stop c.loop-t.t tables c.index-tables-t.result whole c.loop-t-test.true c.index-tables-t.is c.in_err-object.ensures.object in
    let all = ends stop c.loop-t.all (bytes_from c.loop-t.t (drop c.loop-t.t tables) whole) (bytes_from 0 tables whole) here c.loop-t.invariant in
    rw (p.1, p.2) (stops_along stop (bytes_from 0 tables whole) (tables_bytes 0 tables objects) (sym (same_bytes 0 tables whole objects e)) all)

pub returns-in_err-bytes : goal.returns-in_err-bytes
returns-in_err-bytes c = λ objects e.
    let whole = members_view c.args.whole.now.entries in
    let tables = c.args.tables.now in
    let stop = c.in_err-bytes.field-0.0 in
    let p = err_from_is_err_and c.from_residual-in_err-bytes.result c.from_residual-in_err-bytes.ensures.1 in
    let here = tables_stop_at_bytes stop c.loop-t.t tables c.index-tables-t.result whole (members_view c.in_ok-object.object.now.entries, c.in_ok-object.rows) c.loop-t-test.true c.index-tables-t.is c.in_ok-object.ensures.object c.in_err-bytes.ensures in
    let all = ends stop c.loop-t.all (bytes_from c.loop-t.t (drop c.loop-t.t tables) whole) (bytes_from 0 tables whole) here c.loop-t.invariant in
    rw (p.1, p.2) (stops_along stop (bytes_from 0 tables whole) (tables_bytes 0 tables objects) (sym (same_bytes 0 tables whole objects e)) all)

pub returns : goal.returns
returns c = λ objects e.
    let whole = members_view c.args.whole.now.entries in
    let tables = c.args.tables.now in
    sym (same_bytes 0 tables whole objects e) ∙ is_done c.loop-t.all (bytes_from c.loop-t.t (drop c.loop-t.t tables) whole) (bytes_from 0 tables whole) (tables_end c.loop-t.t tables whole c.loop-t-test.false) c.loop-t.invariant
