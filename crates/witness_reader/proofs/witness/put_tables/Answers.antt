use Rattle.std.proofs.Common.{ℕ, List, get_or, ap, sym, subst, ◌∙◌, arith}
use Rattle.list_laws.proofs.Lists.{item_here}
use Rattle.column_store.specs.Draft.{Drafted}
use Rattle.column_store.specs.Spelled.{table_values}
use Rattle.witness_reader.specs.Putting.{AreColumnsSpelled}
use Rattle.witness_reader.proofs.Putting.{tables_ended, table_waits, table_taken, drafted_as}
use Rattle.witness_reader.proofs.witness.put_tables.Goals as goal
use Rattle.std.proofs.Math.ListN.{set}

pub put_columns-requires-clause-place : goal.put_columns-requires-clause-place
put_columns-requires-clause-place c =
    let here = item_here c.args.tables.now c.loop-t.t c.index-tables-t.result c.loop-t-test.true c.index-tables-t.is in
    (table_waits c.args.draft.now c.loop-t.draft c.args.tables.now c.args.bytes.now c.loop-t.t c.index-tables-t.result c.requires.spelled.rows_count c.requires.spelled.counts here c.loop-t.invariant).0

pub put_columns-requires-clause-spelled : goal.put_columns-requires-clause-spelled
put_columns-requires-clause-spelled c =
    let here = item_here c.args.tables.now c.loop-t.t c.index-tables-t.result c.loop-t-test.true c.index-tables-t.is in
    let own = item_here c.args.bytes.now c.loop-t.t c.index-bytes-t.result (let a = c.loop-t-test.true in let k = c.requires.spelled.counts in omega arith) c.index-bytes-t.is in
    let spelled = c.requires.spelled.each c.loop-t.t c.index-tables-t.result c.index-bytes-t.result here own in
    subst (λ (b : List (List ℕ)). AreColumnsSpelled (get_or c.loop-t.draft.rows c.loop-t.t 0) c.index-tables-t.result.columns b) (sym c.as_slice.ensures)
    (subst (λ (n : Drafted). AreColumnsSpelled (get_or n.rows c.loop-t.t 0) c.index-tables-t.result.columns c.index-bytes-t.result) (sym c.loop-t.invariant) spelled)

pub put_columns-requires-clause-zero : goal.put_columns-requires-clause-zero
put_columns-requires-clause-zero c =
    let here = item_here c.args.tables.now c.loop-t.t c.index-tables-t.result c.loop-t-test.true c.index-tables-t.is in
    (table_waits c.args.draft.now c.loop-t.draft c.args.tables.now c.args.bytes.now c.loop-t.t c.index-tables-t.result c.requires.spelled.rows_count c.requires.spelled.counts here c.loop-t.invariant).1

pub loop-t-preserved : goal.loop-t-preserved
loop-t-preserved c =
    let here = item_here c.args.tables.now c.loop-t.t c.index-tables-t.result c.loop-t-test.true c.index-tables-t.is in
    let own = item_here c.args.bytes.now c.loop-t.t c.index-bytes-t.result (let a = c.loop-t-test.true in let k = c.requires.spelled.counts in omega arith) c.index-bytes-t.is in
    let now = c.loop-t.draft in
    table_taken c.args.draft.now now c.put_columns.new.draft c.args.tables.now c.args.bytes.now c.loop-t.t c.index-tables-t.result c.index-bytes-t.result c.requires.spelled.rows_count c.requires.spelled.counts here own c.loop-t.invariant
    (c.put_columns.ensures ∙ ap (λ (b : List (List ℕ)). drafted_as now (set now.values c.loop-t.t (table_values (get_or now.rows c.loop-t.t 0) c.index-tables-t.result.columns b))) c.as_slice.ensures)

pub returns : goal.returns
returns c = c.loop-t.invariant ∙ tables_ended c.args.draft.now c.args.tables.now c.args.bytes.now c.loop-t.t c.requires.spelled.rows_count c.requires.spelled.counts c.loop-t-test.false
