use Rattle.std.proofs.Common.{◌+◌, drop}
use Rattle.std.proofs.lemmas.Result.{err_from_is_err_and}
use Rattle.serde_json.specs.View.{members_view}
use Rattle.witness_reader.specs.Witness.{columns_bytes}
use Rattle.list_laws.proofs.Lists.{item_here}
use Rattle.witness_reader.proofs.ReadingSteps.{columns_stop, columns_go_on, ends, goes_on}
use Rattle.witness_reader.proofs.witness.columns_bytes.Goals as goal

pub given_bytes-requires : goal.given_bytes-requires
given_bytes-requires c =
    let at = c.requires.sized c.loop-c.c c.index-columns-c.result (item_here c.args.columns.now c.loop-c.c c.index-columns-c.result c.loop-c-test.true c.index-columns-c.is) in
    record { rows_few = c.requires.rows_few; level = at.0; values = at.1 }

pub returns-in_err-bytes : goal.returns-in_err-bytes
returns-in_err-bytes c =
    let object = members_view c.args.object.now.entries in
    let columns = c.args.columns.now in
    let stop = c.in_err-bytes.field-0.0 in
    let p = err_from_is_err_and c.from_residual.result c.from_residual.ensures.1 in
    let here = columns_stop stop c.args.t c.loop-c.c c.args.rows columns c.index-columns-c.result object c.loop-c-test.true c.index-columns-c.is c.in_err-bytes.ensures in
    rw (p.1, p.2) (ends stop c.loop-c.all (columns_bytes c.args.t c.loop-c.c c.args.rows (drop c.loop-c.c columns) object) (columns_bytes c.args.t 0 c.args.rows columns object) here c.loop-c.invariant)

pub loop-c-preserved : goal.loop-c-preserved
loop-c-preserved c =
    let object = members_view c.args.object.now.entries in
    let columns = c.args.columns.now in
    let go_on = columns_go_on c.args.t c.loop-c.c c.args.rows columns c.index-columns-c.result object c.in_ok-bytes.bytes c.loop-c-test.true c.index-columns-c.is c.in_ok-bytes.ensures in
    rw c.in_ok-push.ensures.ok (goes_on c.loop-c.all c.in_ok-bytes.bytes (columns_bytes c.args.t c.loop-c.c c.args.rows (drop c.loop-c.c columns) object) (columns_bytes c.args.t (c.loop-c.c + 1) c.args.rows (drop (c.loop-c.c + 1) columns) object) (columns_bytes c.args.t 0 c.args.rows columns object) go_on c.loop-c.invariant)
