use Rattle.std.proofs.Common.{Vec, Global, ◌≡◌, ◌<◌, ◌≤◌, length, refl, sym, ◌∙◌, ap, arith}
use Rattle.table_shape.specs.Channels.{is_taken, rows_below, tuple_at}
use Rattle.table_shape.specs.Filling.{values_of}
use Rattle.m3_judge.specs.declared.source.Source.{Source}
use Rattle.m3_judge.specs.Sources.{row_tuple, tuple_of}
use Rattle.m3_judge.proofs.Collecting.{pushed, skipped, pushed_all, row_at, rows_count}
use Rattle.m3_judge.proofs.source.push_rows.Goals as goal
use Rattle.m3_judge.proofs.source.push_rows.Goals.{then-takes+in_ok-push, else-takes}

pub loop-row-init : goal.loop-row-init
loop-row-init c = refl

pub loop-row-preserved : goal.loop-row-preserved
loop-row-preserved c =
    let tuple = tuple_of c.args.store.now.shape c.args.store.now.filling in
    let values = values_of c.args.store.now.filling c.args.table in
    let flush = c.args.flush.now in
    let row = c.loop-row.row in
    let below : row < length (rows_below c.args.rows) = let e = rows_count c.args.rows in let b = c.loop-row-test.true in omega arith in
    let at = row_at c.args.rows row c.loop-row-test.true in
    let same : row_tuple values row _ ≡ tuple_at values flush row = ap (row_tuple values row) c.requires.is in
    elim c.if-takes.branch [
      | then-takes+in_ok-push w ↦
          pushed tuple (tuple_at values flush) (is_taken values flush.selector) (rows_below c.args.rows) row row _ c.loop-row.sources.items c.if-takes.sources.items _ below at (sym c.takes.ensures ∙ w.if-takes.true) same (ap (λ (v : Vec Source Global). v.items) w.sources-is ∙ w.in_ok-push.ensures.items) c.loop-row.invariant
      | else-takes w ↦
          skipped tuple (tuple_at values flush) (is_taken values flush.selector) (rows_below c.args.rows) row row c.loop-row.sources.items c.if-takes.sources.items _ below at (sym c.takes.ensures ∙ w.if-takes.false) (ap (λ (v : Vec Source Global). v.items) w.sources-is) c.loop-row.invariant
    ]

pub returns : goal.returns
returns c =
    let tuple = tuple_of c.args.store.now.shape c.args.store.now.filling in
    let values = values_of c.args.store.now.filling c.args.table in
    let flush = c.args.flush.now in
    let past : length (rows_below c.args.rows) ≤ c.loop-row.row = let e = rows_count c.args.rows in let b = c.loop-row-test.false in omega arith in
    pushed_all tuple (tuple_at values flush) (is_taken values flush.selector) (rows_below c.args.rows) c.loop-row.row c.loop-row.sources.items _ past c.loop-row.invariant
