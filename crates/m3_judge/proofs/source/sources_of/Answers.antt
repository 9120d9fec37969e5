use Rattle.std.proofs.Common.{refl}
use Rattle.std.proofs.lemmas.Option.{slice_get_read}
use Rattle.m3_judge.proofs.source.sources_of.Goals as goal

pub push_flushes-requires-clause-fits : goal.push_flushes-requires-clause-fits
push_flushes-requires-clause-fits c =
    let all = c.tables-table-items.ensures.all in
    let item = rw all at c.table-item.is in
    let below = rw all at c.loop-number-test.true in
    c.tables-table-items.ensures.fits.tables c.loop-number.number c.table-item.result (slice_get_read _ _ _ _ refl below item)
