use Rattle.std.proofs.Common.{◌∙◌, ◌<◌, length, refl, ap, arith}
use Rattle.std.proofs.lemmas.Option.{slice_get_read, slice_get_within}
use Rattle.table_shape.specs.Parts.{ShapeParts}
use Rattle.m3_judge.proofs.Searching.{TablesAreZero-more, found_in_table}
use Rattle.m3_judge.proofs.constraints.first_nonzero.Goals as goal

pub first_in_table-requires-clause-there : goal.first_in_table-requires-clause-there
first_in_table-requires-clause-there c =
    let all = ap length (c.tables-table-items.ensures.all ∙ ap (λ (s : ShapeParts). s.tables) c.shape.ensures) in
    let below = c.loop-number-test.true in
    omega arith

pub first_in_table-requires-clause-fits : goal.first_in_table-requires-clause-fits
first_in_table-requires-clause-fits c =
    let all = c.tables-table-items.ensures.all in
    let item = rw all at c.table-item.is in
    let below = rw all at c.loop-number-test.true in
    c.tables-table-items.ensures.fits.tables c.loop-number.number c.table-item.result (slice_get_read _ _ _ _ refl below item)

pub returns-in-Some : goal.returns-in-Some
returns-in-Some c =
    let all = c.tables-table-items.ensures.all ∙ ap (λ (s : ShapeParts). s.tables) c.shape.ensures in
    let item = rw all at c.table-item.is in
    let below = rw all at c.loop-number-test.true in
    let found = rw c.rows-rows.ensures.value at c.in-Some.ensures in
    found_in_table c.args.store.now.filling c.args.store.now.shape.tables c.args.store.now.rows c.loop-number.number c.table-item.result c.in-Some.found (slice_get_read _ _ _ _ refl below item) c.loop-number.invariant found.0 found.1

pub loop-number-preserved : goal.loop-number-preserved
loop-number-preserved c =
    let all = c.tables-table-items.ensures.all ∙ ap (λ (s : ShapeParts). s.tables) c.shape.ensures in
    let item = rw all at c.table-item.is in
    let below = rw all at c.loop-number-test.true in
    let none = rw c.rows-rows.ensures.value at c.in_default.ensures in
    TablesAreZero-more c.args.store.now.filling c.args.store.now.shape.tables c.args.store.now.rows c.loop-number.number c.table-item.result (slice_get_read _ _ _ _ refl below item) c.loop-number.invariant none

pub returns : goal.returns
returns c t table z constraint at found =
    let all = c.tables-table-items.ensures.all ∙ ap (λ (s : ShapeParts). s.tables) c.shape.ensures in
    let past = rw all at c.loop-number-test.false in
    let within = slice_get_within c.args.store.now.shape.tables t table at in
    let below : t < c.loop-number.number = omega (arith, past, within) in
    c.loop-number.invariant t table z constraint below at found
