use Rattle.std.proofs.Common.{ap, sym, subst, ◌∙◌, arith}
use Rattle.std.specs.List.{slice_get}
use Rattle.table_shape.specs.Parts.{ShapeParts}
use Rattle.column_store.specs.Draft.{IsDraft, zeros_of}
use Rattle.column_store.proofs.Kept.{zero_draft}
use Rattle.column_store.proofs.draft.Draft.new.Goals as goal

pub zero_tables-requires-clause-fit : goal.zero_tables-requires-clause-fit
zero_tables-requires-clause-fit c t table e = c.tables.ensures.fits.tables t table (ap (λ ts. slice_get ts t) (sym c.tables.ensures.all) ∙ e)

pub invariant_of-result : goal.invariant_of-result
invariant_of-result c =
    let tables = c.args.shape.now.tables in
    let rows = c.args.rows.now in
    let draft = zero_draft tables rows (record { counts = c.requires.counts; few = c.requires.few; small = omega (arith, c.size_log-log_bits.ensures, c.if-log_bits-gt-MAX_SIZE_LOG.false) }) in
    let made = c.in_ok-tables.ensures ∙ ap (λ ts. zeros_of ts rows) c.tables.ensures.all in
    let stored = subst (IsDraft tables rows) (sym made) draft in
    let with_rows = subst (λ rs. IsDraft tables rs c.in_ok-tables.tables.items) (sym c.in_ok-rows.ensures) stored in
    subst (λ (s : ShapeParts). IsDraft s.tables c.in_ok-rows.rows c.in_ok-tables.tables.items) (sym c.in_ok-shape.ensures) with_rows
