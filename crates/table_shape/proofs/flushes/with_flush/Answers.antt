use Rattle.std.proofs.Common.{◌≡◌, ◌==◌, true, length, refl, subst, sym, ap, ◌∙◌, arith}
use Rattle.std.specs.List.{list_all}
use Rattle.std.proofs.lemmas.Bool.{lt-leb, eq-eqb}
use Rattle.table_shape.specs.Fits.{TableFits}
use Rattle.table_shape.specs.Shape.{is_selector}
use Rattle.table_shape.specs.Width.{log_values_at, width_at}
use Rattle.table_shape.proofs.FitsSteps.{flush_pushed}
use Rattle.table_shape.proofs.flushes.with_flush.Goals as goal

pub returns-clause-exact : goal.returns-clause-exact
returns-clause-exact c =
    let table = c.args.table in
    let flush = c.in-Some.flush in
    let full = lt-leb 64 (length table.flushes) (omega (arith, ap length c.flushes.ensures)) in
    let known = sym c.in_ok-flush.ensures ∙ c.in-Some.is in
    let wide : (length flush.columns == width_at c.args.channels.now flush.channel) ≡ true =
    eq-eqb (length flush.columns) (width_at c.args.channels.now flush.channel) (sym c.len.ensures ∙ c.if-len-width_at.false ∙ (rw (c.as_slice.ensures) at c.width_at.ensures)) in
    let ones : list_all (λ d. log_values_at table.columns d == 0) flush.columns ≡ true =
    sym (rw (c.columns-columns.ensures, c.as_slice-2.ensures) at c.have_one_value.ensures) ∙ c.if-not-have_one_value.false in
    let bit : is_selector table.columns flush.selector ≡ true = sym (rw (c.columns-columns.ensures) at c.is_selector.ensures) ∙ c.if-not-is_selector.false in
    rw (c.in_ok-add_flush.ensures, full, known, wide, ones, bit) refl

pub returns-clause-fits : goal.returns-clause-fits
returns-clause-fits c = subst TableFits (sym c.in_ok-add_flush.ensures) (flush_pushed c.args.table c.in-Some.flush c.requires.fits (omega (arith, ap length c.flushes.ensures)))
