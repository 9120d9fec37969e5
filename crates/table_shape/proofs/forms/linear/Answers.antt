use Rattle.std.proofs.Common.{Ok, ap, sym, ◌∙◌}
use Rattle.table_shape.specs.Shape.{repeats}
use Rattle.table_shape.specs.declared.shape.ShapeForm.TheVariants as form
use Rattle.table_shape.proofs.FormSteps.{linear_ok, linear_unequal, widths_are}
use Rattle.table_shape.proofs.forms.linear.Goals as goal

pub returns-then-not-have_width : goal.returns-then-not-have_width
returns-then-not-have_width c =
    let w = widths_are c.args.table.now.columns c.in-Some.terms c.as_slice-2.result.now c.as_slice-3.result.now c.terms_width-log_values.result c.have_width.result c.as_slice-2.ensures (rw (c.columns-columns.ensures) at c.terms_width-log_values.ensures.value) c.as_slice-3.ensures (rw (c.columns-columns.ensures) at c.have_width.ensures) in
    let due = linear_unequal c.args.item c.args.table.now.columns c.args.constant _ c.in-Some.terms (sym c.in_ok-terms.ensures ∙ c.in-Some.is) (ap repeats (sym c.as_slice.ensures) ∙ sym c.repeats.ensures ∙ c.if-repeats.false) (sym w ∙ c.if-not-have_width.true) in
    rw (c.refused-then-not-have_width.ensures) due

pub returns : goal.returns
returns c =
    let w = widths_are c.args.table.now.columns c.in-Some.terms c.as_slice-2.result.now c.as_slice-3.result.now c.terms_width-log_values.result c.have_width.result c.as_slice-2.ensures (rw (c.columns-columns.ensures) at c.terms_width-log_values.ensures.value) c.as_slice-3.ensures (rw (c.columns-columns.ensures) at c.have_width.ensures) in
    linear_ok c.args.item c.args.table.now.columns c.args.constant _ c.in-Some.terms (sym c.in_ok-terms.ensures ∙ c.in-Some.is) (ap repeats (sym c.as_slice.ensures) ∙ sym c.repeats.ensures ∙ c.if-repeats.false) (sym w ∙ c.if-not-have_width.false)
    ∙ ap (λ k0. Ok (form.Linear k0 c.in-Some.terms)) (sym c.element.ensures)
