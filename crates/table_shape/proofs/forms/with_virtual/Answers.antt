use Rattle.std.proofs.Common.{◌≡◌, ◌≤◌, false, length, List, Ok, refl, subst, sym, ap, ◌∙◌, arith}
use Rattle.std.specs.List.{list_any}
use Rattle.std.specs.Str.{bytes_eq}
use Rattle.std.proofs.lemmas.Bool.{ltb-false}
use Rattle.table_shape.specs.declared.shape.ColumnShape.{ColumnShape}
use Rattle.table_shape.specs.declared.shape.ShapeForm.{ShapeForm}
use Rattle.table_shape.specs.Checked.{IsChecked, checked_form}
use Rattle.table_shape.specs.Fits.{TableFits}
use Rattle.table_shape.specs.Shape.{form_level, form_log_values, resolved_form, terms_of}
use Rattle.table_shape.proofs.FitsSteps.{column_pushed}
use Rattle.table_shape.proofs.FormFits.{virtual_column, virtual_fits}
use Rattle.table_shape.proofs.VirtualSteps.{virtual_due, form_passed, with_virtual_column, Refuses-bind, gives_refusal, column_is, push_is}
use Rattle.list_laws.proofs.Steps.{bind_is}
use Rattle.table_shape.proofs.forms.with_virtual.Goals as goal

pub returns-in_err-form-clause-exact : goal.returns-in_err-form-clause-exact
returns-in_err-form-clause-exact c =
    let table = c.args.table in
    let name = c.args.name.now in
    let new : list_any (λ d. bytes_eq name d.name) table.columns ≡ false = sym c.has_column.ensures ∙ c.if-has_column.false in
    let few = sym c.has_many_terms.ensures ∙ c.if-has_many_terms.false in
    let due = virtual_due c.args.item name c.args.form.now table (omega (arith, ap length c.columns.ensures)) few new in
    gives_refusal c.from_residual.result c.in_err-form.field-0.0 _ c.from_residual.ensures.1 (rw due (Refuses-bind c.in_err-form.field-0.0 _ (λ (g : ShapeForm). Ok (with_virtual_column name table g)) c.in_err-form.ensures))

pub form_level-level-requires-clause-checked : goal.form_level-level-requires-clause-checked
form_level-level-requires-clause-checked c =
    let passed = form_passed c.args.item c.args.table.columns (resolved_form c.args.table.columns c.args.form.now) c.in_ok-form.form c.in_ok-form.ensures in
    subst (λ (columns : List ColumnShape). IsChecked columns c.in_ok-form.form) (sym c.columns-columns.ensures) passed.checked

pub form_log_values-log_values-requires-clause-checked : goal.form_log_values-log_values-requires-clause-checked
form_log_values-log_values-requires-clause-checked c =
    let passed = form_passed c.args.item c.args.table.columns (resolved_form c.args.table.columns c.args.form.now) c.in_ok-form.form c.in_ok-form.ensures in
    subst (λ (columns : List ColumnShape). IsChecked columns c.in_ok-form.form) (sym c.columns-columns.ensures) passed.checked

pub returns-clause-exact : goal.returns-clause-exact
returns-clause-exact c =
    let table = c.args.table in
    let name = c.args.name.now in
    let new : list_any (λ d. bytes_eq name d.name) table.columns ≡ false = sym c.has_column.ensures ∙ c.if-has_column.false in
    let few = sym c.has_many_terms.ensures ∙ c.if-has_many_terms.false in
    let due = virtual_due c.args.item name c.args.form.now table (omega (arith, ap length c.columns.ensures)) few new in
    let made = column_is name name table.columns c.columns-columns.result.now c.columns-columns.result.now c.in_ok-form.form c.form_level-level.result c.form_log_values-log_values.result
    refl c.columns-columns.ensures c.form_level-level.ensures.value c.columns-columns.ensures c.form_log_values-log_values.ensures.value in
    let pushed = push_is table _ _ (virtual_column name table.columns c.in_ok-form.form) refl made ∙ sym c.in_ok-add_column.ensures in
    due ∙ bind_is (checked_form c.args.item table.columns (resolved_form table.columns c.args.form.now)) c.in_ok-form.form (λ (g : ShapeForm). Ok (with_virtual_column name table g)) c.in_ok-form.ensures ∙ ap Ok pushed

pub returns-clause-fits : goal.returns-clause-fits
returns-clause-fits c =
    let table = c.args.table in
    let name = c.args.name.now in
    let new : list_any (λ d. bytes_eq name d.name) table.columns ≡ false = sym c.has_column.ensures ∙ c.if-has_column.false in
    let passed = form_passed c.args.item c.args.table.columns (resolved_form c.args.table.columns c.args.form.now) c.in_ok-form.form c.in_ok-form.ensures in
    let made = column_is name name table.columns c.columns-columns.result.now c.columns-columns.result.now c.in_ok-form.form c.form_level-level.result c.form_log_values-log_values.result
    refl c.columns-columns.ensures c.form_level-level.ensures.value c.columns-columns.ensures c.form_log_values-log_values.ensures.value in
    let pushed = push_is table _ _ (virtual_column name table.columns c.in_ok-form.form) refl made ∙ sym c.in_ok-add_column.ensures in
    let few = ltb-false 64 (length (terms_of c.args.form.now)) (sym c.has_many_terms.ensures ∙ c.if-has_many_terms.false) in
    let low : form_level table.columns c.in_ok-form.form ≤ 7 = omega (arith, c.form_level-level.ensures.bound, sym (ap (λ (x : ColumnShape). x.level) made)) in
    let wide : form_log_values table.columns c.in_ok-form.form ≤ 7 = omega (arith, c.form_log_values-log_values.ensures.bound, sym (ap (λ (x : ColumnShape). x.log_values) made)) in
    subst TableFits pushed (column_pushed table (virtual_column name table.columns c.in_ok-form.form) c.requires (virtual_fits table.columns name c.args.form.now c.in_ok-form.form passed.known few passed.checked low wide) (omega (arith, ap length c.columns.ensures)) new)
