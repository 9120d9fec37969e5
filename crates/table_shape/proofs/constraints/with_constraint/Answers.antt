use Rattle.std.proofs.Common.{◌≡◌, ◌≤◌, false, length, Some, Ok, refl, subst, sym, ap, ◌∙◌, arith}
use Rattle.std.specs.List.{list_any}
use Rattle.std.specs.Str.{bytes_eq}
use Rattle.table_shape.specs.declared.shape.ConstraintShape.{ConstraintShape}
use Rattle.table_shape.specs.Fits.{TableFits}
use Rattle.table_shape.specs.Shape.{resolved}
use Rattle.table_shape.specs.Value.{degree}
use Rattle.table_shape.specs.Width.{width}
use Rattle.table_shape.proofs.FitsSteps.{constraint_pushed}
use Rattle.table_shape.proofs.ConstraintSteps.{Begins, constraint, unequal_due, degree_due, passed_due, widths_are, fits, constraint_is, push_is}
use Rattle.table_shape.proofs.constraints.with_constraint.Goals as goal

pub returns-then-not-has_width-clause-exact : goal.returns-then-not-has_width-clause-exact
returns-then-not-has_width-clause-exact c =
    let table = c.args.table in
    let name = c.args.name.now in
    let expr = c.in-Some.expr in
    let new : list_any (λ z. bytes_eq name z.name) table.constraints ≡ false = sym c.has_constraint.ensures ∙ c.if-has_constraint.false in
    let known : resolved table.columns c.args.expr.now ≡ Some expr = sym c.in_ok-expr.ensures ∙ c.in-Some.is in
    let begins : Begins name c.args.expr.now table expr = record { room = omega (arith, ap length c.constraints.ensures); new = new; known = known } in
    let widths = widths_are table.columns c.columns-columns.result.now c.columns-columns.result.now expr c.width-log_values.result c.has_width.result c.columns-columns.ensures c.width-log_values.ensures.value c.columns-columns.ensures c.has_width.ensures in
    rw (c.refused-then-not-has_width.ensures) (unequal_due c.args.item name c.args.expr.now table expr begins (widths ∙ c.if-not-has_width.true))

pub returns-then-degree-gt-MAX_DEGREE-clause-exact : goal.returns-then-degree-gt-MAX_DEGREE-clause-exact
returns-then-degree-gt-MAX_DEGREE-clause-exact c =
    let table = c.args.table in
    let name = c.args.name.now in
    let expr = c.in-Some.expr in
    let new : list_any (λ z. bytes_eq name z.name) table.constraints ≡ false = sym c.has_constraint.ensures ∙ c.if-has_constraint.false in
    let known : resolved table.columns c.args.expr.now ≡ Some expr = sym c.in_ok-expr.ensures ∙ c.in-Some.is in
    let begins : Begins name c.args.expr.now table expr = record { room = omega (arith, ap length c.constraints.ensures); new = new; known = known } in
    let widths = widths_are table.columns c.columns-columns.result.now c.columns-columns.result.now expr c.width-log_values.result c.has_width.result c.columns-columns.ensures c.width-log_values.ensures.value c.columns-columns.ensures c.has_width.ensures in
    rw (c.refused-then-degree-gt-MAX_DEGREE.ensures) (degree_due c.args.item name c.args.expr.now table expr begins (widths ∙ c.if-not-has_width.false) (omega (arith, c.capped_degree-degree.ensures)))

pub returns-clause-exact : goal.returns-clause-exact
returns-clause-exact c =
    let table = c.args.table in
    let name = c.args.name.now in
    let expr = c.in-Some.expr in
    let new : list_any (λ z. bytes_eq name z.name) table.constraints ≡ false = sym c.has_constraint.ensures ∙ c.if-has_constraint.false in
    let known : resolved table.columns c.args.expr.now ≡ Some expr = sym c.in_ok-expr.ensures ∙ c.in-Some.is in
    let begins : Begins name c.args.expr.now table expr = record { room = omega (arith, ap length c.constraints.ensures); new = new; known = known } in
    let widths = widths_are table.columns c.columns-columns.result.now c.columns-columns.result.now expr c.width-log_values.result c.has_width.result c.columns-columns.ensures c.width-log_values.ensures.value c.columns-columns.ensures c.has_width.ensures in
    let degree_is : c.capped_degree-degree.result ≡ degree expr = omega (arith, c.capped_degree-degree.ensures) in
    let made = constraint_is name name table.columns c.columns-columns.result.now expr c.width-log_values.result c.capped_degree-degree.result refl c.columns-columns.ensures c.width-log_values.ensures.value degree_is in
    let pushed = push_is table _ _ (constraint name table.columns expr) refl made ∙ sym c.in_ok-add_constraint.ensures in
    let low : degree expr ≤ 8 = omega (arith, degree_is) in
    passed_due c.args.item name c.args.expr.now table expr begins (widths ∙ c.if-not-has_width.false) low ∙ ap Ok pushed

pub returns-clause-fits : goal.returns-clause-fits
returns-clause-fits c =
    let table = c.args.table in
    let name = c.args.name.now in
    let expr = c.in-Some.expr in
    let new : list_any (λ z. bytes_eq name z.name) table.constraints ≡ false = sym c.has_constraint.ensures ∙ c.if-has_constraint.false in
    let known : resolved table.columns c.args.expr.now ≡ Some expr = sym c.in_ok-expr.ensures ∙ c.in-Some.is in
    let begins : Begins name c.args.expr.now table expr = record { room = omega (arith, ap length c.constraints.ensures); new = new; known = known } in
    let widths = widths_are table.columns c.columns-columns.result.now c.columns-columns.result.now expr c.width-log_values.result c.has_width.result c.columns-columns.ensures c.width-log_values.ensures.value c.columns-columns.ensures c.has_width.ensures in
    let degree_is : c.capped_degree-degree.result ≡ degree expr = omega (arith, c.capped_degree-degree.ensures) in
    let made = constraint_is name name table.columns c.columns-columns.result.now expr c.width-log_values.result c.capped_degree-degree.result refl c.columns-columns.ensures c.width-log_values.ensures.value degree_is in
    let pushed = push_is table _ _ (constraint name table.columns expr) refl made ∙ sym c.in_ok-add_constraint.ensures in
    let low : degree expr ≤ 8 = omega (arith, degree_is) in
    let wide : width table.columns expr ≤ 7 = omega (arith, c.width-log_values.ensures.bound, sym (ap (λ (z : ConstraintShape). z.log_values) made)) in
    subst TableFits pushed (constraint_pushed table (constraint name table.columns expr) c.requires (fits table.columns name expr wide (widths ∙ c.if-not-has_width.false) low) begins.room new)
