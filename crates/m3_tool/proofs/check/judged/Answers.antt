use Rattle.std.proofs.Common.{◌≡◌, sym, ◌∙◌, ap, subst, inr}
use Rattle.table_shape.specs.Parts.{ShapeParts}
use Rattle.table_shape.specs.Satisfies.{IsFirstViolation}
use Rattle.m3_judge.specs.Judging.{violation_of}
use Rattle.m3_tool.specs.declared.status.Status.TheVariants.{No}
use Rattle.m3_tool.specs.Lines.{violation_line}
use Rattle.m3_tool.specs.Run.{answer}
use Rattle.m3_tool.proofs.check.judged.Goals as goal

pub violation_line-requires : goal.violation_line-requires
violation_line-requires c =
    let store = c.args.store.now in
    let first : IsFirstViolation store.shape store.rows store.filling (violation_of c.in-Ok-Violated.violation) = rw c.in-Ok-Violated.field-0-is at c.in-Ok-Violated.ensures in
    (store.rows, store.filling, subst (λ (s : ShapeParts). IsFirstViolation s store.rows store.filling (violation_of c.in-Ok-Violated.violation)) (sym c.shape.ensures) first)

pub returns-in_ok-line-in-Ok-Violated-clause-judged : goal.returns-in_ok-line-in-Ok-Violated-clause-judged
returns-in_ok-line-in-Ok-Violated-clause-judged c =
    let store = c.args.store.now in
    let v = violation_of c.in-Ok-Violated.violation in
    let line = c.in_ok-line-in-Ok-Violated.line.items in
    let first : IsFirstViolation store.shape store.rows store.filling v = rw c.in-Ok-Violated.field-0-is at c.in-Ok-Violated.ensures in
    let told = subst (λ (s : ShapeParts). (f : IsFirstViolation s store.rows store.filling v) → line ≡ violation_line s store.rows store.filling v f) c.shape.ensures (λ f. c.in_ok-line-in-Ok-Violated.ensures store.rows store.filling f) first in
    inr (v, first, c.made.ensures ∙ ap (answer No) told)
