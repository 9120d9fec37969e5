use Rattle.std.proofs.Common.{◌+◌, ◌<◌, ◌≤◌, length, get_or, sym, ap, subst, ◌∙◌, arith}
use Rattle.table_shape.specs.Forms.{form_value}
use Rattle.table_shape.specs.declared.shape.ShapeForm.TheVariants as form
use Rattle.column_store.specs.Column.{list_of, lists}
use Rattle.column_store.specs.Draft.{CanRead}
use Rattle.column_store.proofs.Pieces.{no_wrap, list_at}
use Rattle.column_store.proofs.forms.form_value.Goals as goal

pub returns-in-Project : goal.returns-in-Project
returns-in-Project c =
    let reads : (c.in-Project.column < length c.args.shapes.now) × (c.in-Project.log ≤ 7) = subst (CanRead c.args.shapes.now) c.in-Project.is c.requires.reads in
    let list = list_at c.args.columns.now c.in-Project.column c.index-columns-column-in-Project.result (omega (arith, reads.0, c.requires.counts)) c.index-columns-column-in-Project.is in
    let place = no_wrap c.args.position c.in-Project.log c.requires.small reads.1 in
    c.get.ensures ∙ (λ i. get_or (sym list i) (place i + c.in-Project.index) 0) ∙ ap (λ f. form_value c.args.shapes.now (list_of (lists c.args.columns.now)) f c.args.position) (sym c.in-Project.is)

pub returns-in-Linear : goal.returns-in-Linear
returns-in-Linear c =
    c.linear_value.ensures
    ∙ ap (λ ts. form_value c.args.shapes.now (list_of (lists c.args.columns.now)) (form.Linear c.in-Linear.constant ts) c.args.position) c.as_slice.ensures
    ∙ ap (λ f. form_value c.args.shapes.now (list_of (lists c.args.columns.now)) f c.args.position) (sym c.in-Linear.is)
