use Rattle.std.proofs.Common.{◌≡◌, ◌∙◌, refl, sym, subst, arith}
use Rattle.cube_laws.specs.Sums.{tabulate}
use Rattle.cube_laws.proofs.Tabulate.{entries}
use Rattle.table_shape.specs.Forms.{form_value}
use Rattle.column_store.specs.Column.{list_of, lists}
use Rattle.column_store.specs.Summands.{IsSummand}
use Rattle.column_store.proofs.Words.{stored}
use Rattle.column_store.proofs.columns.fill_column.Goals as goal

pub set-requires-clause-fits : goal.set-requires-clause-fits
set-requires-clause-fits c = rw (c.form_value.ensures, c.loop-position.invariant.level) (c.requires.fits c.loop-position.position)

pub returns : goal.returns
returns c =
    let f = form_value c.args.shapes.now (list_of (lists c.args.before.now)) c.args.form.now in
    let values : c.loop-position.column.values ≡ tabulate c.args.count f =
    entries c.args.count f c.loop-position.column.values (c.loop-position.invariant.len ∙ sym c.requires.count) (λ k l. c.loop-position.invariant.done k (omega arith)) in
    λ i. stored (c.loop-position.invariant.level i) (values i)

pub fill_sum-requires-clause-summands : goal.fill_sum-requires-clause-summands
fill_sum-requires-clause-summands c i term source below item is =
    let summand = c.if-are_summands.ensures refl i term source below item is in
    subst (λ n. IsSummand c.args.column.now.level n term source) c.requires.count (subst (λ v. IsSummand v c.args.count term source) c.level.ensures.level summand)
