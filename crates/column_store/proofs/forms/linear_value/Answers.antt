use Rattle.std.proofs.Common.{◌≡◌, ℕ, get_or, sym, ap, ◌∙◌}
use Rattle.tower_laws.specs.Tower.{mul}
use Rattle.table_shape.specs.declared.shape.ShapeTerm.{ShapeTerm}
use Rattle.list_laws.proofs.Lists.{item_here}
use Rattle.column_store.specs.Column.{list_of, lists}
use Rattle.column_store.proofs.Pieces.{terms_more, terms_done, list_at}
use Rattle.column_store.proofs.forms.linear_value.Goals as goal

pub bounds-columns-term : goal.bounds-columns-term
bounds-columns-term c = c.requires c.loop-term.term-index c.term-item.result (item_here c.args.terms.now c.loop-term.term-index c.term-item.result c.loop-term-test.true c.term-item.is)

pub loop-term-preserved : goal.loop-term-preserved
loop-term-preserved c =
    let f : ShapeTerm → ℕ = λ (t : ShapeTerm). mul t.coefficient (get_or (list_of (lists c.args.columns.now) t.column) c.args.position 0) in
    let term = c.term-item.result in
    let here = c.requires c.loop-term.term-index term (item_here c.args.terms.now c.loop-term.term-index term c.loop-term-test.true c.term-item.is) in
    let list = list_at c.args.columns.now term.column c.index-columns-term.result here c.index-columns-term.is in
    let value : c.element-value.result ≡ get_or (list_of (lists c.args.columns.now) term.column) c.args.position 0 =
    c.element-value.ensures ∙ c.get.ensures ∙ ap (λ xs. get_or xs c.args.position 0) (sym list) in
    terms_more f c.args.terms.now c.loop-term.term-index term c.loop-term.sum c.times.result c.add-sum.result _ c.loop-term-test.true c.term-item.is (c.times.ensures ∙ ap (mul term.coefficient) value) c.add-sum.ensures c.loop-term.invariant

pub returns : goal.returns
returns c =
    let f : ShapeTerm → ℕ = λ (t : ShapeTerm). mul t.coefficient (get_or (list_of (lists c.args.columns.now) t.column) c.args.position 0) in
    c.number.ensures.value ∙ terms_done f c.args.terms.now c.loop-term.term-index c.loop-term.sum _ c.loop-term-test.false c.loop-term.invariant
