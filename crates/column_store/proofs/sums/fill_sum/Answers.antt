use Rattle.std.proofs.Common.{◌∙◌, sym, arith}
use Rattle.list_laws.proofs.Lists.{item_here}
use Rattle.column_store.proofs.Summing.{value_alone, term_value, sum_begins, sum_goes_on, sum_ends}
use Rattle.column_store.proofs.sums.fill_sum.Goals as goal

pub bounds-columns-term : goal.bounds-columns-term
bounds-columns-term c = c.requires.reads c.loop-term.term-index c.term-item.result (item_here c.args.terms.now c.loop-term.term-index c.term-item.result c.loop-term-test.true c.term-item.is)

pub add-requires-clause-same_level : goal.add-requires-clause-same_level
add-requires-clause-same_level c =
    let summand = c.requires.summands c.loop-term.term-index c.term-item.result c.index-columns-term.result c.loop-term-test.true c.term-item.is c.index-columns-term.is in
    summand.same_level ∙ sym c.loop-term.invariant.level

pub add-requires-clause-as_many : goal.add-requires-clause-as_many
add-requires-clause-as_many c =
    let summand = c.requires.summands c.loop-term.term-index c.term-item.result c.index-columns-term.result c.loop-term-test.true c.term-item.is c.index-columns-term.is in
    let many = summand.as_many in
    let len = c.loop-term.invariant.len in
    omega arith

pub loop-term-init : goal.loop-term-init
loop-term-init c = sum_begins (term_value c.args.columns.now) c.args.terms.now c.args.column.now c.clear.new.self c.clear.ensures

pub loop-term-preserved : goal.loop-term-preserved
loop-term-preserved c =
    let term = c.term-item.result in
    let source = c.index-columns-term.result in
    let there = c.requires.reads c.loop-term.term-index term (item_here c.args.terms.now c.loop-term.term-index term c.loop-term-test.true c.term-item.is) in
    let summand = c.requires.summands c.loop-term.term-index term source c.loop-term-test.true c.term-item.is c.index-columns-term.is in
    sum_goes_on (term_value c.args.columns.now) c.args.terms.now c.loop-term.term-index term c.args.column.now c.loop-term.column source c.add.new.self c.loop-term-test.true c.term-item.is
    (λ p. value_alone c.args.columns.now term source p there c.index-columns-term.is summand.alone) c.add.ensures c.loop-term.invariant

pub returns : goal.returns
returns c = sum_ends (term_value c.args.columns.now) c.args.terms.now c.loop-term.term-index c.args.column.now c.loop-term.column c.loop-term-test.false c.loop-term.invariant
