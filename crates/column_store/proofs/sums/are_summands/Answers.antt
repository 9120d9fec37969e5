use Rattle.std.proofs.Common.{◌≡◌, ◌≤◌, length, ◌∙◌, sym, arith}
use Rattle.std.proofs.lemmas.Bool.Decides.{nat_tests}
use Rattle.list_laws.proofs.Lists.{item_here}
use Rattle.column_store.proofs.Summing.{summands_more}
use Rattle.column_store.proofs.sums.are_summands.Goals as goal

pub bounds-columns-term : goal.bounds-columns-term
bounds-columns-term c = c.requires c.loop-term.term-index c.term-item.result (item_here c.args.terms.now c.loop-term.term-index c.term-item.result c.loop-term-test.true c.term-item.is)

pub loop-term-preserved : goal.loop-term-preserved
loop-term-preserved c =
    let term = c.term-item.result in
    let source = c.index-columns-term.result in
    let one : term.coefficient ≡ 1 = grind (arith, nat_tests) in
    let there = c.requires c.loop-term.term-index term (item_here c.args.terms.now c.loop-term.term-index term c.loop-term-test.true c.term-item.is) in
    let many : c.args.count ≤ length source.values = (let e = c.len.ensures in let f = c.if-len-count.false in omega arith) in
    summands_more c.args.columns.now c.args.terms.now c.args.level c.args.count c.loop-term.term-index term source c.loop-term-test.true c.term-item.is there c.index-columns-term.is
    (record { alone = one; same_level = sym c.level.ensures.level ∙ c.if-level.false; as_many = many })
    c.loop-term.invariant

pub returns : goal.returns
returns c true i term column below = let past = c.loop-term-test.false in c.loop-term.invariant i term column (omega arith)
