use Rattle.std.proofs.Common.{◌≡◌, ◌^◌, true, false}
use Rattle.eval_reduce.proofs.ListSteps.{terms_lack, terms_more}
use Rattle.eval_reduce.proofs.lists.terms_are_there.Goals as goal

pub returns-then-not-is_there : goal.returns-then-not-is_there
returns-then-not-is_there c =
    let lacks : c.is_there.result ≡ false = cc in
    terms_lack c.args.tables.now c.args.table (2 ^ c.args.vars) c.loop-term.term-index c.args.terms.now c.term-item.result c.is_there.result c.loop-term-test.true c.term-item.is c.is_there.ensures lacks

pub loop-term-preserved : goal.loop-term-preserved
loop-term-preserved c =
    let there : c.is_there.result ≡ true = cc in
    terms_more c.args.tables.now c.args.table (2 ^ c.args.vars) c.loop-term.term-index c.args.terms.now c.term-item.result c.loop-term-test.true c.term-item.is (c.is_there.ensures.0 there) c.loop-term.invariant
