use Rattle.std.proofs.Common.{◌≡◌, ◌^◌, Some, None, ◌∙◌}
use Rattle.eval_reduce.proofs.VirtualSteps.{term_there}
use Rattle.eval_reduce.proofs.linear_prover.copied_lists.Goals as goal

pub unreachable-requires : goal.unreachable-requires
unreachable-requires c =
    let there = term_there c.args.tables.now c.args.table (2 ^ c.args.vars) c.loop-term.term-index c.args.terms.now c.term-item.result c.requires c.loop-term-test.true c.term-item.is in
    let e : None ≡ Some there.0 = c.in_default.ensures ∙ there.1 in cc
