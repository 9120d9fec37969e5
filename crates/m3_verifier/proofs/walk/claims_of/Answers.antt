use Rattle.std.proofs.Common.{ap, arith, length}
use Rattle.proof_plan.proofs.PlanBounds.{first_few}
use Rattle.m3_verifier.proofs.walk.claims_of.Goals as goal

pub overflow_cast-result-2 : goal.overflow_cast-result-2
overflow_cast-result-2 c = let f = first_few c.args.table.now c.requires in let e = ap length c.in_ok-first.ensures in let l = c.len-2.ensures in omega arith

pub overflow_add-result : goal.overflow_add-result
overflow_add-result c = let f = first_few c.args.table.now c.requires in let e = ap length c.in_ok-first.ensures in let l = c.len-2.ensures in let s = c.all_sources.ensures.few in omega arith

pub overflow_add-result-2 : goal.overflow_add-result-2
overflow_add-result-2 c =
    let f = first_few c.args.table.now c.requires in let e = ap length c.in_ok-first.ensures in let l = c.len-2.ensures in let s = c.all_sources.ensures.few in
    let n = c.requires.few_flushes in let k = c.len.ensures in omega arith

pub returns-clause-few : goal.returns-clause-few
returns-clause-few c =
    let f = first_few c.args.table.now c.requires in let e = ap length c.in_ok-first.ensures in let l = c.len-2.ensures in let s = c.all_sources.ensures.few in
    let n = c.requires.few_flushes in let k = c.len.ensures in omega arith
