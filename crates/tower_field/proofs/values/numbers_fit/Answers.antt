use Rattle.std.proofs.Common.{arith}
use Rattle.tower_field.proofs.NumbersFit.{fit_more, fit_all}
use Rattle.tower_field.proofs.values.numbers_fit.Goals as goal

pub loop-value-preserved : goal.loop-value-preserved
loop-value-preserved c =
    fit_more c.loop-value.value-index c.args.values.now c.value-item.result c.loop-value-test.true c.value-item.is
    (let e = c.number-number.ensures.value in let f = c.number-number.ensures.fits in omega arith) c.loop-value.invariant

pub returns : goal.returns
returns c = c.loop-value.invariant (fit_all c.loop-value.value-index c.args.values.now c.loop-value-test.false)
