use Rattle.bit_tests.proofs.Switching.{holding, switch_starts}
use Rattle.bit_tests.proofs.switches.begun.Goals as goal

pub returns : goal.returns
returns c = (holding c.args.words.now, switch_starts c.in_ok-prover.prover c.enter-2.new.self c.args.words.now c.args.point.now c.args.value c.enter.new.self c.in_ok-prover.ensures.words c.enter-2.ensures c.enter.ensures)
