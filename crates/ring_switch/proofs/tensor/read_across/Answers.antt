use Rattle.std.proofs.Common.{◌∙◌, ap, length}
use Rattle.ring_switch.proofs.TensorSteps.{across_is}
use Rattle.ring_switch.proofs.tensor.read_across.Goals as goal

pub returns : goal.returns
returns c =
    across_is c.args.elements.now c.numbers_of-numbers.result c.transpose128.new.rows c.elements_of-across.result c.told-elements c.numbers_of-numbers.ensures
    (ap length c.elements_of-across.ensures ∙ c.transpose128.array_long) c.elements_of-across.ensures c.numbers_fit.ensures c.transpose128.ensures
