use Rattle.std.proofs.Common.{◌∙◌, ap, map}
use Rattle.tower_laws.specs.Tower.{mul}
use Rattle.tensor_laws.specs.Switch.{transposed}
use Rattle.ring_switch.proofs.tensor_eq.scaled.Goals as goal

pub returns : goal.returns
returns c =
    c.read_across.ensures ∙ ap (transposed 128) (c.multiples-2.ensures ∙ ap (map (mul c.args.h)) (c.read_across-columns.ensures ∙ ap (transposed 128) c.multiples.ensures))
