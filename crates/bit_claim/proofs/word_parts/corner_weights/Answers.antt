use Rattle.std.proofs.Common.{sym, ◌∙◌}
use Rattle.cube_mle.proofs.Doubling.{weights_are}
use Rattle.bit_claim.proofs.word_parts.corner_weights.Goals as goal

pub returns : goal.returns
returns c = c.in_ok-eq_table.ensures ∙ sym (weights_are c.args.point.now)
