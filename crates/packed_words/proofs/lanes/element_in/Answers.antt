use Rattle.std.proofs.Common.{◌/◌, ◌^◌, ◌∙◌, ap, bit_and}
use Rattle.std.proofs.lemmas.Nat.{and_mask}
use Rattle.packed_words.proofs.Levels.{mask_is}
use Rattle.packed_words.proofs.lanes.element_in.Goals as goal

pub returns : goal.returns
returns c = ap (bit_and (c.args.word / 2 ^ c.args.bit)) (mask_is c.args.level c.requires.is_a_level) ∙ and_mask (c.args.word / 2 ^ c.args.bit) (2 ^ c.args.level)
