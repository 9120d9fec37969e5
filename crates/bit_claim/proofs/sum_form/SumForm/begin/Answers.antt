use Rattle.std.proofs.Common.{◌^◌}
use Rattle.table_shape.specs.Placement.{places_log}
use Rattle.bit_claim.proofs.SumSteps.{words_whole}
use Rattle.bit_claim.proofs.sum_form.SumForm.begin.Goals as goal

pub on_words-requires : goal.on_words-requires
on_words-requires c = words_whole (2 ^ places_log c.args.batch.blocks) c.in-Ok.words.items c.args.bits c.in-Ok.ensures.words c.requires
