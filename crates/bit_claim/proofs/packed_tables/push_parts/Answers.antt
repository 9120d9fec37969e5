use Rattle.std.proofs.Common.{◌+◌, ◌-◌, ◌^◌, List, ℕ, length, ap, sym, ◌∙◌}
use Rattle.bit_claim.proofs.PackedSteps.{part_spans}
use Rattle.bit_claim.proofs.packed_tables.push_parts.Goals as goal

pub word_sums-requires-clause-part : goal.word_sums-requires-clause-part
word_sums-requires-clause-part c = (part_spans c.args.placement.now c.args.claim.now c.of-part.result (length c.args.words.now) c.requires.placed c.of-part.ensures.part c.of-part.ensures.small c.requires.whole).part

pub word_sums-requires-clause-whole : goal.word_sums-requires-clause-whole
word_sums-requires-clause-whole c =
    (part_spans c.args.placement.now c.args.claim.now c.of-part.result (length c.args.words.now) c.requires.placed c.of-part.ensures.part c.of-part.ensures.small c.requires.whole).whole
    ∙ ap (λ (z : List ℕ). 2 ^ (c.of-part.result.level + length z + c.of-part.result.above - 7)) (sym c.as_slice-point.ensures)
