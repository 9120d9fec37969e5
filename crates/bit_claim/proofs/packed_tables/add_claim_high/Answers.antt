use Rattle.std.proofs.Common.{◌+◌, ◌-◌, ◌^◌, List, ℕ, length, ap, sym, ◌∙◌}
use Rattle.bit_claim.proofs.PackedSteps.{part_spans}
use Rattle.bit_claim.proofs.packed_tables.add_claim_high.Goals as goal

pub add_high-requires-clause-part : goal.add_high-requires-clause-part
add_high-requires-clause-part c = (part_spans c.args.placement.now c.args.claim.now c.of-part.result (length c.args.cells.now.items) c.requires.placed c.of-part.ensures.part c.of-part.ensures.small c.requires.whole).part

pub add_high-requires-clause-whole : goal.add_high-requires-clause-whole
add_high-requires-clause-whole c =
    (part_spans c.args.placement.now c.args.claim.now c.of-part.result (length c.args.cells.now.items) c.requires.placed c.of-part.ensures.part c.of-part.ensures.small c.requires.whole).whole
    ∙ ap (λ (z : List ℕ). 2 ^ (c.of-part.result.level + length z + c.of-part.result.above - 7)) (sym c.as_slice.ensures)
