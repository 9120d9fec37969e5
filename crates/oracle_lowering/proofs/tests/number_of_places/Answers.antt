use Rattle.std.proofs.Common.{ap, ◌∙◌, ◌^◌, arith}
use Rattle.std.proofs.lemmas.Nat.{one_shl}
use Rattle.table_shape.specs.Placement.{places_log}
use Rattle.oracle_lowering.proofs.Spots.{places_small}
use Rattle.oracle_lowering.proofs.tests.number_of_places.Goals as goal

pub overflow_shl-result : goal.overflow_shl-result
overflow_shl-result c = omega (arith, places_small c.placement-placement.result.now c.blocks-blocks.ensures.small, c.log_bits.ensures)

pub returns : goal.returns
returns c =
    let small = places_small c.placement-placement.result.now c.blocks-blocks.ensures.small in
    one_shl c.log_bits.result 64 (omega (arith, small, c.log_bits.ensures)) ∙ ap (λ n. 2 ^ n) (c.log_bits.ensures ∙ ap places_log c.placement-placement.ensures)
