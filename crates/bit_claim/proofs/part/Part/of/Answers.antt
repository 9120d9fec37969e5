use Rattle.std.proofs.Common.{◌+◌, ◌*◌, ◌/◌, ◌^◌, ◌≤◌, subst, sym, arith}
use Rattle.bit_claim.specs.Bits.{size_in}
use Rattle.bit_claim.specs.Placement.{seen}
use Rattle.bit_claim.proofs.PartSteps.{log_small, log_within, part_small}
use Rattle.bit_claim.proofs.part.Part.of.Goals as goal

pub overflow_sub-result : goal.overflow_sub-result
overflow_sub-result c =
    let h = log_within c.args.claim.now.table c.args.claim.now.column c.args.placement.now (seen c.in-Some.block) (sym c.in-Some.ensures.block) in
    omega (arith, h, c.vars.ensures)

pub overflow_shr-result : goal.overflow_shr-result
overflow_shr-result c =
    let h = log_small c.args.claim.now.table c.args.claim.now.column c.args.placement.now (seen c.in-Some.block) (sym c.in-Some.ensures.block) c.block_in.ensures.small in
    omega (arith, h)

pub returns-clause-small : goal.returns-clause-small
returns-clause-small c =
    let h = part_small c.args.placement.now c.args.claim.now (seen c.in-Some.block) c.requires (sym c.in-Some.ensures.block) c.block_in.ensures.small in
    subst (λ o. o / 2 ^ c.in-Some.block.log_bits * 2 ^ size_in c.args.placement.now c.args.claim.now + 2 ^ size_in c.args.placement.now c.args.claim.now ≤ 2 ^ 24) (sym c.offset.ensures) h
