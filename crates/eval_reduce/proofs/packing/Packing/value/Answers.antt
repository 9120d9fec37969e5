use Rattle.std.proofs.Common.{ℕ, ◌*◌, ◌^◌, slice_index, ◌∙◌, arith}
use Rattle.std.specs.Int.Bits.{xor_comm}
use Rattle.tower_laws.specs.Tower.{mul}
use Rattle.cube_laws.proofs.Positions.{sum_to-more}
use Rattle.cube_laws.proofs.Rounds.{index_value}
use Rattle.eval_reduce.proofs.VirtualSteps.{part_shift}
use Rattle.eval_reduce.proofs.packing.Packing.value.Goals as goal

pub basis-requires-clause-fits : goal.basis-requires-clause-fits
basis-requires-clause-fits c =
    let l = c.loop-u-test.true in
    let w = c.requires.whole in
    part_shift c.args.self.now.level c.args.self.now.log c.loop-u.u c.requires.small (omega arith)

pub loop-u-preserved : goal.loop-u-preserved
loop-u-preserved c =
    let u = c.loop-u.u in
    let f : ℕ → ℕ = λ u. mul (2 ^ (u * 2 ^ c.args.self.now.level)) (slice_index c.args.values.now u) in
    let value = index_value c.index-values-u.result u c.args.values.now c.index-values-u.is c.loop-u-test.true in
    sum_to-more u c.loop-u.sum c.mul.result c.add-sum.result f c.loop-u.invariant (c.mul.ensures ∙ (λ i. mul (c.basis.ensures i) (value i)))
    (c.add-sum.ensures ∙ xor_comm c.loop-u.sum c.mul.result)
