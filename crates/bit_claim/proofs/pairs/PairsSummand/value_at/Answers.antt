use Rattle.std.proofs.Common.{◌≡◌, ◌*◌, ◌+◌, ◌-◌, ◌<◌, ◌≤◌, suc, drop, slice_index, bit_xor, ap, ◌∙◌, arith}
use Rattle.tower_laws.specs.Tower.{mul}
use Rattle.cube_laws.specs.Form.{value}
use Rattle.bit_claim.specs.Pairs.{pairs_form}
use Rattle.cube_laws.proofs.Rounds.{index_value}
use Rattle.bit_claim.proofs.PairSteps.{next_pair}
use Rattle.bit_claim.proofs.pairs.PairsSummand.value_at.Goals as goal

pub loop-k-preserved : goal.loop-k-preserved
loop-k-preserved c =
    let count = c.args.self.now.count in
    let row = c.args.row.now in
    let k = c.loop-k.k - 1 in
    let t : c.loop-k.k ≡ suc k = omega (arith, c.loop-k-test.true) in
    let l : k < count = omega (arith, t, c.loop-k.invariant.0) in
    let low : k ≤ count = omega (arith, l) in
    let p : c.mul.result ≡ mul (slice_index row (2 * k)) (slice_index row (2 * k + 1)) = c.mul.ensures ∙ (λ i. mul (index_value c.index-row-k.result (2 * k) row c.index-row-k.is (omega (arith, l, c.requires)) i) (index_value c.index-row-k-in-loop-k.result (2 * k + 1) row c.index-row-k-in-loop-k.is (omega (arith, l, c.requires)) i)) in
    (low, c.add-sum.ensures ∙ ap (λ m. bit_xor m c.loop-k.sum) p ∙ next_pair count k row c.loop-k.sum l c.requires (c.loop-k.invariant.1 ∙ ap (λ n. value (pairs_form (count - n)) (drop (2 * n) row)) t))
