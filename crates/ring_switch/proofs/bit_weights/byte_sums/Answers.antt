use Rattle.std.proofs.Common.{◌≡◌, ◌++◌, ◌∷◌, [], ◌∙◌, ap, refl, arith}
use Rattle.std.proofs.lemmas.Grind.{common_steps}
use Rattle.cube_laws.proofs.Tabulate.{tabulate_pushed}
use Rattle.ring_switch.specs.BitWeights.{byte_sum, byte_sums}
use Rattle.ring_switch.proofs.BitSteps.{byte_summed}
use Rattle.ring_switch.proofs.bit_weights.byte_sums.Goals as goal

pub loop-k-preserved : goal.loop-k-preserved
loop-k-preserved c =
    let pushed : c.push.new.self.items ≡ c.loop-k.sums.items ++ c.bits_under-sum.result ∷ [] = grind (arith, common_steps) in
    tabulate_pushed c.loop-k.k c.bits_under-sum.result (byte_sum c.args.weights.now) c.loop-k.sums.items c.push.new.self.items c.loop-k.invariant pushed
    (byte_summed c.args.weights.now _ c.loop-k.k _ c.bits_under-sum.result c.loop-k-test.true c.requires refl refl c.bits_under-sum.ensures)

pub returns : goal.returns
returns c =
    let t = c.loop-k-test.false in
    let u = c.loop-k.auto.k-end in
    let e : c.loop-k.k ≡ 4096 = omega arith in
    c.loop-k.invariant ∙ ap (byte_sums c.args.weights.now) e
