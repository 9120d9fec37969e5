use Rattle.std.proofs.Common.{◌≡◌, ◌∙◌, ◌-◌, ◌^◌, ◌++◌, ◌∷◌, [], List, ℕ, length, ap, arith}
use Rattle.std.proofs.lemmas.Grind.{common_steps}
use Rattle.cube_laws.proofs.Weights.{length-tabulate}
use Rattle.layer_laws.specs.Layers.{halved}
use Rattle.channel_products.proofs.StackSteps.{one_made}
use Rattle.channel_products.proofs.layers.layers_below.Goals as goal

pub loop-layer-preserved : goal.loop-layer-preserved
loop-layer-preserved c =
    let k = c.loop-layer.layer in
    let last = c.loop-layer.last.items in
    let pushed : c.push.new.self.items ≡ c.loop-layer.layers.items ++ c.from_vec.result ∷ [] = grind (arith, common_steps) in
    let above : c.in_ok-above.above.items ≡ halved (2 ^ (k - 1)) last = c.in_ok-above.ensures ∙ (λ i. halved (c.power.ensures i) (c.as_slice.ensures.value i)) in
    one_made c.args.leaves.items c.args.vars k c.loop-layer.layers.items c.push.new.self.items last c.in_ok-above.above.items c.loop-layer-test.true (pushed ∙ ap (λ (x : List ℕ). c.loop-layer.layers.items ++ x ∷ []) c.from_vec.ensures) above (ap length above ∙ length-tabulate (2 ^ (k - 1)) _) c.loop-layer.invariant
