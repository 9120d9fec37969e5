use Rattle.std.proofs.Common.{◌<◌, ◌-◌, take, drop, length, subst, arith}
use Rattle.std.proofs.lemmas.List.{take_rest}
use Rattle.channel_products.proofs.GivingSteps.{layer_final, layer_round}
use Rattle.channel_products.proofs.product_prover.give_layer.Goals as goal

pub returns-then-left-gt0 : goal.returns-then-left-gt0
returns-then-left-gt0 c = λ F t r h a w.
    layer_round c.args.sum.now c.args.out.now.items c.round.new.out.items (subst (λ n. 0 < n) c.left.ensures c.if-left-gt0.true) c.in_ok-round.ensures F t r h w

pub returns : goal.returns
returns c = λ F t r h a w.
    let l = c.if-left-gt0.false in
    let e = c.left.ensures in
    let finals = c.finals-finals.result.now in
    layer_final c.args.sum.now c.args.out.now.items c.extend_from_slice.new.self.items finals (take (length finals - 1) (drop 1 finals)) (omega arith) c.finals-finals.ensures (take_rest finals 1) c.in_ok-extend_from_slice.ensures.items F t r h a w
