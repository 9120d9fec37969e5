use Rattle.std.proofs.Common.{◌<◌, ◌∙◌, cond, drop, refl, ap, subst, arith}
use Rattle.channel_products.specs.Descent.{Pointed}
use Rattle.channel_products.proofs.GivingSteps.{leaves_final, leaves_round, skipped}
use Rattle.channel_products.proofs.product_prover.give_leaves.Goals as goal

pub returns-then-left-gt0 : goal.returns-then-left-gt0
returns-then-left-gt0 c = λ F r h w.
    leaves_round c.args.sum.now c.args.ending.now c.args.out.now.items c.round.new.out.items (subst (λ n. 0 < n) c.left.ensures c.if-left-gt0.true) c.in_ok-round.ensures F c.args.at.now r h w

pub returns : goal.returns
returns c = λ F r h w.
    let l = c.if-left-gt0.false in
    let e = c.left.ensures in
    let finals = c.finals.result.now in
    let values = c.column_values-values.ensures ∙ ap (λ b. drop (cond b 2 3) finals) c.is_some.ensures ∙ ap (λ (x : Pointed). drop (skipped x.flushed.shape.selector) finals) c.at.view_is in
    leaves_final c.args.sum.now c.args.ending.now c.tell.new.self c.args.out.now.items c.extend_from_slice.new.self.items finals c.column_values-values.result.now c.args.at.now (omega arith) c.finals.ensures values c.in_ok-extend_from_slice.ensures.items c.tell.ensures F c.args.at.now r refl h w
