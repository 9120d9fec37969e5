use Rattle.std.proofs.Common.{◌<◌, length, ap, ◌∙◌, max}
use Rattle.channel_products.proofs.ShapeSteps.{gamma_more}
use Rattle.channel_products.proofs.counts.gamma_count.Goals as goal

pub loop-c-preserved : goal.loop-c-preserved
loop-c-preserved c =
    let below : c.loop-c.c < length c.args.shape.now.channels = rw c.channels-c-end.ensures.all at c.loop-c-test.true in
    gamma_more c.args.shape.now c.args.rows.now c.loop-c.c c.loop-c.greatest c.max-greatest.result below (c.max-greatest.ensures ∙ ap (λ n. max n c.loop-c.greatest) c.channel_gammas.ensures) c.loop-c.invariant
