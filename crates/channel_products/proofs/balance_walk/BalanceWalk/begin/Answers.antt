use Rattle.std.proofs.Common.{length, ap, refl, arith}
use Rattle.channel_products.specs.declared.channels.Channels.{Channels}
use Rattle.channel_products.proofs.ShapeSteps.{shape_flushes_few, shape_widths_few}
use Rattle.channel_products.proofs.balance_walk.BalanceWalk.begin.Goals as goal

pub invariant_of-result : goal.invariant_of-result
invariant_of-result c =
    let ch : Channels = c.in_ok-channels.channels in
    let fit = c.of.ensures.fits in
    let flushes = ap (λ (x : Channels). length x.flushes) c.in_ok-channels.ensures.channels in
    let widths = ap (λ (x : Channels). length x.widths) c.in_ok-channels.ensures.channels in
    let few = shape_flushes_few c.args.shape.now c.args.rows.now fit in
    let narrow = shape_widths_few c.args.shape.now fit in
    record {
      stage = record { alpha = refl; gamma = refl; none = c.in_ok-values.ensures.items; room = let cap = c.in_ok-values.ensures.capacity in let len = c.len.ensures in omega arith };
      few = omega arith;
      channels = omega arith;
    }
