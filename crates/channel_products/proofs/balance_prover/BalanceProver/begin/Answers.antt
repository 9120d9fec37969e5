use Rattle.std.proofs.Common.{refl}
use Rattle.channel_products.proofs.FirstLaws.{without_channels}
use Rattle.channel_products.proofs.balance_prover.BalanceProver.begin.Goals as goal

pub returns : goal.returns
returns c = record {
  stage = refl;
  channels = c.in_ok-channels.ensures.channels;
  tables = refl;
  there = c.requires.there;
  none = without_channels c.args.shape.now c.args.rows.now c.of.ensures.fits;
  alpha = refl;
  gamma = refl;
  untold = c.new.ensures.items;
}
