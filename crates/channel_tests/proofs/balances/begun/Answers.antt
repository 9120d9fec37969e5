use Rattle.channel_products.specs.Channels.{channels_of}
use Rattle.channel_products.specs.Given.{table_of}
use Rattle.channel_tests.proofs.Channels.{balance_starts}
use Rattle.channel_tests.proofs.balances.begun.Goals as goal

pub returns : goal.returns
returns c =
    let ch = channels_of c.args.shape.now c.args.rows.now in
    (table_of c.args.tables.now, balance_starts c.args.tables.now ch c.in_ok-prover.prover c.enter-2.new.self c.in_ok-walk.walk c.enter.new.self c.in_ok-prover.ensures c.enter-2.ensures c.in_ok-walk.ensures c.enter.ensures)
