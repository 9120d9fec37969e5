use Rattle.std.proofs.Common.{◌≡◌, map, take}
use Rattle.channel_products.specs.Channels.{product_of}
use Rattle.channel_products.specs.Given.{table_of}
use Rattle.channel_products.proofs.balance_prover.products_of.Given as goal

abbrev pub invariant-loop-flush : goal.invariant-loop-flush
invariant-loop-flush l = l.values.items ≡ map (product_of (table_of l.tables) l.alpha l.gamma) (take l.flush-index l.flushes)
