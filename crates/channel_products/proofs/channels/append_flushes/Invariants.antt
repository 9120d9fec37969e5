use Rattle.std.proofs.Common.{◌≡◌, ◌++◌, drop}
use Rattle.channel_products.specs.Channels.{flushes_of}
use Rattle.channel_products.proofs.channels.append_flushes.Given as goal

abbrev pub invariant-loop-number : goal.invariant-loop-number
invariant-loop-number l = l.all ++ flushes_of l.table l.rows l.number (drop l.number l.flushes) ≡ l.fn.all ++ flushes_of l.table l.rows 0 l.flushes
