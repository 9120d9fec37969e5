use Rattle.std.proofs.Common.{◌≡◌, ◌++◌, drop}
use Rattle.channel_products.specs.Channels.{flushes_from}
use Rattle.channel_products.proofs.channels.all_flushes.Given as goal

abbrev pub invariant-loop-t : goal.invariant-loop-t
invariant-loop-t l = l.all ++ flushes_from l.rows l.t (drop l.t l.table-items) ≡ flushes_from l.rows 0 l.table-items
