use Rattle.std.proofs.Common.{◌↔◌, drop}
use Rattle.channel_products.specs.Given.{AreThere}
use Rattle.channel_products.proofs.given.all_there.Given as goal

abbrev pub invariant-loop-flush : goal.invariant-loop-flush
invariant-loop-flush l = AreThere l.tables (drop l.flush-index l.flushes) ↔ AreThere l.tables l.flushes
