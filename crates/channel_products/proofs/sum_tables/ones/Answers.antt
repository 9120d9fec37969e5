use Rattle.std.proofs.Common.{refl}
use Rattle.cube_laws.proofs.Tabulate.{tabulate_pushed}
use Rattle.channel_products.proofs.sum_tables.ones.Goals as goal

pub loop-preserved : goal.loop-preserved
loop-preserved c = tabulate_pushed c.loop.counter 1 (λ row. 1) c.loop.ones.items c.push.new.self.items c.loop.invariant c.in_ok-push.ensures.items refl
