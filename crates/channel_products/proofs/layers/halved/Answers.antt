use Rattle.std.proofs.Common.{◌+◌, get_or}
use Rattle.tower_laws.specs.Tower.{mul}
use Rattle.cube_laws.proofs.Tabulate.{tabulate_pushed}
use Rattle.channel_products.proofs.StackSteps.{pair_is}
use Rattle.channel_products.proofs.layers.halved.Goals as goal

pub loop-p-preserved : goal.loop-p-preserved
loop-p-preserved c =
    let table = c.args.table.now in
    let n = c.args.half in
    tabulate_pushed c.loop-p.p c.mul.result (λ p. mul (get_or table p 0) (get_or table (p + n) 0)) c.loop-p.products.items c.push.new.self.items c.loop-p.invariant c.in_ok-push.ensures.items
    (pair_is table n c.loop-p.p c.index-table-p.result c.index-table-p-in-loop-p.result c.mul.result c.loop-p-test.true c.requires c.index-table-p.is c.index-table-p-in-loop-p.is c.mul.ensures)
