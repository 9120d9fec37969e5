use Rattle.std.proofs.Common.{arith}
use Rattle.std.proofs.lemmas.Grind.{common_steps}
use Rattle.channel_products.proofs.WalkSteps.{told_count}
use Rattle.channel_products.proofs.balance_walk.BalanceWalk.count_pending.Goals as goal

pub returns-in-Told : goal.returns-in-Told
returns-in-Told c =
    let w = c.self.inside in
    let h = told_count w.stage w.channels w.alpha w.gamma w.values.items _ c.args.self.now c.self.view_is c.in-Told.is c.self.invariant.stage in
    grind (arith, common_steps, h)
