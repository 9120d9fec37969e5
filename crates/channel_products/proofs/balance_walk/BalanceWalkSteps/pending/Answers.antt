use Rattle.std.proofs.Common.{get_or, ap, ◌∙◌, arith}
use Rattle.std.proofs.lemmas.Grind.{common_steps}
use Rattle.channel_products.proofs.WalkSteps.{told_claim, told_within}
use Rattle.channel_products.proofs.balance_walk.BalanceWalkSteps.pending.Goals as goal

pub bounds-as_slice-i : goal.bounds-as_slice-i
bounds-as_slice-i c =
    let w = c.self.inside in
    rw c.as_slice.ensures (told_within w.stage w.channels w.alpha w.gamma w.values.items _ c.args.self.now c.args.i c.self.view_is c.in-Told.is c.self.invariant.stage c.requires).0

pub index-requires : goal.index-requires
index-requires c =
    let w = c.self.inside in
    let h = (told_within w.stage w.channels w.alpha w.gamma w.values.items _ c.args.self.now c.args.i c.self.view_is c.in-Told.is c.self.invariant.stage c.requires).1 in
    grind (arith, common_steps, h)

pub returns-in-Told : goal.returns-in-Told
returns-in-Told c =
    let w = c.self.inside in
    let within = told_within w.stage w.channels w.alpha w.gamma w.values.items _ c.args.self.now c.args.i c.self.view_is c.in-Told.is c.self.invariant.stage c.requires in
    let f = c.index-as_slice-i.result in
    let fs = c.as_slice.ensures in
    told_claim w.stage w.channels w.alpha w.gamma w.values.items c.args.self.now c.args.i f c.index.result.now c.self.view_is c.in-Told.is within.0 (c.index-as_slice-i.is ∙ ap (λ xs. get_or xs c.args.i f) fs) within.1 c.index.ensures
