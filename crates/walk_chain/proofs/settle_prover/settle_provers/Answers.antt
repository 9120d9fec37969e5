use Rattle.std.proofs.Common.{◌∙◌, sym, ap, subst}
use Rattle.walk_chain.specs.Chain.{Chained, settle}
use Rattle.walk_chain.specs.Following.{Goes}
use Rattle.walk_chain.proofs.Settling.{goes_on, stays_here}
use Rattle.walk_chain.proofs.Going.{made_last}
use Rattle.walk_chain.proofs.settle_prover.settle_provers.Goals as goal

pub loop-todo-preserved : goal.loop-todo-preserved
loop-todo-preserved g c = λ F s f.
    let X = g.P.Walk.Linked.chain in
    let i = c.loop-todo.invariant F s f in
    let t = i.0 in
    let d = (c.is_done.ensures F t.active i.1.walk).0 c.loop-todo-test.true in
    let n = made_last g.P.LinkedProver.made_for c.loop-todo.todo.items c.pop.new.self.items c.in-Some.next t.todo c.in-Some.ensures.items i.1.made in
    let left = c.leave.ensures F t.active t.kept (subst (λ p. g.P.Honest.follows p F t.active) (sym c.replace-done.ensures.value) i.1.walk) d i.1.kept in
    let entered = c.enter.ensures F n.0 (X.leaves t.active t.kept) (subst (λ p. g.P.LinkedProver.made_for p n.0) (sym c.replace-done.ensures.after) n.3) left in (
      record { active = X.enter n.0 (X.leaves t.active t.kept); todo = n.1; kept = X.stays n.0 (X.leaves t.active t.kept) },
      record { walk = entered.0; made = n.4; kept = entered.1 },
      sym (goes_on X n.0 n.1 t.active t.kept d) ∙ ap (λ hs. settle X hs t.active t.kept) (sym n.2) ∙ i.2,
    )

pub returns : goal.returns
returns g c = λ F s f.
    let X = g.P.Walk.Linked.chain in
    let i = c.loop-todo.invariant F s f in
    let t = i.0 in
    let n = stays_here X t.todo t.active t.kept (λ e. let done = (c.is_done.ensures F t.active i.1.walk).1 e in let go = c.loop-todo-test.false in cc) in
    subst (λ (s : Chained _ _). Goes g.P.Honest.follows g.P.LinkedProver.made_for g.P.LinkedProver.alike c.loop-todo.active c.loop-todo.todo.items c.loop-todo.kept F s) (n ∙ i.2) i.1
