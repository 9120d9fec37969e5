use Rattle.std.proofs.Common.{subst, refl}
use Rattle.walk_chain.specs.Chain.{Chained}
use Rattle.walk_chain.specs.Following.{Goes}
use Rattle.walk_chain.proofs.Going.{draw_awaited, after_draw_is}
use Rattle.walk_chain.proofs.chain_prover.ChainProverHonest.draw.Goals as goal

pub draw-requires : goal.draw-requires
draw-requires g c = let r = c.requires in (r.0, r.1.active, r.2.walk, draw_awaited g.P.Walk.Linked.chain _ c.is_linked.ensures.same r.1 r.1 refl r.3)

pub returns : goal.returns
returns g c = λ F s f due.
    let X = g.P.Walk.Linked.chain in
    let M = g.P.Walk.Steps.machine in
    subst (λ (s : Chained _ _). Goes g.P.Honest.follows g.P.LinkedProver.made_for g.P.LinkedProver.alike c.settle_provers.new.active c.settle_provers.new.todo.items c.settle_provers.new.kept F s)
    (after_draw_is X M c.is_linked.ensures.same s c.args.c)
    (c.settle_provers.ensures F (record { active = M.after_draw s.active c.args.c; todo = s.todo; kept = s.kept })
    (record { walk = c.draw.ensures F s.active f.walk (draw_awaited X M c.is_linked.ensures.same s s refl due); made = f.made; kept = f.kept }))
