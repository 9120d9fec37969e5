use Rattle.std.proofs.Common.{◌∙◌, ◌++◌, ap, subst}
use Rattle.walk_chain.specs.Chain.{Chained}
use Rattle.walk_chain.specs.Following.{Goes}
use Rattle.walk_chain.proofs.Going.{some_awaited, honest_is, after_honest}
use Rattle.walk_chain.proofs.chain_prover.ChainProverHonest.message.Goals as goal

pub message-requires : goal.message-requires
message-requires g c = let r = c.requires in (r.0, r.1.active, r.2.walk, some_awaited g.P.Walk.Linked.chain _ c.is_linked.ensures.same r.1 r.3)

pub returns-clause-values : goal.returns-clause-values
returns-clause-values g c = λ F s f due.
    let X = g.P.Walk.Linked.chain in
    c.in_ok-message.ensures.values F s.active f.walk (some_awaited X _ c.is_linked.ensures.same s due) ∙ ap (λ vs. c.args.out.now.items ++ vs) (honest_is X _ c.is_linked.ensures.same F s)

pub returns-clause-state : goal.returns-clause-state
returns-clause-state g c = λ F s f due.
    let X = g.P.Walk.Linked.chain in
    let M = g.P.Walk.Steps.machine in
    subst (λ (s : Chained _ _). Goes g.P.Honest.follows g.P.LinkedProver.made_for g.P.LinkedProver.alike c.settle_provers.new.active c.settle_provers.new.todo.items c.settle_provers.new.kept F s)
    (after_honest X M c.is_linked.ensures.same F s)
    (c.settle_provers.ensures F (record { active = M.after_message s.active (M.honest F s.active); todo = s.todo; kept = s.kept })
    (record { walk = c.in_ok-message.ensures.state F s.active f.walk (some_awaited X M c.is_linked.ensures.same s due); made = f.made; kept = f.kept }))
