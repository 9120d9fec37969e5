use Rattle.std.proofs.Common.{◌≡◌, length}
use Rattle.sumcheck.specs.Machine.{Filling}
use Rattle.walk_chain.specs.Chain.{Chained, settle}
use Rattle.walk_chain.specs.Following.{Goes}
use Rattle.walk_chain.proofs.settle_prover.settle_provers.Given as goal

abbrev pub invariant-loop-todo : goal.invariant-loop-todo
invariant-loop-todo g l =
    let X = g.P.Walk.Linked.chain in
    (F : Filling) (s : Chained g.row.P-Walk.Denot g.row.P-Walk-Kept.Denot)
    → Goes g.P.Honest.follows g.P.LinkedProver.made_for g.P.LinkedProver.alike l.initial.active l.initial.todo.items l.initial.kept F s
    → (t : Chained g.row.P-Walk.Denot g.row.P-Walk-Kept.Denot) × (_ : Goes g.P.Honest.follows g.P.LinkedProver.made_for g.P.LinkedProver.alike l.active l.todo.items l.kept F t)
    × (settle X t.todo t.active t.kept ≡ settle X s.todo s.active s.kept)

abbrev pub decreases-loop-todo : goal.decreases-loop-todo
decreases-loop-todo g l = length l.todo.items
