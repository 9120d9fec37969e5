use Rattle.std.proofs.Common.{◌∙◌}
use Rattle.walk_chain.proofs.Settling.{stays_here}
use Rattle.walk_chain.proofs.Going.{not_done}
use Rattle.walk_chain.proofs.hand_over.settle.Goals as goal

pub returns-clause-state : goal.returns-clause-state
returns-clause-state g c =
    stays_here g.A.Linked.chain _ _ _ (not_done _ _ _ _ (c.is_linked.ensures.same.entries c.loop-todo.active) c.due.ensures c.is_none.ensures c.loop-todo-test.false)
    ∙ c.loop-todo.invariant.same
