use Rattle.std.proofs.Common.{◌≡◌, ◌≤◌, length, reverse}
use Rattle.walk_chain.specs.Chain.{Suits, settle}
use Rattle.walk_chain.proofs.hand_over.settle.Given as goal

abbrev pub invariant-loop-todo : goal.invariant-loop-todo
invariant-loop-todo g l =
    let X = g.A.Linked.chain in
    record {
      same : settle X (reverse l.todo.items) l.active l.kept ≡ settle X (reverse l.initial.todo.items) l.initial.active l.initial.kept;
      suits : Suits X (X.left_key l.active (X.key l.kept)) (reverse l.todo.items);
      fewer : length l.todo.items ≤ length l.initial.todo.items;
    }

abbrev pub decreases-loop-todo : goal.decreases-loop-todo
decreases-loop-todo g l = length l.todo.items
