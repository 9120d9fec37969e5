use Rattle.std.proofs.Common.{◌∙◌, ◌-◌, sym, ap, arith}
use Rattle.std.specs.List.{slice_get}
use Rattle.walk_chain.proofs.Pieces.{here, piece_at, passed_within, passed_same}
use Rattle.walk_chain.proofs.waiting.waiting_at.Goals as goal

pub returns-then-left-count : goal.returns-then-left-count
returns-then-left-count g c =
    let some = c.loop-k-test.true in
    let range = c.loop-k.invariant.in_range in
    sym c.loop-k.invariant.same
    ∙ ap (λ ys. slice_get ys c.loop-k.left) (piece_at g.A.Linked.chain.stage_pending c.args.todo.now c.loop-k.k (c.loop-k.k - 1) c.index-todo-k.result (omega arith) (omega arith) c.index-todo-k.is)
    ∙ here (g.A.Linked.chain.stage_pending c.index-todo-k.result) _ c.loop-k.left _ c.waiting.ensures

pub loop-k-preserved : goal.loop-k-preserved
loop-k-preserved g c =
    let some = c.loop-k-test.true in
    let range = c.loop-k.invariant.in_range in
    record {
      in_range = omega arith;
      within = passed_within g.A.Linked.chain.stage_pending c.args.todo.now c.loop-k.k (c.loop-k.k - 1) c.index-todo-k.result c.loop-k.left c.waiting_count-count.result (omega arith) (omega arith) c.index-todo-k.is
          c.waiting_count-count.ensures.count c.if-left-count.false c.loop-k.invariant.within;
      same = passed_same g.A.Linked.chain.stage_pending c.args.todo.now c.loop-k.k (c.loop-k.k - 1) c.index-todo-k.result c.loop-k.left c.waiting_count-count.result (omega arith) (omega arith) c.index-todo-k.is
          c.waiting_count-count.ensures.count c.if-left-count.false ∙ c.loop-k.invariant.same;
    }
