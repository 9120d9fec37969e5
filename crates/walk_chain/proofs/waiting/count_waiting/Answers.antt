use Rattle.std.proofs.Common.{arith}
use Rattle.walk_chain.proofs.Pieces.{counted_all}
use Rattle.walk_chain.proofs.waiting.count_waiting.Goals as goal

pub returns-clause-count : goal.returns-clause-count
returns-clause-count g c = counted_all g.A.Linked.chain.stage_pending c.args.todo.now c.loop-walk.walk-index c.loop-walk.count (let end = c.loop-walk-test.false in omega arith) c.loop-walk.invariant.so_far
