use Rattle.std.proofs.Common.{◌≡◌, ◌<◌, ◌≤◌, length, reverse, take}
use Rattle.std.specs.List.{flat_map, slice_get}
use Rattle.walk_chain.proofs.waiting.waiting_at.Given as goal

abbrev pub invariant-loop-k : goal.invariant-loop-k
invariant-loop-k g l =
    let f = g.A.Linked.chain.stage_pending in
    record {
      in_range : l.k ≤ length l.todo;
      within : l.left < length (flat_map f (reverse (take l.k l.todo)));
      same : slice_get (flat_map f (reverse (take l.k l.todo))) l.left ≡ slice_get (flat_map f (reverse l.todo)) l.fn.i;
    }

abbrev pub decreases-loop-k : goal.decreases-loop-k
decreases-loop-k g l = l.k
