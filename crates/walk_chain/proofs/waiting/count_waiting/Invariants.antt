use Rattle.std.proofs.Common.{◌≡◌, ◌*◌, ◌≤◌, length, take}
use Rattle.std.specs.List.{flat_map}
use Rattle.walk_chain.proofs.waiting.count_waiting.Given as goal

abbrev pub invariant-loop-walk : goal.invariant-loop-walk
invariant-loop-walk g l = record {
  so_far : l.count ≡ length (flat_map g.A.Linked.chain.stage_pending (take l.walk-index l.todo));
  few : l.count ≤ 8192 * l.walk-index;
}
