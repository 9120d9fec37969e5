use Rattle.std.proofs.Common.{◌≡◌, ◌≤◌, ◌+◌, ◌-◌, ◌++◌, length, vec_capacity}
use Rattle.cube_laws.specs.Extension.{bits_of}
use Rattle.eval_reduce.proofs.project_step.append_bits.Given as goal

abbrev pub invariant-loop : goal.invariant-loop
invariant-loop l = record {
  bits : l.point.items ++ bits_of (l.log - l.counter) l.rest ≡ l.fn.point.items ++ bits_of l.log l.index;
  long : length l.point.items ≡ length l.fn.point.items + l.counter;
  capacity : vec_capacity l.fn.point ≤ vec_capacity l.point;
}
