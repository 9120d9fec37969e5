use Rattle.std.proofs.Common.{◌≡◌, ◌++◌, drop, map}
use Rattle.cube_laws.specs.Extension.{extension}
use Rattle.eval_reduce.proofs.linear_prover.append_extensions.Given as goal

abbrev pub invariant-loop-list : goal.invariant-loop-list
invariant-loop-list l = l.out.items ++ map (λ c. extension c l.point) (drop l.list-index l.lists) ≡ l.fn.out.items ++ map (λ c. extension c l.point) l.lists
