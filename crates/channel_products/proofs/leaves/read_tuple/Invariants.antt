use Rattle.std.proofs.Common.{◌≡◌, map, take}
use Rattle.std.specs.Prelude.{slice_index}
use Rattle.channel_products.proofs.leaves.read_tuple.Given as goal

abbrev pub invariant-loop-list : goal.invariant-loop-list
invariant-loop-list l = l.tuple.items ≡ map (λ r. slice_index r.now l.row) (take l.list-index l.lists)
