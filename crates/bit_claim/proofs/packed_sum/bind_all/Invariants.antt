use Rattle.std.proofs.Common.{◌≡◌, ◌-◌, map, take}
use Rattle.cube_laws.specs.Extension.{fold_all}
use Rattle.bit_claim.proofs.packed_sum.bind_all.Given as goal

abbrev pub invariant-loop-r : goal.invariant-loop-r
invariant-loop-r l = l.sum ≡ record l.fn.sum { left = l.fn.sum.left - l.r-index; lists = map (fold_all (take l.r-index l.draws)) l.fn.sum.lists }
