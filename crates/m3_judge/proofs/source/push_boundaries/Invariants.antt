use Rattle.std.proofs.Common.{◌≡◌, ◌++◌, map, drop}
use Rattle.std.specs.List.{filter}
use Rattle.table_shape.specs.declared.shape.BoundaryShape.{BoundaryShape}
use Rattle.table_shape.specs.Channels.{boundary_tuples, is_boundary_of}
use Rattle.m3_judge.specs.Sources.{tuples_of}
use Rattle.m3_judge.proofs.source.push_boundaries.Given as goal

abbrev pub invariant-loop-k : goal.invariant-loop-k
invariant-loop-k l =
    tuples_of l.store.shape l.store.filling l.sources.items ++ map (λ (b : BoundaryShape). b.values) (filter (is_boundary_of l.side l.channel) (drop l.k l.store.shape.boundaries))
    ≡ tuples_of l.store.shape l.store.filling l.fn.sources.items ++ boundary_tuples l.side l.channel l.store.shape.boundaries
