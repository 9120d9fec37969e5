use Rattle.std.proofs.Common.{drop}
use Rattle.table_shape.specs.Shape.{shape_of}
use Rattle.table_shape.proofs.ShapeSteps.{Adds}
use Rattle.table_shape.proofs.resolving.resolve.Given as goal

abbrev pub invariant-loop-decl : goal.invariant-loop-decl
invariant-loop-decl l =
    Adds l.number (drop l.decl-index l.decl-items) (record { channels = l.channels; boundaries = l.boundaries; tables = l.shapes; digest = l.digest }) (shape_of l.tables)
