-- The law of the lowered statement.
-- Source: docs/LOWERING.md, "The lowered statement".
use Rattle.std.specs.Prelude.{ℕ, List}
use Rattle.table_shape.specs.Filling.{Filling, IsFilling}
use Rattle.table_shape.specs.Fits.{ShapeFits}
use Rattle.table_shape.specs.Lowering.{LoweredHolds}
use Rattle.table_shape.specs.Parts.{ShapeParts}
use Rattle.table_shape.specs.Satisfies.{Satisfies}

-- values that satisfy tables satisfy the lowered statement at every alpha a and gamma g
abbrev pub SatisfiedIsLowered : Type 0
SatisfiedIsLowered =
    (shape : ShapeParts) (rows : List ℕ) (filling : Filling) → ShapeFits shape → IsFilling shape.tables rows filling → Satisfies shape rows filling → (a g : ℕ) → LoweredHolds shape rows filling a g
