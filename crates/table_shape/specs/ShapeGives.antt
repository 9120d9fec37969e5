-- What a call of the program gives of what a definition gives.
-- Source: docs/ARCHITECTURE.md, "Within table_shape".
use Rattle.std.specs.Prelude.{◌≡◌, Result, Ok, Err}
use Rattle.table_shape.specs.declared.fault.ShapeFault.{ShapeFault}
use Rattle.table_shape.specs.declared.fault.ShapeStop.{ShapeStop}
use Rattle.table_shape.specs.declared.fault.ShapeStop.TheVariants.{Fault, NoMemory}

-- a refusal is the one that is due, unless memory ran out
abbrev pub Refuses : {X : Type 0} → ShapeStop → Result X ShapeFault → Type 0
Refuses (Fault fault) due = due ≡ Err fault
Refuses NoMemory due = Unit {0}

-- a result is what is due, unless memory ran out
abbrev pub Gives : {X : Type 0} → Result X ShapeStop → Result X ShapeFault → Type 0
Gives (Ok x) due = due ≡ Ok x
Gives (Err stop) due = Refuses stop due
