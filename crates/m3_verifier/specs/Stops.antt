-- Facts by the answer of a reading.
-- Source: docs/PROOF.md, "The verdict".
use Rattle.std.specs.Prelude.{◌≡◌, ℕ, Option, Some}
use Rattle.m3_verifier.specs.declared.halt.Halt.{Halt}
use Rattle.m3_verifier.specs.declared.halt.Halt.TheVariants.{NoMemory}
use Rattle.m3_verifier.specs.declared.halt.Stopped.{Stopped}

-- it halts for this, unless memory ran out
abbrev pub HaltsFor : Halt → Option Halt → Type 0
HaltsFor NoMemory due = Unit {0}
HaltsFor h due = due ≡ Some h

abbrev pub StopsFor : ℕ → Halt → Option Stopped → Type 0
StopsFor i NoMemory due = Unit {0}
StopsFor i h due = due ≡ Some (record { entry = i; halt = h })

-- it stops there for this, unless memory ran out
abbrev pub Stops : Stopped → Option Stopped → Type 0
Stops s due = StopsFor s.entry s.halt due
