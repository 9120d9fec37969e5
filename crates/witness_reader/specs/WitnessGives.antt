-- What a function returned, against a definition of it: they agree, unless memory ran out.
-- Source: docs/ARCHITECTURE.md, "Within witness_reader".
use Rattle.std.specs.Prelude.{◌≡◌, Result, Ok, Err}
use Rattle.witness_reader.specs.declared.fault.WitnessStop.{WitnessStop}
use Rattle.witness_reader.specs.declared.fault.WitnessStop.TheVariants.{Fault, TooLarge, NoMemory}

-- the definition gives this stop
abbrev pub Stops : {Y : Type 0} → WitnessStop → Result Y WitnessStop → Type 0
Stops (Fault fault) given = given ≡ Err (Fault fault)
Stops (TooLarge log_bits) given = given ≡ Err (TooLarge log_bits)
Stops NoMemory given = Unit {0}

-- the definition gives what was returned, as view shows it
abbrev pub Gives : {X Y : Type 0} → (X → Y) → Result X WitnessStop → Result Y WitnessStop → Type 0
Gives view (Ok x) given = given ≡ Ok (view x)
Gives view (Err stop) given = Stops stop given
