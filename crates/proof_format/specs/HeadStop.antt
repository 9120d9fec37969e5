-- Facts by the answer of a read head.
-- Source: docs/PROOF.md, "The head".
use Rattle.std.specs.Prelude.{Result, Ok, Err, Option, None, Some}
use Rattle.proof_format.specs.declared.head_stop.HeadStop.{HeadStop}
use Rattle.proof_format.specs.declared.head_stop.HeadStop.TheVariants.{Fault, NoMemory}
use Rattle.proof_format.specs.declared.proof_fault.ProofFault.{ProofFault}

-- the fault of a check, where it answers one
abbrev pub fault_of : {X : Type 0} → Result X ProofFault → Option ProofFault
fault_of (Ok _) = None
fault_of (Err fault) = Some fault

-- a fact of the fault where the answer is one
abbrev pub OnFault : {X : Type 0} → Result X HeadStop → (ProofFault → Type 0) → Type 0
OnFault (Ok _) P = Unit {0}
OnFault (Err (Fault fault)) P = P fault
OnFault (Err NoMemory) P = Unit {0}
