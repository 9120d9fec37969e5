-- What a step of the code answers, beside what the machine does.
-- Source: docs/ARCHITECTURE.md, "Within table_text".
use Rattle.std.specs.Prelude.{◌≡◌, Option, Some, None, Result, Ok, Err}
use Rattle.table_text.specs.declared.refusal.Refusal.{Refusal}
use Rattle.table_text.specs.declared.refusal.Refusal.TheVariants.{Unexpected, NoMemory}

-- a token is refused where the machine refuses it, unless memory runs out
abbrev pub Refuses : {X : Type 0} → Refusal → Option X → Type 0
Refuses Unexpected next = next ≡ None
Refuses NoMemory next = Unit {0}

-- a step goes where the machine goes, and is refused where the machine is, unless memory runs out
abbrev pub IsStepTo : {X : Type 0} → Result X Refusal → Option X → Type 0
IsStepTo (Ok x) next = next ≡ Some x
IsStepTo (Err refusal) next = Refuses refusal next
