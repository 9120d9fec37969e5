-- What the reader answers, as a function of the text.
-- Source: docs/ARCHITECTURE.md, "Within table_text".
use Rattle.std.specs.Prelude.{◌≡◌, ℕ, ◌+◌, ◌-◌, Bool, false, not, ◌&&◌, ◌≤◌, nat_le, if◌then◌else◌, List, [], ◌∷◌, length, position, Option, Some, None, Result, Ok, Err}
use Rattle.table_text.specs.Bytes.{is_text, open_paren, close_paren}
use Rattle.table_text.specs.Lexing.{Token, Spot, spots}
use Rattle.table_text.specs.Limits.{max_open, max_declarations}
use Rattle.table_text.specs.Faults.{own_fault, is_mark_of, is_boundary, begins_declaration}
use Rattle.table_text.specs.Machine.{step, start, is_file_stage}
use Rattle.table_text.specs.declared.decl.Decl.{Decl}
use Rattle.table_text.specs.declared.state.State.{State}
use Rattle.table_text.specs.declared.progress.Progress.{Progress}
use Rattle.table_text.specs.declared.fault.TextFault.{TextFault}
use Rattle.table_text.specs.declared.fault.TextKind.{TextKind}
use Rattle.table_text.specs.declared.fault.TextKind.TheVariants.{NotText, Unexpected, TooDeep, TooMany}
use Rattle.table_text.specs.declared.fault.TextStop.{TextStop}
use Rattle.table_text.specs.declared.fault.TextStop.TheVariants as stop

-- what a call returned, seen by view, is what reading gives, unless memory ran out
abbrev pub Fails : {Y : Type 0} → TextStop → Result Y TextFault → Type 0
Fails (stop.Fault f) read = read ≡ Err f
Fails stop.NoMemory read = Unit {0}

-- what a call returned is what reading gives, unless memory ran out
abbrev pub Gives : {X : Type 0} → Result X TextStop → Result X TextFault → Type 0
Gives (Ok x) read = read ≡ Ok x
Gives (Err e) read = Fails e read

-- a fault of this kind at a place
abbrev pub fault_at : ℕ → TextKind → TextFault
fault_at place kind = record { place = place; kind = kind }

-- 1 for what counts, and 0 for what does not
abbrev pub one_if : Bool → ℕ
one_if b = if b then 1 else 0

-- what was read and counted after a token that led to a state
abbrev pub progress_after : Progress → Token → State → Progress
progress_after p token state = record {
  state = state;
  opened = p.opened + one_if (is_mark_of open_paren token);
  closed = p.closed + one_if (is_mark_of close_paren token);
  begun = p.begun + one_if (begins_declaration p.behind_boundary token);
  behind_boundary = is_boundary token;
}

-- what the limits have against a token
abbrev pub limit_fault : Progress → Token → Option TextKind
limit_fault p token =
    if is_mark_of open_paren token && nat_le max_open (p.opened - p.closed) then Some TooDeep
    else (if begins_declaration p.behind_boundary token && nat_le max_declarations p.begun then Some TooMany else None)

-- after a token that the grammar allows, unless a limit refuses it
abbrev pub limited : Progress → ℕ → Token → State → Option TextKind → Result Progress TextFault
limited p place token state None = Ok (progress_after p token state)
limited p place token state (Some kind) = Err (fault_at place kind)

-- after a token that is sound, unless the grammar refuses it
abbrev pub allowed : Progress → ℕ → Token → Option State → Result Progress TextFault
allowed p place token None = Err (fault_at place Unexpected)
allowed p place token (Some state) = limited p place token state (limit_fault p token)

-- after a token, unless it is wrong in itself
abbrev pub sound : Progress → ℕ → Token → Option TextKind → Result Progress TextFault
sound p place token None = allowed p place token (step p.state token)
sound p place token (Some kind) = Err (fault_at place kind)

-- after one token more
abbrev pub taken : Progress → ℕ → Token → Result Progress TextFault
taken p place token = sound p place token (own_fault token)

-- after a piece, which may be no token
abbrev pub after_piece : Progress → ℕ → Option Token → Result Progress TextFault
after_piece p place None = Ok p
after_piece p place (Some token) = taken p place token

-- each count is at most n
abbrev pub CountsWithin : Progress → ℕ → Type 0
CountsWithin p n = (p.opened ≤ n) × (p.closed ≤ n) × (p.begun ≤ n)

-- the declarations at the end of the text, unless the grammar wants more
abbrev pub finished : State → ℕ → Result (List Decl) TextFault
finished s end = if is_file_stage s.stage then Ok s.decls else Err (fault_at end Unexpected)

-- what is read on from an answer, or its fault
abbrev pub then_read : Result Progress TextFault → (Progress → Result (List Decl) TextFault) → Result (List Decl) TextFault
then_read (Ok p) more = more p
then_read (Err fault) more = Err fault

-- the declarations, from what was read and the tokens that are left
unfoldable pub reading_from : Progress → List Spot → ℕ → Result (List Decl) TextFault
reading_from p [] end = finished p.state end
reading_from p (s ∷ spots) end = then_read (taken p s.place s.token) (λ q. reading_from q spots end)

-- before the first token
abbrev pub begin : Progress
begin = record { state = start; opened = 0; closed = 0; begun = 0; behind_boundary = false }

-- the reading of a text whose first byte that no text has is known
abbrev pub reading_at : List ℕ → Option ℕ → Result (List Decl) TextFault
reading_at text None = reading_from begin (spots text) (length text)
reading_at text (Some place) = Err (fault_at place NotText)

-- the declarations of a text, or its fault
abbrev pub reading : List ℕ → Result (List Decl) TextFault
reading text = reading_at text (position (λ b. not (is_text b)) text)
