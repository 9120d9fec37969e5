-- A declaration that is being read, place by place, and what it becomes by one token more. None: nothing of the kind stands at that place.
-- Source: docs/ARCHITECTURE.md, "Within table_text".
use Rattle.std.specs.Prelude.{ℕ, Bool, true, false, if◌then◌else◌, List, [], ◌∷◌, ◌++◌, codes, Option, Some, None, option_map}
use Rattle.table_text.specs.Bytes.{close_paren, times_sign, plus_sign, comma, semicolon}
use Rattle.table_text.specs.Lexing.{Token, name, reserved, number, mark, wrong}
use Rattle.table_text.specs.Faults.{is_mark_of}
use Rattle.table_text.specs.TokenClasses.{name_of, number_in, is_word}
use Rattle.table_text.specs.declared.slots.Slot.{Slot}
use Rattle.table_text.specs.declared.slots.Slot.TheVariants.{Mark, Name, Number, Value, ValueEnd, Column, ColumnEnd, Selector, FirstSummand, FirstSign, Summand, TimesSign, TermColumn, TermEnd}
use Rattle.table_text.specs.declared.draft.Parts.{Parts}
use Rattle.table_text.specs.declared.draft.Draft.{Draft}

-- ---- places

abbrev pub popped : List Slot → Option (Slot × List Slot)
popped [] = None
popped (slot ∷ slots) = Some (slot, slots)

abbrev pub is_done : List Slot → Bool
is_done [] = true
is_done (slot ∷ slots) = false

-- ---- what was read

abbrev pub no_parts : Parts
no_parts = record { names = []; columns = []; numbers = []; terms = []; constant = 0; held = 0 }

abbrev pub with_name : Parts → List ℕ → Parts
with_name p w = record p { names = p.names ++ w ∷ [] }

abbrev pub with_column : Parts → List ℕ → Parts
with_column p w = record p { columns = p.columns ++ w ∷ [] }

abbrev pub with_number : Parts → ℕ → Parts
with_number p n = record p { numbers = p.numbers ++ n ∷ [] }

abbrev pub with_term : Parts → ℕ → List ℕ → Parts
with_term p k w = record p { terms = p.terms ++ record { coefficient = k; column = w } ∷ [] }

abbrev pub with_held : Parts → ℕ → Parts
with_held p n = record p { held = n }

-- the number that was held is the constant
abbrev pub with_constant : Parts → Parts
with_constant p = record p { constant = p.held }

-- ---- one token more

abbrev pub draft_at : List Slot → Parts → Draft
draft_at slots parts = record { slots = slots; parts = parts }

-- a column, or a number of which the next mark, behind it, says what it is
abbrev pub summand_step : Slot → List Slot → Parts → Token → Option Draft
summand_step behind slots p (name w) = Some (draft_at (TermEnd ∷ slots) (with_term p 1 w))
summand_step behind slots p (reserved w) = None
summand_step behind slots p (number n) = Some (draft_at (behind ∷ slots) (with_held p n))
summand_step behind slots p (mark b) = None
summand_step behind slots p (wrong kind) = None

-- at a place, with the places behind it
abbrev pub slot_step : Slot → List Slot → Parts → Token → Option Draft
slot_step (Mark b) slots p token = if is_mark_of b token then Some (draft_at slots p) else None
slot_step Name slots p token = option_map (λ w. draft_at slots (with_name p w)) (name_of token)
slot_step Number slots p token = option_map (λ n. draft_at slots (with_number p n)) (number_in token)
slot_step Value slots p token = option_map (λ n. draft_at (ValueEnd ∷ slots) (with_number p n)) (number_in token)
slot_step ValueEnd slots p token = if is_mark_of comma token then Some (draft_at (Value ∷ slots) p) else (if is_mark_of close_paren token then Some (draft_at slots p) else None)
slot_step Column slots p token = option_map (λ w. draft_at (ColumnEnd ∷ slots) (with_column p w)) (name_of token)
slot_step ColumnEnd slots p token = if is_mark_of comma token then Some (draft_at (Column ∷ slots) p) else (if is_mark_of close_paren token then Some (draft_at slots p) else None)
slot_step Selector slots p token =
    if is_mark_of semicolon token then Some (draft_at slots p) else (if is_word (codes "if") token then Some (draft_at (Name ∷ Mark semicolon ∷ slots) p) else None)
slot_step FirstSummand slots p token = summand_step FirstSign slots p token
slot_step FirstSign slots p token =
    if is_mark_of plus_sign token then Some (draft_at (Summand ∷ slots) (with_constant p)) else (if is_mark_of times_sign token then Some (draft_at (TermColumn ∷ slots) p) else None)
slot_step Summand slots p token = summand_step TimesSign slots p token
slot_step TimesSign slots p token = if is_mark_of times_sign token then Some (draft_at (TermColumn ∷ slots) p) else None
slot_step TermColumn slots p token = option_map (λ w. draft_at (TermEnd ∷ slots) (with_term p p.held w)) (name_of token)
slot_step TermEnd slots p token =
    if is_mark_of plus_sign token then Some (draft_at (Summand ∷ slots) p) else (if is_mark_of close_paren token then Some (draft_at slots p) else None)

abbrev pub slots_step : List Slot → Parts → Token → Option Draft
slots_step [] p token = None
slots_step (slot ∷ slots) p token = slot_step slot slots p token

abbrev pub draft_step : Draft → Token → Option Draft
draft_step d token = slots_step d.slots d.parts token
