-- The declarations that are read place by place: their places, and what they are once all was read.
-- Source: docs/ARCHITECTURE.md, "Within table_text".
use Rattle.std.specs.Prelude.{ℕ, if◌then◌else◌, List, [], ◌∷◌, codes, Option, Some, None, option_map, option_and_then}
use Rattle.table_text.specs.Bytes.{open_paren, close_paren, comma, colon, semicolon}
use Rattle.table_text.specs.Lexing.{Token}
use Rattle.table_text.specs.TokenClasses.{is_word}
use Rattle.table_text.specs.declared.decl.VirtualForm.{VirtualForm}
use Rattle.table_text.specs.declared.decl.VirtualForm.TheVariants as form
use Rattle.table_text.specs.declared.decl.Item.{Item}
use Rattle.table_text.specs.declared.decl.Item.TheVariants as item
use Rattle.table_text.specs.declared.decl.Decl.{Decl}
use Rattle.table_text.specs.declared.decl.Decl.TheVariants as decl
use Rattle.table_text.specs.declared.decl.Side.{Side}
use Rattle.table_text.specs.declared.decl.Side.TheVariants.{Push, Pull}
use Rattle.table_text.specs.declared.slots.Slot.{Slot}
use Rattle.table_text.specs.declared.slots.Slot.TheVariants.{Mark, Name, Number, Value, Column, Selector, FirstSummand}
use Rattle.table_text.specs.declared.draft.Parts.{Parts}
use Rattle.table_text.specs.declared.forms.FormWord.{FormWord}
use Rattle.table_text.specs.declared.forms.FormWord.TheVariants.{Shl, Shr, Rol, Project, Pack, Linear}
use Rattle.table_text.specs.declared.forms.ItemForm.{ItemForm}
use Rattle.table_text.specs.declared.forms.ItemForm.TheVariants.{Virtual, Flush}
use Rattle.table_text.specs.declared.forms.DeclForm.{DeclForm}
use Rattle.table_text.specs.declared.forms.DeclForm.TheVariants.{Channel, Boundary}

abbrev pub form_word : Token → Option FormWord
form_word token =
    if is_word (codes "shl") token then Some Shl
    else (if is_word (codes "shr") token then Some Shr
    else (if is_word (codes "rol") token then Some Rol
    else (if is_word (codes "project") token then Some Project
    else (if is_word (codes "pack") token then Some Pack
    else (if is_word (codes "linear") token then Some Linear else None)))))

abbrev pub side_of : Token → Option Side
side_of token = if is_word (codes "push") token then Some Push else (if is_word (codes "pull") token then Some Pull else None)

-- ---- places

-- "(" name "," number "," number ")" ";"
abbrev pub shift_slots : List Slot
shift_slots = Mark open_paren ∷ Name ∷ Mark comma ∷ Number ∷ Mark comma ∷ Number ∷ Mark close_paren ∷ Mark semicolon ∷ []

-- "(" name "," number ")" ";"
abbrev pub pack_slots : List Slot
pack_slots = Mark open_paren ∷ Name ∷ Mark comma ∷ Number ∷ Mark close_paren ∷ Mark semicolon ∷ []

-- "(" [ number "+" ] lterm { "+" lterm } ")" ";"
abbrev pub linear_slots : List Slot
linear_slots = Mark open_paren ∷ FirstSummand ∷ Mark semicolon ∷ []

abbrev pub form_slots : FormWord → List Slot
form_slots Shl = shift_slots
form_slots Shr = shift_slots
form_slots Rol = shift_slots
form_slots Project = shift_slots
form_slots Pack = pack_slots
form_slots Linear = linear_slots

-- name "(" name { "," name } ")" [ "if" name ] ";"
abbrev pub flush_slots : List Slot
flush_slots = Name ∷ Mark open_paren ∷ Column ∷ Selector ∷ []

-- behind the first words of an item, which say its form
abbrev pub item_slots : ItemForm → List Slot
item_slots (Virtual w word) = form_slots word
item_slots (Flush side) = flush_slots

-- name ":" number ";"
abbrev pub channel_slots : List Slot
channel_slots = Name ∷ Mark colon ∷ Number ∷ Mark semicolon ∷ []

-- name "(" number { "," number } ")" ";"
abbrev pub boundary_slots : List Slot
boundary_slots = Name ∷ Mark open_paren ∷ Value ∷ Mark semicolon ∷ []

abbrev pub decl_slots : DeclForm → List Slot
decl_slots Channel = channel_slots
decl_slots (Boundary side) = boundary_slots

-- ---- meanings

abbrev pub one : List (List ℕ) → Option (List ℕ)
one [] = None
one (w ∷ []) = Some w
one (w ∷ v ∷ ws) = None

abbrev pub two_numbers : List ℕ → Option (ℕ × ℕ)
two_numbers [] = None
two_numbers (m ∷ []) = None
two_numbers (m ∷ n ∷ []) = Some (m, n)
two_numbers (m ∷ n ∷ k ∷ ns) = None

abbrev pub one_number : List ℕ → Option ℕ
one_number [] = None
one_number (n ∷ []) = Some n
one_number (m ∷ n ∷ ns) = None

-- a column and two numbers
abbrev pub shift_parts : Parts → Option (List ℕ × ℕ × ℕ)
shift_parts p = option_and_then (λ c. option_map (λ (m, n). (c, m, n)) (two_numbers p.numbers)) (one p.names)

-- a name and a number
abbrev pub name_and_number : Parts → Option (List ℕ × ℕ)
name_and_number p = option_and_then (λ c. option_map (λ n. (c, n)) (one_number p.numbers)) (one p.names)

abbrev pub form_from : FormWord → Parts → Option VirtualForm
form_from Shl p = option_map (λ (c, b, o). form.Shl c b o) (shift_parts p)
form_from Shr p = option_map (λ (c, b, o). form.Shr c b o) (shift_parts p)
form_from Rol p = option_map (λ (c, b, o). form.Rol c b o) (shift_parts p)
form_from Project p = option_map (λ (c, k, j). form.Project c k j) (shift_parts p)
form_from Pack p = option_map (λ (c, k). form.Pack c k) (name_and_number p)
form_from Linear p = Some (form.Linear p.constant p.terms)

-- a channel, and a selector if there is one
abbrev pub flush_names : List (List ℕ) → Option (List ℕ × Option (List ℕ))
flush_names [] = None
flush_names (c ∷ []) = Some (c, None)
flush_names (c ∷ s ∷ []) = Some (c, Some s)
flush_names (c ∷ s ∷ w ∷ ws) = None

abbrev pub item_from : ItemForm → Parts → Option Item
item_from (Virtual w word) p = option_map (λ f. item.Virtual w f) (form_from word p)
item_from (Flush side) p = option_map (λ (c, s). item.Flush side c p.columns s) (flush_names p.names)

abbrev pub decl_from : DeclForm → Parts → Option Decl
decl_from Channel p = option_map (λ (w, n). decl.Channel w n) (name_and_number p)
decl_from (Boundary side) p = option_map (λ c. decl.Boundary side c p.numbers) (one p.names)
