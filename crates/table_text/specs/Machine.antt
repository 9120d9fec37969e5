-- The reader as a machine: what it has read, and what it becomes by one token more. None: the grammar has no such token there.
-- Source: docs/ARCHITECTURE.md, "Within table_text".
use Rattle.std.specs.Prelude.{ℕ, Bool, true, false, ◌&&◌, ◌==◌, if◌then◌else◌, List, [], ◌∷◌, ◌++◌, length, codes, Option, Some, None, option_map, option_and_then}
use Rattle.table_text.specs.Bytes.{open_paren, close_paren, times_sign, plus_sign, equals_sign, colon, semicolon, open_brace, close_brace}
use Rattle.table_text.specs.Lexing.{Token, name, reserved, number, mark, wrong}
use Rattle.table_text.specs.Grammar.{sum_of, product_of}
use Rattle.table_text.specs.Faults.{is_mark_of}
use Rattle.table_text.specs.TokenClasses.{name_of, is_word, level_of, number_in, log_values_of}
use Rattle.table_text.specs.Drafts.{no_parts, is_done, draft_at, draft_step}
use Rattle.table_text.specs.Forms.{form_word, side_of, item_slots, item_from, decl_slots, decl_from}
use Rattle.table_text.specs.declared.expr.Expr.{Expr}
use Rattle.table_text.specs.declared.expr.Expr.TheVariants as expr
use Rattle.table_text.specs.declared.decl.Item.{Item}
use Rattle.table_text.specs.declared.decl.Item.TheVariants as item
use Rattle.table_text.specs.declared.decl.Decl.{Decl}
use Rattle.table_text.specs.declared.decl.Decl.TheVariants as decl
use Rattle.table_text.specs.declared.formula.Frame.{Frame}
use Rattle.table_text.specs.declared.formula.Formula.{Formula}
use Rattle.table_text.specs.declared.draft.Draft.{Draft}
use Rattle.table_text.specs.declared.forms.ItemForm.{ItemForm}
use Rattle.table_text.specs.declared.forms.ItemForm.TheVariants.{Virtual, Flush}
use Rattle.table_text.specs.declared.forms.DeclForm.{DeclForm}
use Rattle.table_text.specs.declared.forms.DeclForm.TheVariants as declaring
use Rattle.table_text.specs.declared.body.ItemStage.{ItemStage}
use Rattle.table_text.specs.declared.body.ItemStage.TheVariants.{Start, ColumnName, ColumnColon, ColumnType, ColumnEnd, ColumnValues, ColumnLast, VirtualName, VirtualEquals, VirtualForm, Drafting, ZeroName, ZeroColon, Operand, Operator}
use Rattle.table_text.specs.declared.body.Body.{Body}
use Rattle.table_text.specs.declared.state.Stage.{Stage}
use Rattle.table_text.specs.declared.state.Stage.TheVariants as stage
use Rattle.table_text.specs.declared.state.State.{State}

-- ---- an expression that is being read

-- a list without its last element, and that element
abbrev pub put_front : {X : Type 0} → X → Option (List X × X) → List X × X
put_front x None = ([], x)
put_front x (Some (xs, y)) = (x ∷ xs, y)

abbrev pub split_last : {X : Type 0} → List X → Option (List X × X)
split_last [] = None
split_last (x ∷ xs) = Some (put_front x (split_last xs))

-- before the first operand
abbrev pub no_formula : Formula
no_formula = record { outer = []; terms = []; factors = [] }

-- behind a number, a name or a parenthesis
abbrev pub with_factor : Formula → Expr → Formula
with_factor f e = record { outer = f.outer; terms = f.terms; factors = f.factors ++ e ∷ [] }

-- behind a `+`
abbrev pub with_term : Formula → Formula
with_term f = record { outer = f.outer; terms = f.terms ++ product_of f.factors ∷ []; factors = [] }

-- behind a `(`
abbrev pub opened : Formula → Formula
opened f = record { outer = f.outer ++ record { terms = f.terms; factors = f.factors } ∷ []; terms = []; factors = [] }

-- the innermost sum
abbrev pub innermost : Formula → Expr
innermost f = sum_of (f.terms ++ product_of f.factors ∷ [])

-- behind a `)`
abbrev pub back_in : Expr → List Frame × Frame → Formula
back_in e (outer, frame) = record { outer = outer; terms = frame.terms; factors = frame.factors ++ e ∷ [] }

-- the sum around a `(`, with the sum behind it as its factor
abbrev pub closed : Formula → Option Formula
closed f = option_map (back_in (innermost f)) (split_last f.outer)

-- ---- items

abbrev pub body_at : List Item → ItemStage → Body
body_at items stage = record { items = items; stage = stage }

-- at an operand: a name, a number or a `(`
abbrev pub operand_step : List ℕ → Formula → Token → Option ItemStage
operand_step n f (name w) = Some (Operator n (with_factor f (expr.Column w)))
operand_step n f (reserved w) = None
operand_step n f (number k) = Some (Operator n (with_factor f (expr.Number k)))
operand_step n f (mark b) = if b == open_paren then Some (Operand n (opened f)) else None
operand_step n f (wrong kind) = None

-- behind an operand: `*`, `+`, `)` or `;`
abbrev pub operator_step : List Item → List ℕ → Formula → Token → Option Body
operator_step items n f token =
    if is_mark_of times_sign token then Some (body_at items (Operand n f))
    else (if is_mark_of plus_sign token then Some (body_at items (Operand n (with_term f)))
    else (if is_mark_of close_paren token then option_map (λ g. body_at items (Operator n g)) (closed f)
    else (if is_mark_of semicolon token && (length f.outer == 0) then Some (body_at (items ++ item.Zero n (innermost f) ∷ []) Start) else None)))

-- an item of which something was read: it is done, or it goes on
abbrev pub settled : List Item → ItemForm → Draft → Option Body
settled items form d = if is_done d.slots then option_map (λ i. body_at (items ++ i ∷ []) Start) (item_from form d.parts) else Some (body_at items (Drafting form d))

-- what comes next in a table after one token more
abbrev pub body_step : List Item → ItemStage → Token → Option Body
body_step items Start token =
    if is_word (codes "column") token then Some (body_at items ColumnName)
    else (if is_word (codes "virtual") token then Some (body_at items VirtualName)
    else (if is_word (codes "zero") token then Some (body_at items ZeroName)
    else option_map (λ side. body_at items (Drafting (Flush side) (draft_at (item_slots (Flush side)) no_parts))) (side_of token)))
body_step items ColumnName token = option_map (λ w. body_at items (ColumnColon w)) (name_of token)
body_step items (ColumnColon n) token = if is_mark_of colon token then Some (body_at items (ColumnType n)) else None
body_step items (ColumnType n) token = option_map (λ level. body_at items (ColumnEnd n level)) (option_and_then level_of (name_of token))
body_step items (ColumnEnd n level) token =
    if is_mark_of semicolon token then Some (body_at (items ++ item.Column n level 0 ∷ []) Start) else (if is_word (codes "x") token then Some (body_at items (ColumnValues n level)) else None)
body_step items (ColumnValues n level) token = option_map (λ v. body_at items (ColumnLast n level v)) (option_and_then log_values_of (number_in token))
body_step items (ColumnLast n level v) token = if is_mark_of semicolon token then Some (body_at (items ++ item.Column n level v ∷ []) Start) else None
body_step items VirtualName token = option_map (λ w. body_at items (VirtualEquals w)) (name_of token)
body_step items (VirtualEquals n) token = if is_mark_of equals_sign token then Some (body_at items (VirtualForm n)) else None
body_step items (VirtualForm n) token = option_map (λ word. body_at items (Drafting (Virtual n word) (draft_at (item_slots (Virtual n word)) no_parts))) (form_word token)
body_step items (Drafting form d) token = option_and_then (settled items form) (draft_step d token)
body_step items ZeroName token = option_map (λ w. body_at items (ZeroColon w)) (name_of token)
body_step items (ZeroColon n) token = if is_mark_of colon token then Some (body_at items (Operand n no_formula)) else None
body_step items (Operand n f) token = option_map (body_at items) (operand_step n f token)
body_step items (Operator n f) token = operator_step items n f token

-- ---- tables

abbrev pub is_start : ItemStage → Bool
is_start Start = true
is_start ColumnName = false
is_start (ColumnColon n) = false
is_start (ColumnType n) = false
is_start (ColumnEnd n level) = false
is_start (ColumnValues n level) = false
is_start (ColumnLast n level v) = false
is_start VirtualName = false
is_start (VirtualEquals n) = false
is_start (VirtualForm n) = false
is_start (Drafting form d) = false
is_start ZeroName = false
is_start (ZeroColon n) = false
is_start (Operand n f) = false
is_start (Operator n f) = false

-- these declarations, and what comes next
abbrev pub state_at : List Decl → Stage → State
state_at decls stage = record { decls = decls; stage = stage }

-- a channel or a boundary behind its first words
abbrev pub begun : List Decl → DeclForm → State
begun decls form = state_at decls (stage.Drafting form (draft_at (decl_slots form) no_parts))

-- a channel or a boundary of which something was read: it is done, or it goes on
abbrev pub decl_settled : List Decl → DeclForm → Draft → Option State
decl_settled decls form d = if is_done d.slots then option_map (λ e. state_at (decls ++ e ∷ []) stage.File) (decl_from form d.parts) else Some (state_at decls (stage.Drafting form d))

-- what comes next in a text after one token more
abbrev pub stage_step : List Decl → Stage → Token → Option State
stage_step decls stage.File token =
    if is_word (codes "table") token then Some (state_at decls stage.TableName)
    else (if is_word (codes "channel") token then Some (begun decls declaring.Channel)
    else (if is_word (codes "boundary") token then Some (state_at decls stage.BoundarySide) else None))
stage_step decls stage.BoundarySide token = option_map (λ side. begun decls (declaring.Boundary side)) (side_of token)
stage_step decls (stage.Drafting form d) token = option_and_then (decl_settled decls form) (draft_step d token)
stage_step decls stage.TableName token = option_map (λ w. state_at decls (stage.TableBrace w)) (name_of token)
stage_step decls (stage.TableBrace n) token = if is_mark_of open_brace token then Some (state_at decls (stage.Table n (body_at [] Start))) else None
stage_step decls (stage.Table n body) token =
    if is_mark_of close_brace token && is_start body.stage then Some (state_at (decls ++ decl.Table n body.items ∷ []) stage.File)
    else option_map (λ b. state_at decls (stage.Table n b)) (body_step body.items body.stage token)

-- the machine after one token more
abbrev pub step : State → Token → Option State
step s token = stage_step s.decls s.stage token

-- before the first token
abbrev pub start : State
start = state_at [] stage.File

-- the machine after these tokens
abbrev pub run : State → List Token → Option State
run s [] = Some s
run s (token ∷ tokens) = option_and_then (λ t. run t tokens) (step s token)

-- whether a table, or the end of the text, comes next
abbrev pub is_file_stage : Stage → Bool
is_file_stage stage.File = true
is_file_stage stage.BoundarySide = false
is_file_stage (stage.Drafting form d) = false
is_file_stage stage.TableName = false
is_file_stage (stage.TableBrace n) = false
is_file_stage (stage.Table n body) = false
