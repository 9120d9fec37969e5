-- The machine reads what each tree spells, and has then what the tree means.
use Rattle.std.proofs.Common.{◌≡◌, ℕ, zero, suc, ◌≤◌, ◌^◌, List, [], ◌∷◌, ◌++◌, Option, Some, None, refl, sym, ◌∙◌, ap, subst, append_assoc, arith}
use Rattle.std.proofs.lemmas.List.{append-nil}
use Rattle.std.proofs.lemmas.Option.{none-some, same_Some}
use Rattle.std.specs.Prelude.{map, option_map, option_and_then}
use Rattle.std.specs.List.{flat_map}
use Rattle.table_text.specs.Bytes.{open_paren, close_paren, times_sign, plus_sign, semicolon, close_brace}
use Rattle.table_text.specs.Lexing.{Token, name, reserved, number, mark}
use Rattle.table_text.specs.Grammar.{Sum, first_term, plus, Product, first_factor, times, Atom, constant, column, parens, ItemTree, one_value, several_values, column_item, virtual_item, TermTree, plain_term, times_term, FormTree, shl_form, shr_form, rol_form, project_form, pack_form, linear_form, zero_item, term_tokens, more_term_tokens, constant_tokens, form_of, flush_item, DeclTree, channel_tree, boundary_tree, table_tree, side_word, more_name_tokens, more_number_tokens, selector_tokens, FileTree, sum_tokens, product_tokens, atom_tokens, atom_expr, terms, factors, sum_of, product_of, type_word, item_tokens, decl_tokens, file_tokens, item_of, decl_of}
use Rattle.table_text.specs.TokenClasses.{level_of, log_values_of}
use Rattle.table_text.specs.Drafts.{with_name, with_column, with_number, no_parts, draft_at}
use Rattle.table_text.specs.Forms.{linear_slots, flush_slots, boundary_slots}
use Rattle.table_text.specs.declared.slots.Slot.{Slot}
use Rattle.table_text.specs.declared.slots.Slot.TheVariants.{Mark, Name, Value, ValueEnd, Column, ColumnEnd, Selector, FirstSummand, Summand, TermEnd}
use Rattle.table_text.specs.declared.draft.Parts.{Parts}
use Rattle.table_text.specs.declared.forms.FormWord.{FormWord}
use Rattle.table_text.specs.declared.forms.FormWord.TheVariants.{Linear}
use Rattle.table_text.specs.declared.forms.ItemForm.TheVariants.{Virtual, Flush}
use Rattle.table_text.specs.declared.forms.DeclForm.{DeclForm}
use Rattle.table_text.specs.declared.forms.DeclForm.TheVariants.{Boundary}
use Rattle.table_text.specs.declared.decl.Side.{Side}
use Rattle.table_text.specs.declared.decl.Side.TheVariants.{Push, Pull}
use Rattle.table_text.specs.Machine.{back_in, innermost, body_at, state_at, step, run, start}
use Rattle.table_text.specs.declared.expr.Expr.{Expr}
use Rattle.table_text.specs.declared.decl.Item.{Item}
use Rattle.table_text.specs.declared.decl.Item.TheVariants as item
use Rattle.table_text.specs.declared.decl.Decl.{Decl}
use Rattle.table_text.specs.declared.formula.Frame.{Frame}
use Rattle.table_text.specs.declared.formula.Formula.{Formula}
use Rattle.table_text.specs.declared.body.ItemStage.{ItemStage}
use Rattle.table_text.specs.declared.body.ItemStage.TheVariants as its
use Rattle.table_text.specs.declared.state.Stage.TheVariants as stage
use Rattle.table_text.specs.declared.state.State.{State}
use Rattle.table_text.proofs.Stacks.{split_last-append}
use Rattle.table_text.proofs.Fillings.{read_term, read_terms, read_constant, read_columns, read_numbers}
use Rattle.table_text.proofs.FormTrees.{linear_read, flush_read, boundary_read}

-- from s the tokens lead to t, whatever comes behind them
pub record Leads (s : State) (tokens : List Token) (t : State) : Type 0 where
  pub on : (rest : List Token) → run s (tokens ++ rest) ≡ run t rest

pub joined : (s t u : State) (xs ys : List Token) → Leads s xs t → Leads t ys u → Leads s (xs ++ ys) u
joined s t u xs ys a b = record { on = λ rest. ap (run s) (append_assoc xs ys rest) ∙ a.on (ys ++ rest) ∙ b.on rest }

-- one token that the machine takes
one : (s t : State) (token : Token) → step s token ≡ Some t → Leads s (token ∷ []) t
one s t token e = record { on = λ rest. ap (option_and_then (λ v. run v rest)) e }

first : (s t u : State) (token : Token) (tokens : List Token) → step s token ≡ Some t → Leads t tokens u → Leads s (token ∷ tokens) u
first s t u token tokens e l = record { on = λ rest. ap (option_and_then (λ v. run v (tokens ++ rest))) e ∙ l.on rest }

nothing : (s : State) → Leads s [] s
nothing s = record { on = λ rest. refl }

-- the place of an expression: the declarations, the table's name and items, and the constraint's name
pub record Place : Type 0 where
  pub decls : List Decl
  pub table : List ℕ
  pub items : List Item
  pub zero : List ℕ

abbrev formula : List Frame → List Expr → List Expr → Formula
formula o ts fs = record { outer = o; terms = ts; factors = fs }

abbrev in_table : Place → ItemStage → State
in_table at s = state_at at.decls (stage.Table at.table (body_at at.items s))

abbrev before : Place → List Frame → List Expr → List Expr → State
before at o ts fs = in_table at (its.Operand at.zero (formula o ts fs))

abbrev behind : Place → List Frame → List Expr → List Expr → State
behind at o ts fs = in_table at (its.Operator at.zero (formula o ts fs))

abbrev frame : List Expr → List Expr → Frame
frame ts fs = record { terms = ts; factors = fs }

-- the terms of a sum before its last one, and the factors of that one
abbrev front_terms : Sum → List Expr
front_terms (first_term p) = []
front_terms (plus s p) = terms s

abbrev last_factors : Sum → List Expr
last_factors (first_term p) = factors p
last_factors (plus s p) = factors p

terms-parts : (s : Sum) → front_terms s ++ product_of (last_factors s) ∷ [] ≡ terms s
terms-parts (first_term p) = refl
terms-parts (plus s p) = refl

closes : (at : Place) (o : List Frame) (ts fs : List Expr) (s : Sum)
    → step (behind at (o ++ frame ts fs ∷ []) (front_terms s) (last_factors s)) (mark close_paren) ≡ Some (behind at o ts (fs ++ atom_expr (parens s) ∷ []))
closes at o ts fs s =
    let f = formula (o ++ frame ts fs ∷ []) (front_terms s) (last_factors s) in
    let into : Option Formula → Option State = λ g. option_map (λ b. state_at at.decls (stage.Table at.table b)) (option_map (λ h. body_at at.items (its.Operator at.zero h)) g) in
    ap (λ r. into (option_map (back_in (innermost f)) r)) (split_last-append o (frame ts fs))
    ∙ ap (λ ss. Some (behind at o ts (fs ++ sum_of ss ∷ []))) (terms-parts s)

adds : (at : Place) (o : List Frame) (s : Sum) → step (behind at o (front_terms s) (last_factors s)) (mark plus_sign) ≡ Some (before at o (terms s) [])
adds at o s = ap (λ ts. Some (before at o ts [])) (terms-parts s)

mutual
  pub atom_read : (at : Place) (o : List Frame) (ts fs : List Expr) (a : Atom) → Leads (before at o ts fs) (atom_tokens a) (behind at o ts (fs ++ atom_expr a ∷ []))
  atom_read at o ts fs (constant n) = one _ _ _ refl
  atom_read at o ts fs (column w) = one _ _ _ refl
  atom_read at o ts fs (parens s) = first _ (before at (o ++ frame ts fs ∷ []) [] []) _ _ _ refl
      (joined _ _ _ (sum_tokens s) (mark close_paren ∷ []) (sum_read at (o ++ frame ts fs ∷ []) s) (one _ _ _ (closes at o ts fs s)))

  pub product_read : (at : Place) (o : List Frame) (ts : List Expr) (p : Product) → Leads (before at o ts []) (product_tokens p) (behind at o ts (factors p))
  product_read at o ts (first_factor a) = atom_read at o ts [] a
  product_read at o ts (times p a) = joined _ _ _ (product_tokens p) (mark times_sign ∷ atom_tokens a) (product_read at o ts p)
      (first _ (before at o ts (factors p)) _ _ _ refl (atom_read at o ts (factors p) a))

  pub sum_read : (at : Place) (o : List Frame) (s : Sum) → Leads (before at o [] []) (sum_tokens s) (behind at o (front_terms s) (last_factors s))
  sum_read at o (first_term p) = product_read at o [] p
  sum_read at o (plus s p) = joined _ _ _ (sum_tokens s) (mark plus_sign ∷ product_tokens p) (sum_read at o s)
      (first _ (before at o (terms s) []) _ _ _ (adds at o s) (product_read at o (terms s) p))

-- ---- items

level_of-type_word : (level : ℕ) → level ≤ 7 → level_of (type_word level) ≡ Some level
level_of-type_word zero h = refl
level_of-type_word (suc zero) h = refl
level_of-type_word (suc (suc zero)) h = refl
level_of-type_word (suc (suc (suc zero))) h = refl
level_of-type_word (suc (suc (suc (suc zero)))) h = refl
level_of-type_word (suc (suc (suc (suc (suc zero))))) h = refl
level_of-type_word (suc (suc (suc (suc (suc (suc zero)))))) h = refl
level_of-type_word (suc (suc (suc (suc (suc (suc (suc zero))))))) h = refl
level_of-type_word (suc (suc (suc (suc (suc (suc (suc (suc n)))))))) h = absurd (omega arith)

abbrev table_at : List Decl → List ℕ → List Item → ItemStage → State
table_at ds w items s = state_at ds (stage.Table w (body_at items s))

type_step : (ds : List Decl) (t : List ℕ) (items : List Item) (w : List ℕ) (level : ℕ) → level ≤ 7
    → step (table_at ds t items (its.ColumnType w)) (name (type_word level)) ≡ Some (table_at ds t items (its.ColumnEnd w level))
type_step ds t items w level h = ap (λ r. option_map (λ b. state_at ds (stage.Table t b)) (option_map (λ l. body_at items (its.ColumnEnd w l)) r)) (level_of-type_word level h)

log_values_of-power : (v : ℕ) → v ≤ 7 → log_values_of (2 ^ v) ≡ Some v
log_values_of-power zero h = refl
log_values_of-power (suc zero) h = refl
log_values_of-power (suc (suc zero)) h = refl
log_values_of-power (suc (suc (suc zero))) h = refl
log_values_of-power (suc (suc (suc (suc zero)))) h = refl
log_values_of-power (suc (suc (suc (suc (suc zero))))) h = refl
log_values_of-power (suc (suc (suc (suc (suc (suc zero)))))) h = refl
log_values_of-power (suc (suc (suc (suc (suc (suc (suc zero))))))) h = refl
log_values_of-power (suc (suc (suc (suc (suc (suc (suc (suc n)))))))) h = absurd (omega arith)

values_step : (ds : List Decl) (t : List ℕ) (items : List Item) (w : List ℕ) (level v : ℕ) → v ≤ 7
    → step (table_at ds t items (its.ColumnValues w level)) (number (2 ^ v)) ≡ Some (table_at ds t items (its.ColumnLast w level v))
values_step ds t items w level v h = ap (λ r. option_map (λ b. state_at ds (stage.Table t b)) (option_map (λ l. body_at items (its.ColumnLast w level l)) r)) (log_values_of-power v h)

end_step : (ds : List Decl) (t : List ℕ) (items : List Item) (w : List ℕ) (s : Sum)
    → step (table_at ds t items (its.Operator w (formula [] (front_terms s) (last_factors s)))) (mark semicolon) ≡ Some (table_at ds t (items ++ item.Zero w (sum_of (terms s)) ∷ []) its.Start)
end_step ds t items w s = ap (λ ts. Some (table_at ds t (items ++ item.Zero w (sum_of ts) ∷ []) its.Start)) (terms-parts s)

-- ---- virtual columns

abbrev drafting : List Decl → List ℕ → List Item → List ℕ → FormWord → List Slot → Parts → State
drafting ds t items w word slots p = table_at ds t items (its.Drafting (Virtual w word) (draft_at slots p))

-- the end of a linear form
abbrev linear_end : List Slot
linear_end = Mark semicolon ∷ []

summand_read : (ds : List Decl) (t : List ℕ) (items : List Item) (w : List ℕ) (p : Parts) (s : TermTree)
    → Leads (drafting ds t items w Linear (Summand ∷ linear_end) p) (term_tokens s) (drafting ds t items w Linear (TermEnd ∷ linear_end) (read_term s p))
summand_read ds t items w p (plain_term c) = record { on = λ rest. refl }
summand_read ds t items w p (times_term k c) = record { on = λ rest. refl }

first_read : (ds : List Decl) (t : List ℕ) (items : List Item) (w : List ℕ) (p : Parts) (k : Option ℕ) (s : TermTree)
    → Leads (drafting ds t items w Linear (FirstSummand ∷ linear_end) p) (constant_tokens k ++ term_tokens s) (drafting ds t items w Linear (TermEnd ∷ linear_end) (read_term s (read_constant k p)))
first_read ds t items w p None (plain_term c) = record { on = λ rest. refl }
first_read ds t items w p None (times_term k c) = record { on = λ rest. refl }
first_read ds t items w p (Some n) (plain_term c) = record { on = λ rest. refl }
first_read ds t items w p (Some n) (times_term k c) = record { on = λ rest. refl }

terms_read : (ds : List Decl) (t : List ℕ) (items : List Item) (w : List ℕ) (p : Parts) (ts : List TermTree)
    → Leads (drafting ds t items w Linear (TermEnd ∷ linear_end) p) (more_term_tokens ts) (drafting ds t items w Linear (TermEnd ∷ linear_end) (read_terms ts p))
terms_read ds t items w p [] = nothing _
terms_read ds t items w p (s ∷ ts) = first _ (drafting ds t items w Linear (Summand ∷ linear_end) p) _ _ _ refl
    (joined _ _ _ (term_tokens s) (more_term_tokens ts) (summand_read ds t items w p s) (terms_read ds t items w (read_term s p) ts))

linear_last : (ds : List Decl) (t : List ℕ) (items : List Item) (w : List ℕ) (k : Option ℕ) (s : TermTree) (ts : List TermTree)
    → step (drafting ds t items w Linear linear_end (read_terms ts (read_term s (read_constant k no_parts)))) (mark semicolon) ≡ Some (table_at ds t (items ++ item.Virtual w (form_of (linear_form k s ts)) ∷ []) its.Start)
linear_last ds t items w k s ts = ap (λ o. option_map (λ b. state_at ds (stage.Table t b)) (option_map (λ i. body_at (items ++ i ∷ []) its.Start) (option_map (λ f. item.Virtual w f) o))) (linear_read k s ts)

form_read : (ds : List Decl) (t : List ℕ) (items : List Item) (w : List ℕ) (f : FormTree)
    → Leads (table_at ds t items its.Start) (item_tokens (virtual_item w f)) (table_at ds t (items ++ item.Virtual w (form_of f) ∷ []) its.Start)
form_read ds t items w (shl_form c b o) = record { on = λ rest. refl }
form_read ds t items w (shr_form c b o) = record { on = λ rest. refl }
form_read ds t items w (rol_form c b o) = record { on = λ rest. refl }
form_read ds t items w (project_form c k j) = record { on = λ rest. refl }
form_read ds t items w (pack_form c k) = record { on = λ rest. refl }
form_read ds t items w (linear_form k s ts) =
    first _ (table_at ds t items its.VirtualName) _ _ _ refl
    (first _ (table_at ds t items (its.VirtualEquals w)) _ _ _ refl
    (first _ (table_at ds t items (its.VirtualForm w)) _ _ _ refl
    (first _ (drafting ds t items w Linear linear_slots no_parts) _ _ _ refl
    (first _ (drafting ds t items w Linear (FirstSummand ∷ linear_end) no_parts) _ _ _ refl
    (subst (λ tokens. Leads (drafting ds t items w Linear (FirstSummand ∷ linear_end) no_parts) tokens (table_at ds t (items ++ item.Virtual w (form_of (linear_form k s ts)) ∷ []) its.Start)) (simp append_assoc refl)
    (joined _ _ _ (constant_tokens k ++ term_tokens s) (more_term_tokens ts ++ mark close_paren ∷ mark semicolon ∷ []) (first_read ds t items w no_parts k s)
    (joined _ _ _ (more_term_tokens ts) (mark close_paren ∷ mark semicolon ∷ []) (terms_read ds t items w (read_term s (read_constant k no_parts)) ts)
    (first _ (drafting ds t items w Linear linear_end (read_terms ts (read_term s (read_constant k no_parts)))) _ _ _ refl
    (one _ _ _ (linear_last ds t items w k s ts))))))))))

-- ---- flushes

abbrev flushing : List Decl → List ℕ → List Item → Side → List Slot → Parts → State
flushing ds t items side slots p = table_at ds t items (its.Drafting (Flush side) (draft_at slots p))

-- the end of a flush
abbrev flush_end : List Slot
flush_end = Selector ∷ []

columns_read : (ds : List Decl) (t : List ℕ) (items : List Item) (side : Side) (p : Parts) (ws : List (List ℕ))
    → Leads (flushing ds t items side (ColumnEnd ∷ flush_end) p) (more_name_tokens ws) (flushing ds t items side (ColumnEnd ∷ flush_end) (read_columns ws p))
columns_read ds t items side p [] = nothing _
columns_read ds t items side p (w ∷ ws) = first _ (flushing ds t items side (Column ∷ flush_end) p) _ _ _ refl
    (first _ (flushing ds t items side (ColumnEnd ∷ flush_end) (with_column p w)) _ _ _ refl (columns_read ds t items side (with_column p w) ws))

side_read : (ds : List Decl) (t : List ℕ) (items : List Item) (side : Side) → step (table_at ds t items its.Start) (reserved (side_word side)) ≡ Some (flushing ds t items side flush_slots no_parts)
side_read ds t items Push = refl
side_read ds t items Pull = refl

-- an item that was read last
abbrev with_last : List Decl → List ℕ → List Item → Option Item → Option State
with_last ds t items o = option_map (λ b. state_at ds (stage.Table t b)) (option_map (λ i. body_at (items ++ i ∷ []) its.Start) o)

selector_read : (ds : List Decl) (t : List ℕ) (items : List Item) (side : Side) (c w : List ℕ) (ws : List (List ℕ)) (s : Option (List ℕ))
    → Leads (flushing ds t items side flush_end (read_columns ws (with_column (with_name no_parts c) w))) (selector_tokens s ++ mark semicolon ∷ []) (table_at ds t (items ++ item_of (flush_item side c w ws s) ∷ []) its.Start)
selector_read ds t items side c w ws None = one _ _ _ (ap (with_last ds t items) (flush_read side c w ws None))
selector_read ds t items side c w ws (Some s) =
    let p : Parts = read_columns ws (with_column (with_name no_parts c) w) in
    first _ (flushing ds t items side (Name ∷ Mark semicolon ∷ []) p) _ _ _ refl
    (first _ (flushing ds t items side (Mark semicolon ∷ []) (with_name p s)) _ _ _ refl
    (one _ _ _ (ap (with_last ds t items) (flush_read side c w ws (Some s)))))

flush_item_read : (ds : List Decl) (t : List ℕ) (items : List Item) (side : Side) (c w : List ℕ) (ws : List (List ℕ)) (s : Option (List ℕ))
    → Leads (table_at ds t items its.Start) (item_tokens (flush_item side c w ws s)) (table_at ds t (items ++ item_of (flush_item side c w ws s) ∷ []) its.Start)
flush_item_read ds t items side c w ws s =
    let p : Parts = with_column (with_name no_parts c) w in
    subst (λ tokens. Leads (table_at ds t items its.Start) tokens (table_at ds t (items ++ item_of (flush_item side c w ws s) ∷ []) its.Start)) (flush_nested side c w ws s)
    (first _ (flushing ds t items side flush_slots no_parts) _ _ _ (side_read ds t items side)
    (first _ (flushing ds t items side (Mark open_paren ∷ Column ∷ flush_end) (with_name no_parts c)) _ _ _ refl
    (first _ (flushing ds t items side (Column ∷ flush_end) (with_name no_parts c)) _ _ _ refl
    (first _ (flushing ds t items side (ColumnEnd ∷ flush_end) p) _ _ _ refl
    (joined _ _ _ (more_name_tokens ws) (mark close_paren ∷ selector_tokens s ++ mark semicolon ∷ []) (columns_read ds t items side p ws)
    (first _ (flushing ds t items side flush_end (read_columns ws p)) _ _ _ refl
    (selector_read ds t items side c w ws s)))))))
  where
    flush_nested : (side : Side) (c w : List ℕ) (ws : List (List ℕ)) (s : Option (List ℕ))
        → reserved (side_word side) ∷ name c ∷ mark open_paren ∷ name w ∷ (more_name_tokens ws ++ (mark close_paren ∷ selector_tokens s ++ mark semicolon ∷ [])) ≡ item_tokens (flush_item side c w ws s)
    flush_nested side c w ws s = simp append_assoc refl

item_read : (ds : List Decl) (t : List ℕ) (items : List Item) (i : ItemTree) → Leads (table_at ds t items its.Start) (item_tokens i) (table_at ds t (items ++ item_of i ∷ []) its.Start)
item_read ds t items (column_item w (one_value level h)) =
    first _ (table_at ds t items its.ColumnName) _ _ _ refl
    (first _ (table_at ds t items (its.ColumnColon w)) _ _ _ refl
    (first _ (table_at ds t items (its.ColumnType w)) _ _ _ refl
    (first _ (table_at ds t items (its.ColumnEnd w level)) _ _ _ (type_step ds t items w level h)
    (one _ _ _ refl))))
item_read ds t items (column_item w (several_values level v h k)) =
    first _ (table_at ds t items its.ColumnName) _ _ _ refl
    (first _ (table_at ds t items (its.ColumnColon w)) _ _ _ refl
    (first _ (table_at ds t items (its.ColumnType w)) _ _ _ refl
    (first _ (table_at ds t items (its.ColumnEnd w level)) _ _ _ (type_step ds t items w level h)
    (first _ (table_at ds t items (its.ColumnValues w level)) _ _ _ refl
    (first _ (table_at ds t items (its.ColumnLast w level v)) _ _ _ (values_step ds t items w level v k)
    (one _ _ _ refl))))))
item_read ds t items (virtual_item w f) = form_read ds t items w f
item_read ds t items (flush_item side c w ws s) = flush_item_read ds t items side c w ws s
item_read ds t items (zero_item w s) =
    first _ (table_at ds t items its.ZeroName) _ _ _ refl
    (first _ (table_at ds t items (its.ZeroColon w)) _ _ _ refl
    (first _ (table_at ds t items (its.Operand w (formula [] [] []))) _ _ _ refl
    (joined _ _ _ (sum_tokens s) (mark semicolon ∷ []) (sum_read (record { decls = ds; table = t; items = items; zero = w }) [] s)
    (one _ _ _ (end_step ds t items w s)))))

items_read : (ds : List Decl) (t : List ℕ) (items : List Item) (is : List ItemTree) → Leads (table_at ds t items its.Start) (flat_map item_tokens is) (table_at ds t (items ++ map item_of is) its.Start)
items_read ds t items [] = subst (λ (js : List Item). Leads (table_at ds t items its.Start) [] (table_at ds t js its.Start)) (sym (append-nil items)) (nothing _)
items_read ds t items (i ∷ is) =
    subst (λ (js : List Item). Leads (table_at ds t items its.Start) (item_tokens i ++ flat_map item_tokens is) (table_at ds t js its.Start)) (append_assoc items (item_of i ∷ []) (map item_of is))
    (joined _ _ _ (item_tokens i) (flat_map item_tokens is) (item_read ds t items i) (items_read ds t (items ++ item_of i ∷ []) is))

-- ---- tables

abbrev declaring : List Decl → DeclForm → List Slot → Parts → State
declaring ds form slots p = state_at ds (stage.Drafting form (draft_at slots p))

-- the end of a boundary
abbrev boundary_end : List Slot
boundary_end = Mark semicolon ∷ []

values_read : (ds : List Decl) (side : Side) (p : Parts) (ns : List ℕ) → Leads (declaring ds (Boundary side) (ValueEnd ∷ boundary_end) p) (more_number_tokens ns) (declaring ds (Boundary side) (ValueEnd ∷ boundary_end) (read_numbers ns p))
values_read ds side p [] = nothing _
values_read ds side p (n ∷ ns) = first _ (declaring ds (Boundary side) (Value ∷ boundary_end) p) _ _ _ refl
    (first _ (declaring ds (Boundary side) (ValueEnd ∷ boundary_end) (with_number p n)) _ _ _ refl (values_read ds side (with_number p n) ns))

boundary_side_read : (ds : List Decl) (side : Side) → step (state_at ds stage.BoundarySide) (reserved (side_word side)) ≡ Some (declaring ds (Boundary side) boundary_slots no_parts)
boundary_side_read ds Push = refl
boundary_side_read ds Pull = refl

boundary_last : (ds : List Decl) (side : Side) (c : List ℕ) (n : ℕ) (ns : List ℕ)
    → step (declaring ds (Boundary side) boundary_end (read_numbers ns (with_number (with_name no_parts c) n))) (mark semicolon) ≡ Some (state_at (ds ++ decl_of (boundary_tree side c n ns) ∷ []) stage.File)
boundary_last ds side c n ns = ap (λ o. option_map (λ e. state_at (ds ++ e ∷ []) stage.File) o) (boundary_read side c n ns)

decl_read : (ds : List Decl) (d : DeclTree) → Leads (state_at ds stage.File) (decl_tokens d) (state_at (ds ++ decl_of d ∷ []) stage.File)
decl_read ds (channel_tree w n) = record { on = λ rest. refl }
decl_read ds (boundary_tree side c n ns) =
    let p : Parts = with_number (with_name no_parts c) n in
    first _ (state_at ds stage.BoundarySide) _ _ _ refl
    (first _ (declaring ds (Boundary side) boundary_slots no_parts) _ _ _ (boundary_side_read ds side)
    (first _ (declaring ds (Boundary side) (Mark open_paren ∷ Value ∷ boundary_end) (with_name no_parts c)) _ _ _ refl
    (first _ (declaring ds (Boundary side) (Value ∷ boundary_end) (with_name no_parts c)) _ _ _ refl
    (first _ (declaring ds (Boundary side) (ValueEnd ∷ boundary_end) p) _ _ _ refl
    (joined _ _ _ (more_number_tokens ns) (mark close_paren ∷ mark semicolon ∷ []) (values_read ds side p ns)
    (first _ (declaring ds (Boundary side) boundary_end (read_numbers ns p)) _ _ _ refl
    (one _ _ _ (boundary_last ds side c n ns))))))))
decl_read ds (table_tree w items) =
    first _ (state_at ds stage.TableName) _ _ _ refl
    (first _ (state_at ds (stage.TableBrace w)) _ _ _ refl
    (first _ (table_at ds w [] its.Start) _ _ _ refl
    (joined _ _ _ (flat_map item_tokens items) (mark close_brace ∷ []) (items_read ds w [] items)
    (one _ _ _ refl))))

file_read : (ds : List Decl) (f : FileTree) → Leads (state_at ds stage.File) (file_tokens f) (state_at (ds ++ map decl_of f) stage.File)
file_read ds [] = subst (λ (es : List Decl). Leads (state_at ds stage.File) [] (state_at es stage.File)) (sym (append-nil ds)) (nothing _)
file_read ds (t ∷ f) =
    subst (λ (es : List Decl). Leads (state_at ds stage.File) (decl_tokens t ++ file_tokens f) (state_at es stage.File)) (append_assoc ds (decl_of t ∷ []) (map decl_of f))
    (joined _ _ _ (decl_tokens t) (file_tokens f) (decl_read ds t) (file_read (ds ++ decl_of t ∷ []) f))

-- the machine reads each file, and has its declarations then
pub accepts : (f : FileTree) → run start (file_tokens f) ≡ Some (state_at (map decl_of f) stage.File)
accepts f = ap (run start) (sym (append-nil (file_tokens f))) ∙ (file_read [] f).on []

-- ---- prefixes

pub record Reaches (s : State) (tokens : List Token) : Type 0 where
  pub state : State
  pub is : run s tokens ≡ Some state

after_step : (o : Option State) (token : Token) (s : State) (xs ys : List Token) (t : State) → step s token ≡ o → ((u : State) → run u (xs ++ ys) ≡ Some t → Reaches u xs) → option_and_then (λ v. run v (xs ++ ys)) o ≡ Some t → Reaches s (token ∷ xs)
after_step None token s xs ys t is more e = absurd (none-some t e)
after_step (Some u) token s xs ys t is more e = let r = more u e in record { state = r.state; is = ap (option_and_then (λ v. run v xs)) is ∙ r.is }

-- what stands before what the machine reads is read
pub prefix_read : (s : State) (xs ys : List Token) (t : State) → run s (xs ++ ys) ≡ Some t → Reaches s xs
prefix_read s [] ys t e = record { state = s; is = refl }
prefix_read s (x ∷ xs) ys t e = after_step (step s x) x s xs ys t refl (λ u h. prefix_read u xs ys t h) e

through : (o : Option State) (s t : State) (x : Token) (xs ys : List Token) → step s x ≡ o → option_and_then (λ v. run v xs) o ≡ Some t → ((u : State) → run u xs ≡ Some t → run u (xs ++ ys) ≡ run t ys)
    → option_and_then (λ v. run v (xs ++ ys)) (step s x) ≡ run t ys
through None s t x xs ys is e more = absurd (none-some t e)
through (Some u) s t x xs ys is e more = ap (option_and_then (λ v. run v (xs ++ ys))) is ∙ more u e

pub run-append : (s t : State) (xs ys : List Token) → run s xs ≡ Some t → run s (xs ++ ys) ≡ run t ys
run-append s t [] ys e = ap (λ v. run v ys) (same_Some s t e)
run-append s t (x ∷ xs) ys e = through (step s x) s t x xs ys refl e (λ u h. run-append u t xs ys h)
