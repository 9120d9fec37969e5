-- Which lists of declarations are valid, and what such a list keeps.
-- Source: docs/LANGUAGE.md, "The canonical text" and "Faults".
use Rattle.std.specs.Prelude.{ℕ, ◌+◌, ◌≤◌, ◌^◌, Bool, true, false, not, ◌&&◌, nat_le, nat_lt, max, if◌then◌else◌, List, [], ◌∷◌, length, map, Option, Some, None}
use Rattle.std.specs.List.{list_all}
use Rattle.table_text.specs.Bytes.{is_letter, is_word_byte}
use Rattle.table_text.specs.Limits.{max_level, max_log_values, max_word, max_open, max_declarations}
use Rattle.table_text.specs.Lexing.{is_reserved}
use Rattle.table_text.specs.Canonical.{sum_in_parens, product_in_parens}
use Rattle.table_text.specs.declared.expr.Expr.{Expr}
use Rattle.table_text.specs.declared.expr.Expr.TheOpen.{Expr-F}
use Rattle.table_text.specs.declared.expr.Expr.TheFolds.{fold-Expr}
use Rattle.table_text.specs.declared.print.Place.{Place}
use Rattle.table_text.specs.declared.print.Place.TheVariants.{Alone, InSum, InProduct}
use Rattle.table_text.specs.declared.decl.Term.{Term}
use Rattle.table_text.specs.declared.decl.VirtualForm.{VirtualForm}
use Rattle.table_text.specs.declared.decl.VirtualForm.TheVariants.{Shl, Shr, Rol, Pack, Project, Linear}
use Rattle.table_text.specs.declared.decl.Item.{Item}
use Rattle.table_text.specs.declared.decl.Item.TheVariants.{Column, Virtual, Zero, Flush}
use Rattle.table_text.specs.declared.decl.Decl.{Decl}
use Rattle.table_text.specs.declared.decl.Decl.TheVariants.{Channel, Boundary, Table}

-- levels and the logarithms of numbers of values are within their limits
abbrev pub ItemLevelsFit : List Item → Type 0
ItemLevelsFit [] = Unit {0}
ItemLevelsFit (Column name level log_values ∷ items) = (level ≤ max_level) × (log_values ≤ max_log_values) × ItemLevelsFit items
ItemLevelsFit (Virtual name form ∷ items) = ItemLevelsFit items
ItemLevelsFit (Zero name expr ∷ items) = ItemLevelsFit items
ItemLevelsFit (Flush side channel columns selector ∷ items) = ItemLevelsFit items

abbrev pub LevelsFit : List Decl → Type 0
LevelsFit [] = Unit {0}
LevelsFit (Channel name width ∷ decls) = LevelsFit decls
LevelsFit (Boundary side channel values ∷ decls) = LevelsFit decls
LevelsFit (Table name items ∷ decls) = ItemLevelsFit items × LevelsFit decls

-- how many declarations there are: channels, boundaries, tables and items
abbrev pub declarations : List Decl → ℕ
declarations [] = 0
declarations (Channel name width ∷ decls) = 1 + declarations decls
declarations (Boundary side channel values ∷ decls) = 1 + declarations decls
declarations (Table name items ∷ decls) = 1 + length items + declarations decls

-- ---- valid declarations: those that a text can have

-- a word that isn't reserved
abbrev pub is_name : List ℕ → Bool
is_name [] = false
is_name (b ∷ bytes) = is_letter b && list_all is_word_byte bytes && nat_le (1 + length bytes) max_word && not (is_reserved (b ∷ bytes))

abbrev pub is_number : ℕ → Bool
is_number n = nat_lt n (2 ^ 128)

abbrev pub is_some_list : {X : Type 0} → List X → Bool
is_some_list [] = false
is_some_list (x ∷ xs) = true

-- a sum and a product have at least two parts
abbrev pub expr_step : Expr-F Bool → Bool
expr_step (Expr-F.Number n) = is_number n
expr_step (Expr-F.Column w) = is_name w
expr_step (Expr-F.Sum parts) = nat_le 2 (length parts) && list_all (λ b. b) parts
expr_step (Expr-F.Product parts) = nat_le 2 (length parts) && list_all (λ b. b) parts

abbrev pub is_valid_expr : Expr → Bool
is_valid_expr = fold-Expr Bool expr_step

abbrev pub greatest : List ℕ → ℕ
greatest [] = 0
greatest (n ∷ ns) = max n (greatest ns)

-- how many parentheses are open at once in the text of an expression
abbrev pub depth_step : Expr-F (Place → ℕ) → Place → ℕ
depth_step (Expr-F.Number n) place = 0
depth_step (Expr-F.Column w) place = 0
depth_step (Expr-F.Sum parts) place = (if sum_in_parens place then 1 else 0) + greatest (map (λ part. part InSum) parts)
depth_step (Expr-F.Product parts) place = (if product_in_parens place then 1 else 0) + greatest (map (λ part. part InProduct) parts)

abbrev pub depth : Expr → Place → ℕ
depth = fold-Expr (Place → ℕ) depth_step

abbrev pub is_valid_term : Term → Bool
is_valid_term t = is_number t.coefficient && is_name t.column

abbrev pub is_valid_form : VirtualForm → Bool
is_valid_form (Shl c b o) = is_name c && is_number b && is_number o
is_valid_form (Shr c b o) = is_name c && is_number b && is_number o
is_valid_form (Rol c b o) = is_name c && is_number b && is_number o
is_valid_form (Pack c k) = is_name c && is_number k
is_valid_form (Project c k j) = is_name c && is_number k && is_number j
is_valid_form (Linear k ts) = is_number k && is_some_list ts && list_all is_valid_term ts

abbrev pub is_selector : Option (List ℕ) → Bool
is_selector None = true
is_selector (Some s) = is_name s

abbrev pub is_valid_item : Item → Bool
is_valid_item (Column w level v) = is_name w && nat_le level max_level && nat_le v max_log_values
is_valid_item (Virtual w f) = is_name w && is_valid_form f
is_valid_item (Zero w e) = is_name w && is_valid_expr e && nat_le (depth e Alone) max_open
is_valid_item (Flush side c ws s) = is_name c && is_some_list ws && list_all is_name ws && is_selector s

abbrev pub is_valid_decl : Decl → Bool
is_valid_decl (Channel w n) = is_name w && is_number n
is_valid_decl (Boundary side c ns) = is_name c && is_some_list ns && list_all is_number ns
is_valid_decl (Table w items) = is_name w && list_all is_valid_item items

abbrev pub is_valid : List Decl → Bool
is_valid decls = list_all is_valid_decl decls && nat_le (declarations decls) max_declarations
