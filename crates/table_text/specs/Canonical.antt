-- The canonical text of declarations.
-- Source: docs/LANGUAGE.md, "The canonical text".
use Rattle.std.specs.Prelude.{ℕ, ◌^◌, ◌==◌, Bool, true, false, if◌then◌else◌, List, [], ◌∷◌, ◌++◌, map, codes, Option, Some, None}
use Rattle.std.specs.List.{flat_map}
use Rattle.std.specs.Fmt.{decimal}
use Rattle.table_text.specs.Grammar.{side_word, type_word}
use Rattle.table_text.specs.declared.expr.Expr.{Expr}
use Rattle.table_text.specs.declared.expr.Expr.TheOpen.{Expr-F}
use Rattle.table_text.specs.declared.expr.Expr.TheFolds.{fold-Expr}
use Rattle.table_text.specs.declared.decl.Term.{Term}
use Rattle.table_text.specs.declared.decl.VirtualForm.{VirtualForm}
use Rattle.table_text.specs.declared.decl.VirtualForm.TheVariants.{Shl, Shr, Rol, Pack, Project, Linear}
use Rattle.table_text.specs.declared.decl.Item.{Item}
use Rattle.table_text.specs.declared.decl.Item.TheVariants.{Column, Virtual, Zero, Flush}
use Rattle.table_text.specs.declared.decl.Decl.{Decl}
use Rattle.table_text.specs.declared.decl.Decl.TheVariants.{Channel, Boundary, Table}
use Rattle.table_text.specs.declared.print.Place.{Place}
use Rattle.table_text.specs.declared.print.Place.TheVariants.{Alone, InSum, InProduct}

-- texts with a separator between them
abbrev pub joined : List ℕ → List (List ℕ) → List ℕ
joined separator [] = []
joined separator (t ∷ ts) = t ++ flat_map (λ u. separator ++ u) ts

-- texts in parentheses, with commas
abbrev pub tuple : List (List ℕ) → List ℕ
tuple ts = codes "(" ++ joined (codes ", ") ts ++ codes ")"

-- ---- expressions

abbrev pub in_parens : Bool → List ℕ → List ℕ
in_parens b t = if b then codes "(" ++ t ++ codes ")" else t

-- a sum stands in parentheses inside a sum or a product, a product inside a product
abbrev pub sum_in_parens : Place → Bool
sum_in_parens Alone = false
sum_in_parens InSum = true
sum_in_parens InProduct = true

abbrev pub product_in_parens : Place → Bool
product_in_parens Alone = false
product_in_parens InSum = false
product_in_parens InProduct = true

abbrev pub expr_step : Expr-F (Place → List ℕ) → Place → List ℕ
expr_step (Expr-F.Number n) place = decimal n
expr_step (Expr-F.Column w) place = w
expr_step (Expr-F.Sum parts) place = in_parens (sum_in_parens place) (joined (codes " + ") (map (λ part. part InSum) parts))
expr_step (Expr-F.Product parts) place = in_parens (product_in_parens place) (joined (codes " * ") (map (λ part. part InProduct) parts))

-- an expression at a place
abbrev pub expr_text : Expr → Place → List ℕ
expr_text = fold-Expr (Place → List ℕ) expr_step

-- ---- forms of virtual columns

-- a coefficient 1 isn't printed
abbrev pub term_text : Term → List ℕ
term_text t = if t.coefficient == 1 then t.column else decimal t.coefficient ++ codes " * " ++ t.column

-- nor is a constant 0
abbrev pub constant_texts : ℕ → List (List ℕ)
constant_texts k = if k == 0 then [] else decimal k ∷ []

-- a column and two numbers
abbrev pub shift_text : List ℕ → List ℕ → ℕ → ℕ → List ℕ
shift_text word c m n = word ++ codes "(" ++ c ++ codes ", " ++ decimal m ++ codes ", " ++ decimal n ++ codes ")"

abbrev pub form_text : VirtualForm → List ℕ
form_text (Shl c b o) = shift_text (codes "shl") c b o
form_text (Shr c b o) = shift_text (codes "shr") c b o
form_text (Rol c b o) = shift_text (codes "rol") c b o
form_text (Project c k j) = shift_text (codes "project") c k j
form_text (Pack c k) = codes "pack(" ++ c ++ codes ", " ++ decimal k ++ codes ")"
form_text (Linear k ts) = codes "linear(" ++ joined (codes " + ") (constant_texts k ++ map term_text ts) ++ codes ")"

-- ---- declarations

-- one value per row isn't printed
abbrev pub values_text : ℕ → List ℕ
values_text log_values = if log_values == 0 then [] else codes " x " ++ decimal (2 ^ log_values)

abbrev pub selector_text : Option (List ℕ) → List ℕ
selector_text None = []
selector_text (Some s) = codes " if " ++ s

abbrev pub item_text : Item → List ℕ
item_text (Column w level v) = codes "column " ++ w ++ codes " : " ++ type_word level ++ values_text v
item_text (Virtual w f) = codes "virtual " ++ w ++ codes " = " ++ form_text f
item_text (Zero w e) = codes "zero " ++ w ++ codes " : " ++ expr_text e Alone
item_text (Flush side c ws s) = side_word side ++ codes " " ++ c ++ codes " " ++ tuple ws ++ selector_text s

-- a line of its own
abbrev pub item_line : Item → List ℕ
item_line i = codes "  " ++ item_text i ++ codes ";\n"

abbrev pub decl_text : Decl → List ℕ
decl_text (Channel w n) = codes "channel " ++ w ++ codes " : " ++ decimal n ++ codes ";\n"
decl_text (Boundary side c ns) = codes "boundary " ++ side_word side ++ codes " " ++ c ++ codes " " ++ tuple (map decimal ns) ++ codes ";\n"
decl_text (Table w items) = codes "table " ++ w ++ codes " {\n" ++ flat_map item_line items ++ codes "}\n"

abbrev pub canonical : List Decl → List ℕ
canonical decls = flat_map decl_text decls
