-- The grammar: its trees, the tokens that each spells, and the declarations that it means.
-- Source: docs/LANGUAGE.md, "Grammar".
use Rattle.std.specs.Prelude.{◌≡◌, ℕ, ◌≤◌, ◌^◌, List, [], ◌∷◌, ◌++◌, map, slice_index_or, codes, Option, Some, None}
use Rattle.std.specs.List.{flat_map}
use Rattle.table_text.specs.Bytes.{open_paren, close_paren, times_sign, plus_sign, equals_sign, colon, semicolon, comma, open_brace, close_brace}
use Rattle.table_text.specs.Limits.{max_level, max_log_values}
use Rattle.table_text.specs.Lexing.{Token, name, reserved, number, mark}
use Rattle.table_text.specs.declared.expr.Expr.{Expr}
use Rattle.table_text.specs.declared.expr.Expr.TheVariants as expr
use Rattle.table_text.specs.declared.decl.Term.{Term}
use Rattle.table_text.specs.declared.decl.VirtualForm.{VirtualForm}
use Rattle.table_text.specs.declared.decl.VirtualForm.TheVariants as form
use Rattle.table_text.specs.declared.decl.Side.{Side}
use Rattle.table_text.specs.declared.decl.Side.TheVariants.{Push, Pull}
use Rattle.table_text.specs.declared.decl.Item.{Item}
use Rattle.table_text.specs.declared.decl.Item.TheVariants as item
use Rattle.table_text.specs.declared.decl.Decl.{Decl}
use Rattle.table_text.specs.declared.decl.Decl.TheVariants as decl

-- sum = product { "+" product }, product = atom { "*" atom }, atom = number | name | "(" sum ")"
mutual
  pub data Sum : Type 0 where
    first_term : Product → Sum
    plus : Sum → Product → Sum

  pub data Product : Type 0 where
    first_factor : Atom → Product
    times : Product → Atom → Product

  pub data Atom : Type 0 where
    constant : ℕ → Atom
    column : List ℕ → Atom
    parens : Sum → Atom

-- type = ( "b1" | .. | "b128" ) [ "x" number ], the number 1, 2, 4, .. or 128
pub data TypeTree : Type 0 where
  one_value : (level : ℕ) → level ≤ max_level → TypeTree
  several_values : (level log_values : ℕ) → level ≤ max_level → log_values ≤ max_log_values → TypeTree

-- lterm = [ number "*" ] name
pub data TermTree : Type 0 where
  plain_term : List ℕ → TermTree
  times_term : ℕ → List ℕ → TermTree

-- form = ( "shl" | "shr" | "rol" | "project" ) "(" name "," number "," number ")" | "pack" "(" name "," number ")" | "linear" "(" [ number "+" ] lterm { "+" lterm } ")"
pub data FormTree : Type 0 where
  shl_form shr_form rol_form project_form : List ℕ → ℕ → ℕ → FormTree
  pack_form : List ℕ → ℕ → FormTree
  linear_form : Option ℕ → TermTree → List TermTree → FormTree

-- item = "column" name ":" type ";" | "virtual" name "=" form ";" | "zero" name ":" sum ";" | side name "(" name { "," name } ")" [ "if" name ] ";"
pub data ItemTree : Type 0 where
  column_item : List ℕ → TypeTree → ItemTree
  virtual_item : List ℕ → FormTree → ItemTree
  zero_item : List ℕ → Sum → ItemTree
  flush_item : Side → (channel column : List ℕ) → (more : List (List ℕ)) → (selector : Option (List ℕ)) → ItemTree

-- channel = "channel" name ":" number ";"
-- boundary = "boundary" side name "(" number { "," number } ")" ";"
-- table = "table" name "{" { item } "}"
pub data DeclTree : Type 0 where
  channel_tree : List ℕ → ℕ → DeclTree
  boundary_tree : Side → (channel : List ℕ) → (value : ℕ) → (more : List ℕ) → DeclTree
  table_tree : List ℕ → List ItemTree → DeclTree

-- file = { channel | boundary | table }
abbrev pub FileTree : Type 0
FileTree = List DeclTree

-- ---- what a tree spells

abbrev mutual
  pub sum_tokens : Sum → List Token
  sum_tokens (first_term p) = product_tokens p
  sum_tokens (plus s p) = sum_tokens s ++ mark plus_sign ∷ product_tokens p

  pub product_tokens : Product → List Token
  product_tokens (first_factor a) = atom_tokens a
  product_tokens (times p a) = product_tokens p ++ mark times_sign ∷ atom_tokens a

  pub atom_tokens : Atom → List Token
  atom_tokens (constant n) = number n ∷ []
  atom_tokens (column w) = name w ∷ []
  atom_tokens (parens s) = mark open_paren ∷ sum_tokens s ++ mark close_paren ∷ []

-- the types' words, by level
abbrev pub type_words : List (List ℕ)
type_words = codes "b1" ∷ codes "b2" ∷ codes "b4" ∷ codes "b8" ∷ codes "b16" ∷ codes "b32" ∷ codes "b64" ∷ codes "b128" ∷ []

abbrev pub type_word : ℕ → List ℕ
type_word level = slice_index_or type_words level []

abbrev pub type_tokens : TypeTree → List Token
type_tokens (one_value level _) = name (type_word level) ∷ []
type_tokens (several_values level log_values _ _) = name (type_word level) ∷ reserved (codes "x") ∷ number (2 ^ log_values) ∷ []

abbrev pub term_tokens : TermTree → List Token
term_tokens (plain_term c) = name c ∷ []
term_tokens (times_term k c) = number k ∷ mark times_sign ∷ name c ∷ []

-- the terms behind the first
abbrev pub more_term_tokens : List TermTree → List Token
more_term_tokens [] = []
more_term_tokens (t ∷ ts) = mark plus_sign ∷ (term_tokens t ++ more_term_tokens ts)

abbrev pub constant_tokens : Option ℕ → List Token
constant_tokens None = []
constant_tokens (Some n) = number n ∷ mark plus_sign ∷ []

-- "(" name "," number "," number ")"
abbrev pub shift_tokens : List ℕ → ℕ → ℕ → List Token
shift_tokens c m n = mark open_paren ∷ name c ∷ mark comma ∷ number m ∷ mark comma ∷ number n ∷ mark close_paren ∷ []

abbrev pub form_tokens : FormTree → List Token
form_tokens (shl_form c b o) = reserved (codes "shl") ∷ shift_tokens c b o
form_tokens (shr_form c b o) = reserved (codes "shr") ∷ shift_tokens c b o
form_tokens (rol_form c b o) = reserved (codes "rol") ∷ shift_tokens c b o
form_tokens (project_form c k j) = reserved (codes "project") ∷ shift_tokens c k j
form_tokens (pack_form c k) = reserved (codes "pack") ∷ mark open_paren ∷ name c ∷ mark comma ∷ number k ∷ mark close_paren ∷ []
form_tokens (linear_form k t ts) = reserved (codes "linear") ∷ mark open_paren ∷ (constant_tokens k ++ (term_tokens t ++ more_term_tokens ts)) ++ mark close_paren ∷ []

-- side = "push" | "pull"
abbrev pub side_word : Side → List ℕ
side_word Push = codes "push"
side_word Pull = codes "pull"

-- the members of a tuple behind the first
abbrev pub more_name_tokens : List (List ℕ) → List Token
more_name_tokens [] = []
more_name_tokens (w ∷ ws) = mark comma ∷ name w ∷ more_name_tokens ws

abbrev pub more_number_tokens : List ℕ → List Token
more_number_tokens [] = []
more_number_tokens (n ∷ ns) = mark comma ∷ number n ∷ more_number_tokens ns

abbrev pub selector_tokens : Option (List ℕ) → List Token
selector_tokens None = []
selector_tokens (Some s) = reserved (codes "if") ∷ name s ∷ []

abbrev pub item_tokens : ItemTree → List Token
item_tokens (column_item w t) = reserved (codes "column") ∷ name w ∷ mark colon ∷ type_tokens t ++ mark semicolon ∷ []
item_tokens (virtual_item w f) = reserved (codes "virtual") ∷ name w ∷ mark equals_sign ∷ form_tokens f ++ mark semicolon ∷ []
item_tokens (zero_item w s) = reserved (codes "zero") ∷ name w ∷ mark colon ∷ sum_tokens s ++ mark semicolon ∷ []
item_tokens (flush_item side c w ws s) = reserved (side_word side) ∷ name c ∷ mark open_paren ∷ name w ∷ more_name_tokens ws ++ mark close_paren ∷ selector_tokens s ++ mark semicolon ∷ []

abbrev pub decl_tokens : DeclTree → List Token
decl_tokens (channel_tree w n) = reserved (codes "channel") ∷ name w ∷ mark colon ∷ number n ∷ mark semicolon ∷ []
decl_tokens (boundary_tree side c n ns) = reserved (codes "boundary") ∷ reserved (side_word side) ∷ name c ∷ mark open_paren ∷ number n ∷ more_number_tokens ns ++ mark close_paren ∷ mark semicolon ∷ []
decl_tokens (table_tree w items) = reserved (codes "table") ∷ name w ∷ mark open_brace ∷ flat_map item_tokens items ++ mark close_brace ∷ []

abbrev pub file_tokens : FileTree → List Token
file_tokens f = flat_map decl_tokens f

-- ---- what a tree means: a sum or a product of one part is that part; a constant that isn't written is 0, a coefficient 1

abbrev pub sum_of : List Expr → Expr
sum_of [] = expr.Sum []
sum_of (e ∷ []) = e
sum_of (e ∷ f ∷ es) = expr.Sum (e ∷ f ∷ es)

abbrev pub product_of : List Expr → Expr
product_of [] = expr.Product []
product_of (e ∷ []) = e
product_of (e ∷ f ∷ es) = expr.Product (e ∷ f ∷ es)

abbrev mutual
  pub terms : Sum → List Expr
  terms (first_term p) = product_of (factors p) ∷ []
  terms (plus s p) = terms s ++ product_of (factors p) ∷ []

  pub factors : Product → List Expr
  factors (first_factor a) = atom_expr a ∷ []
  factors (times p a) = factors p ++ atom_expr a ∷ []

  pub atom_expr : Atom → Expr
  atom_expr (constant n) = expr.Number n
  atom_expr (column w) = expr.Column w
  atom_expr (parens s) = sum_of (terms s)

abbrev pub term_of : TermTree → Term
term_of (plain_term c) = record { coefficient = 1; column = c }
term_of (times_term k c) = record { coefficient = k; column = c }

abbrev pub constant_of : Option ℕ → ℕ
constant_of None = 0
constant_of (Some n) = n

abbrev pub form_of : FormTree → VirtualForm
form_of (shl_form c b o) = form.Shl c b o
form_of (shr_form c b o) = form.Shr c b o
form_of (rol_form c b o) = form.Rol c b o
form_of (project_form c k j) = form.Project c k j
form_of (pack_form c k) = form.Pack c k
form_of (linear_form k t ts) = form.Linear (constant_of k) (map term_of (t ∷ ts))

abbrev pub item_of : ItemTree → Item
item_of (column_item w (one_value level _)) = item.Column w level 0
item_of (column_item w (several_values level log_values _ _)) = item.Column w level log_values
item_of (virtual_item w f) = item.Virtual w (form_of f)
item_of (zero_item w s) = item.Zero w (sum_of (terms s))
item_of (flush_item side c w ws s) = item.Flush side c (w ∷ ws) s

abbrev pub decl_of : DeclTree → Decl
decl_of (channel_tree w n) = decl.Channel w n
decl_of (boundary_tree side c n ns) = decl.Boundary side c (n ∷ ns)
decl_of (table_tree w items) = decl.Table w (map item_of items)

-- tokens that a file spells, and its declarations
abbrev pub IsFile : List Token → List Decl → Type 0
IsFile tokens decls = (f : FileTree) × (file_tokens f ≡ tokens) × (map decl_of f ≡ decls)

-- tokens with which a file begins
abbrev pub Begins : List Token → Type 0
Begins tokens = (f : FileTree) × (more : List Token) × (file_tokens f ≡ tokens ++ more)
