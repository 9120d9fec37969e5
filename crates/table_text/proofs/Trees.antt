-- What the machine has read, as trees of the grammar, some of them unfinished.
use Rattle.std.proofs.Common.{◌≡◌, ℕ, ◌≤◌, ◌^◌, List, [], ◌∷◌, ◌++◌, Option, Some, None, refl, sym, append_assoc}
use Rattle.std.specs.Prelude.{map, codes}
use Rattle.std.specs.List.{flat_map}
use Rattle.table_text.specs.Bytes.{open_paren, times_sign, plus_sign, equals_sign, colon, open_brace}
use Rattle.table_text.specs.Lexing.{Token, name, reserved, number, mark}
use Rattle.table_text.specs.Grammar.{Sum, first_term, plus, Product, first_factor, times, Atom, ItemTree, FileTree, sum_tokens, product_tokens, atom_tokens, type_word, item_tokens, file_tokens, terms, factors, atom_expr, product_of, item_of, decl_of}
use Rattle.table_text.specs.Drafts.{no_parts, draft_at}
use Rattle.table_text.specs.Forms.{item_slots, decl_slots}
use Rattle.table_text.specs.Machine.{body_at, state_at}
use Rattle.table_text.specs.declared.expr.Expr.{Expr}
use Rattle.table_text.specs.declared.formula.Frame.{Frame}
use Rattle.table_text.specs.declared.body.ItemStage.{ItemStage}
use Rattle.table_text.specs.declared.body.ItemStage.TheVariants as its
use Rattle.table_text.specs.declared.state.Stage.{Stage}
use Rattle.table_text.specs.declared.state.Stage.TheVariants as stage
use Rattle.table_text.specs.declared.state.State.{State}
use Rattle.table_text.specs.declared.draft.Draft.{Draft}
use Rattle.table_text.specs.declared.forms.ItemForm.{ItemForm}
use Rattle.table_text.specs.declared.forms.DeclForm.{DeclForm}
use Rattle.table_text.proofs.Fillings.{drafted}
use Rattle.table_text.proofs.FormTrees.{item_head, decl_head}

-- a sum before a `+`, if there is one, and a product before a `*`
abbrev pub plus_tokens : Option Sum → List Token
plus_tokens None = []
plus_tokens (Some s) = sum_tokens s ++ mark plus_sign ∷ []

abbrev pub times_tokens : Option Product → List Token
times_tokens None = []
times_tokens (Some p) = product_tokens p ++ mark times_sign ∷ []

abbrev pub plus_terms : Option Sum → List Expr
plus_terms None = []
plus_terms (Some s) = terms s

abbrev pub times_factors : Option Product → List Expr
times_factors None = []
times_factors (Some p) = factors p

abbrev pub with_product : Option Sum → Product → Sum
with_product None p = first_term p
with_product (Some s) p = plus s p

abbrev pub with_atom : Option Product → Atom → Product
with_atom None a = first_factor a
with_atom (Some p) a = times p a

pub record FrameTree : Type 0 where
  pub sum : Option Sum
  pub product : Option Product

-- the sums around open parentheses, the innermost first
abbrev pub outer_tokens : List FrameTree → List Token
outer_tokens [] = []
outer_tokens (f ∷ fs) = ((outer_tokens fs ++ plus_tokens f.sum) ++ times_tokens f.product) ++ mark open_paren ∷ []

abbrev pub frame_of : FrameTree → Frame
frame_of f = record { terms = plus_terms f.sum; factors = times_factors f.product }

abbrev pub outer_frames : List FrameTree → List Frame
outer_frames [] = []
outer_frames (f ∷ fs) = outer_frames fs ++ frame_of f ∷ []

pub data Part : Type 0 where
  start : Part
  column_name : Part
  column_colon : List ℕ → Part
  column_type : List ℕ → Part
  column_end : List ℕ → (level : ℕ) → level ≤ 7 → Part
  column_values : List ℕ → (level : ℕ) → level ≤ 7 → Part
  column_last : List ℕ → (level v : ℕ) → level ≤ 7 → v ≤ 7 → Part
  virtual_name : Part
  virtual_equals : List ℕ → Part
  virtual_form : List ℕ → Part
  drafting : (form : ItemForm) (tokens : List Token) (d : Draft) → drafted (draft_at (item_slots form) no_parts) tokens ≡ Some d → Part
  zero_name : Part
  zero_colon : List ℕ → Part
  operand : List ℕ → List FrameTree → Option Sum → Option Product → Part
  operator : List ℕ → List FrameTree → Option Sum → Product → Part

abbrev pub stage_of : Part → ItemStage
stage_of start = its.Start
stage_of column_name = its.ColumnName
stage_of (column_colon w) = its.ColumnColon w
stage_of (column_type w) = its.ColumnType w
stage_of (column_end w level _) = its.ColumnEnd w level
stage_of (column_values w level _) = its.ColumnValues w level
stage_of (column_last w level v _ _) = its.ColumnLast w level v
stage_of virtual_name = its.VirtualName
stage_of (virtual_equals w) = its.VirtualEquals w
stage_of (virtual_form w) = its.VirtualForm w
stage_of (drafting form tokens d _) = its.Drafting form d
stage_of zero_name = its.ZeroName
stage_of (zero_colon w) = its.ZeroColon w
stage_of (operand w o s p) = its.Operand w (record { outer = outer_frames o; terms = plus_terms s; factors = times_factors p })
stage_of (operator w o s p) = its.Operator w (record { outer = outer_frames o; terms = plus_terms s; factors = factors p })

abbrev pub part_tokens : Part → List Token
part_tokens start = []
part_tokens column_name = reserved (codes "column") ∷ []
part_tokens (column_colon w) = reserved (codes "column") ∷ name w ∷ []
part_tokens (column_type w) = reserved (codes "column") ∷ name w ∷ mark colon ∷ []
part_tokens (column_end w level _) = reserved (codes "column") ∷ name w ∷ mark colon ∷ name (type_word level) ∷ []
part_tokens (column_values w level _) = reserved (codes "column") ∷ name w ∷ mark colon ∷ name (type_word level) ∷ reserved (codes "x") ∷ []
part_tokens (column_last w level v _ _) = reserved (codes "column") ∷ name w ∷ mark colon ∷ name (type_word level) ∷ reserved (codes "x") ∷ number (2 ^ v) ∷ []
part_tokens virtual_name = reserved (codes "virtual") ∷ []
part_tokens (virtual_equals w) = reserved (codes "virtual") ∷ name w ∷ []
part_tokens (virtual_form w) = reserved (codes "virtual") ∷ name w ∷ mark equals_sign ∷ []
part_tokens (drafting form tokens d _) = item_head form ++ tokens
part_tokens zero_name = reserved (codes "zero") ∷ []
part_tokens (zero_colon w) = reserved (codes "zero") ∷ name w ∷ []
part_tokens (operand w o s p) = reserved (codes "zero") ∷ name w ∷ mark colon ∷ ((outer_tokens o ++ plus_tokens s) ++ times_tokens p)
part_tokens (operator w o s p) = reserved (codes "zero") ∷ name w ∷ mark colon ∷ ((outer_tokens o ++ plus_tokens s) ++ product_tokens p)

-- items and a part of one
abbrev pub items_tokens : List ItemTree → Part → List Token
items_tokens items part = flat_map item_tokens items ++ part_tokens part

pub data TablePart : Type 0 where
  file : TablePart
  boundary_side : TablePart
  declaring : (form : DeclForm) (tokens : List Token) (d : Draft) → drafted (draft_at (decl_slots form) no_parts) tokens ≡ Some d → TablePart
  table_name : TablePart
  table_brace : List ℕ → TablePart
  table : List ℕ → List ItemTree → Part → TablePart

abbrev pub table_stage : TablePart → Stage
table_stage file = stage.File
table_stage boundary_side = stage.BoundarySide
table_stage (declaring form tokens d _) = stage.Drafting form d
table_stage table_name = stage.TableName
table_stage (table_brace w) = stage.TableBrace w
table_stage (table w items part) = stage.Table w (body_at (map item_of items) (stage_of part))

abbrev pub table_part_tokens : TablePart → List Token
table_part_tokens file = []
table_part_tokens boundary_side = reserved (codes "boundary") ∷ []
table_part_tokens (declaring form tokens d _) = decl_head form ++ tokens
table_part_tokens table_name = reserved (codes "table") ∷ []
table_part_tokens (table_brace w) = reserved (codes "table") ∷ name w ∷ []
table_part_tokens (table w items part) = reserved (codes "table") ∷ name w ∷ mark open_brace ∷ items_tokens items part

abbrev pub spelled : FileTree → TablePart → List Token
spelled tables part = file_tokens tables ++ table_part_tokens part

abbrev pub state_of : FileTree → TablePart → State
state_of tables part = state_at (map decl_of tables) (table_stage part)

-- ---- sums and products that grow

pub product_tokens-with_atom : (p : Option Product) (a : Atom) → product_tokens (with_atom p a) ≡ times_tokens p ++ atom_tokens a
product_tokens-with_atom None a = refl
product_tokens-with_atom (Some p) a = sym (append_assoc (product_tokens p) (mark times_sign ∷ []) (atom_tokens a))

pub sum_tokens-with_product : (s : Option Sum) (p : Product) → sum_tokens (with_product s p) ≡ plus_tokens s ++ product_tokens p
sum_tokens-with_product None p = refl
sum_tokens-with_product (Some s) p = sym (append_assoc (sum_tokens s) (mark plus_sign ∷ []) (product_tokens p))

pub factors-with_atom : (p : Option Product) (a : Atom) → factors (with_atom p a) ≡ times_factors p ++ atom_expr a ∷ []
factors-with_atom None a = refl
factors-with_atom (Some p) a = refl

pub terms-with_product : (s : Option Sum) (p : Product) → terms (with_product s p) ≡ plus_terms s ++ product_of (factors p) ∷ []
terms-with_product None p = refl
terms-with_product (Some s) p = refl
