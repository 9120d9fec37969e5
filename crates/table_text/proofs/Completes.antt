-- Whatever the machine has read can go on to the end of a file.
use Rattle.std.proofs.Common.{◌≡◌, ℕ, List, [], ◌∷◌, ◌++◌, Option, refl, sym, ◌∙◌, ap, append_assoc, lit≤}
use Rattle.std.proofs.lemmas.List.{append-nil}
use Rattle.std.proofs.lemmas.Grind.{flat_map-append}
use Rattle.std.specs.Prelude.{codes}
use Rattle.std.specs.List.{flat_map}
use Rattle.table_text.specs.Bytes.{open_paren, close_paren, equals_sign, colon, semicolon, open_brace, close_brace}
use Rattle.table_text.specs.Lexing.{Token, name, reserved, number, mark}
use Rattle.table_text.specs.Grammar.{Sum, first_term, Product, first_factor, constant, parens, ItemTree, one_value, several_values, column_item, virtual_item, pack_form, zero_item, boundary_tree, table_tree, FileTree, sum_tokens, product_tokens, type_word, form_tokens, item_tokens, decl_tokens, file_tokens, Begins}
use Rattle.table_text.specs.declared.decl.Side.TheVariants.{Push}
use Rattle.table_text.specs.Drafts.{no_parts, draft_at}
use Rattle.table_text.specs.Forms.{item_slots, decl_slots}
use Rattle.table_text.proofs.Fillings.{can_go_on, unread}
use Rattle.table_text.proofs.FormTrees.{item_head, item_filled, decl_head, decl_filled}
use Rattle.table_text.proofs.Trees.{plus_tokens, times_tokens, with_product, with_atom, FrameTree, outer_tokens, Part, start, column_name, column_colon, column_type, column_end, column_values, column_last, virtual_name, virtual_equals, virtual_form, drafting, zero_name, zero_colon, operand, operator, part_tokens, TablePart, file, boundary_side, declaring, table_name, table_brace, table, table_part_tokens, spelled, product_tokens-with_atom, sum_tokens-with_product}

-- a sum that begins with these tokens
pub record SumFrom (tokens : List Token) : Type 0 where
  pub tree : Sum
  pub more : List Token
  pub is : sum_tokens tree ≡ tokens ++ more

pub close : (o : List FrameTree) (s : Option Sum) (p : Product) → SumFrom ((outer_tokens o ++ plus_tokens s) ++ product_tokens p)
close [] s p = record { tree = with_product s p; more = []; is = sum_tokens-with_product s p ∙ sym (append-nil _) }
close (f ∷ fs) s p =
    let r = close fs f.sum (with_atom f.product (parens (with_product s p))) in
    record { tree = r.tree; more = mark close_paren ∷ r.more; is = r.is ∙ simp (product_tokens-with_atom, sum_tokens-with_product, append_assoc) refl }

pub close_operand : (o : List FrameTree) (s : Option Sum) (p : Option Product) → SumFrom ((outer_tokens o ++ plus_tokens s) ++ times_tokens p)
close_operand o s p =
    let r = close o s (with_atom p (constant 0)) in
    record { tree = r.tree; more = number 0 ∷ r.more; is = r.is ∙ simp (product_tokens-with_atom, append_assoc) refl }

-- items that begin with these tokens
pub record ItemsFrom (tokens : List Token) : Type 0 where
  pub items : List ItemTree
  pub more : List Token
  pub is : flat_map item_tokens items ≡ tokens ++ more

one_item : (i : ItemTree) (tokens more : List Token) → item_tokens i ≡ tokens ++ more → ItemsFrom tokens
one_item i tokens more h = record { items = i ∷ []; more = more; is = append-nil _ ∙ h }

zero_from : (w : List ℕ) (tokens : List Token) → SumFrom tokens → ItemsFrom (reserved (codes "zero") ∷ name w ∷ mark colon ∷ tokens)
zero_from w tokens r = one_item (zero_item w r.tree) _ (r.more ++ mark semicolon ∷ [])
    (ap (λ ts. reserved (codes "zero") ∷ name w ∷ mark colon ∷ ts) (ap (λ ts. ts ++ mark semicolon ∷ []) r.is ∙ append_assoc tokens r.more (mark semicolon ∷ [])))

pub complete_part : (part : Part) → ItemsFrom (part_tokens part)
complete_part start = record { items = []; more = []; is = refl }
complete_part column_name = one_item (column_item [] (one_value 0 (lit≤ tt))) _ (name [] ∷ mark colon ∷ name (type_word 0) ∷ mark semicolon ∷ []) refl
complete_part (column_colon w) = one_item (column_item w (one_value 0 (lit≤ tt))) _ (mark colon ∷ name (type_word 0) ∷ mark semicolon ∷ []) refl
complete_part (column_type w) = one_item (column_item w (one_value 0 (lit≤ tt))) _ (name (type_word 0) ∷ mark semicolon ∷ []) refl
complete_part (column_end w level h) = one_item (column_item w (one_value level h)) _ (mark semicolon ∷ []) refl
complete_part (column_values w level h) = one_item (column_item w (several_values level 0 h (lit≤ tt))) _ (number 1 ∷ mark semicolon ∷ []) refl
complete_part (column_last w level v h k) = one_item (column_item w (several_values level v h k)) _ (mark semicolon ∷ []) refl
complete_part virtual_name = one_item (virtual_item [] (pack_form [] 0)) _ (name [] ∷ mark equals_sign ∷ form_tokens (pack_form [] 0) ++ mark semicolon ∷ []) refl
complete_part (virtual_equals w) = one_item (virtual_item w (pack_form [] 0)) _ (mark equals_sign ∷ form_tokens (pack_form [] 0) ++ mark semicolon ∷ []) refl
complete_part (virtual_form w) = one_item (virtual_item w (pack_form [] 0)) _ (form_tokens (pack_form [] 0) ++ mark semicolon ∷ []) refl
complete_part (drafting form tokens d h) =
    let on = can_go_on d in
    let i = item_filled form (tokens ++ on.tokens) on.parts (unread tokens (draft_at (item_slots form) no_parts) d on.tokens on.parts h on.fills) in
    one_item i.tree (item_head form ++ tokens) on.tokens (i.spells ∙ sym (append_assoc (item_head form) tokens on.tokens))
complete_part zero_name = one_item (zero_item [] (first_term (first_factor (constant 0)))) _ (name [] ∷ mark colon ∷ number 0 ∷ mark semicolon ∷ []) refl
complete_part (zero_colon w) = one_item (zero_item w (first_term (first_factor (constant 0)))) _ (mark colon ∷ number 0 ∷ mark semicolon ∷ []) refl
complete_part (operand w o s p) = zero_from w _ (close_operand o s p)
complete_part (operator w o s p) = zero_from w _ (close o s p)

-- a table that begins with these tokens, or none
pub record TablesFrom (tokens : List Token) : Type 0 where
  pub tables : FileTree
  pub more : List Token
  pub is : file_tokens tables ≡ tokens ++ more

table_from : (w : List ℕ) (items : List ItemTree) (tokens : List Token) → ItemsFrom tokens → TablesFrom (reserved (codes "table") ∷ name w ∷ mark open_brace ∷ (flat_map item_tokens items ++ tokens))
table_from w items tokens r = record {
  tables = table_tree w (items ++ r.items) ∷ [];
  more = r.more ++ mark close_brace ∷ [];
  is = append-nil _ ∙ ap (λ ts. reserved (codes "table") ∷ name w ∷ mark open_brace ∷ ts)
      (ap (λ ts. ts ++ mark close_brace ∷ []) (flat_map-append item_tokens items r.items ∙ ap (λ ts. flat_map item_tokens items ++ ts) r.is) ∙ simp append_assoc refl);
}

complete_table : (part : TablePart) → TablesFrom (table_part_tokens part)
complete_table file = record { tables = []; more = []; is = refl }
complete_table boundary_side = record {
  tables = boundary_tree Push [] 0 [] ∷ [];
  more = reserved (codes "push") ∷ name [] ∷ mark open_paren ∷ number 0 ∷ mark close_paren ∷ mark semicolon ∷ [];
  is = refl;
}
complete_table (declaring form tokens d h) =
    let on = can_go_on d in
    let e = decl_filled form (tokens ++ on.tokens) on.parts (unread tokens (draft_at (decl_slots form) no_parts) d on.tokens on.parts h on.fills) in
    record { tables = e.tree ∷ []; more = on.tokens; is = append-nil _ ∙ e.spells ∙ sym (append_assoc (decl_head form) tokens on.tokens) }
complete_table table_name = record { tables = table_tree [] [] ∷ []; more = name [] ∷ mark open_brace ∷ mark close_brace ∷ []; is = refl }
complete_table (table_brace w) = record { tables = table_tree w [] ∷ []; more = mark open_brace ∷ mark close_brace ∷ []; is = refl }
complete_table (table w items part) = table_from w items (part_tokens part) (complete_part part)

-- what is spelled begins a file
pub complete : (tables : FileTree) (part : TablePart) → Begins (spelled tables part)
complete tables part =
    let r = complete_table part in
    (tables ++ r.tables, r.more, flat_map-append decl_tokens tables r.tables ∙ ap (λ ts. file_tokens tables ++ ts) r.is ∙ sym (append_assoc (file_tokens tables) (table_part_tokens part) r.more))
