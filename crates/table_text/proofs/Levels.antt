-- The declarations of a valid list have levels that fit, and are few.
use Rattle.std.proofs.Common.{◌≡◌, ◌≤◌, true, ◌&&◌, List, [], ◌∷◌, leb-true}
use Rattle.std.specs.Prelude.{nat_le}
use Rattle.std.specs.List.{list_all}
use Rattle.table_text.specs.Limits.{max_level, max_log_values, max_declarations}
use Rattle.table_text.specs.Valid.{ItemLevelsFit, LevelsFit, declarations, is_name, is_valid_item, is_valid_decl, is_valid}
use Rattle.table_text.specs.declared.decl.Item.{Item}
use Rattle.table_text.specs.declared.decl.Item.TheVariants.{Column, Virtual, Zero, Flush}
use Rattle.table_text.specs.declared.decl.Decl.{Decl}
use Rattle.table_text.specs.declared.decl.Decl.TheVariants.{Channel, Boundary, Table}
use Rattle.table_text.proofs.FromTests.{both}

items_fit : (items : List Item) → list_all is_valid_item items ≡ true → ItemLevelsFit items
items_fit [] h = tt
items_fit (Column w level v ∷ items) h =
    let p = both (is_valid_item (Column w level v)) (list_all is_valid_item items) h in
    let q = both (is_name w && nat_le level max_level) (nat_le v max_log_values) p.0 in
    (leb-true level max_level (both (is_name w) (nat_le level max_level) q.0).1, leb-true v max_log_values q.1, items_fit items p.1)
items_fit (Virtual w f ∷ items) h = items_fit items (both (is_valid_item (Virtual w f)) (list_all is_valid_item items) h).1
items_fit (Zero w e ∷ items) h = items_fit items (both (is_valid_item (Zero w e)) (list_all is_valid_item items) h).1
items_fit (Flush side c ws s ∷ items) h = items_fit items (both (is_valid_item (Flush side c ws s)) (list_all is_valid_item items) h).1

decls_fit : (decls : List Decl) → list_all is_valid_decl decls ≡ true → LevelsFit decls
decls_fit [] h = tt
decls_fit (Channel w n ∷ decls) h = decls_fit decls (both (is_valid_decl (Channel w n)) (list_all is_valid_decl decls) h).1
decls_fit (Boundary side c ns ∷ decls) h = decls_fit decls (both (is_valid_decl (Boundary side c ns)) (list_all is_valid_decl decls) h).1
decls_fit (Table w items ∷ decls) h =
    let p = both (is_valid_decl (Table w items)) (list_all is_valid_decl decls) h in
    (items_fit items (both (is_name w) (list_all is_valid_item items) p.0).1, decls_fit decls p.1)

pub valid_levels : (decls : List Decl) → is_valid decls ≡ true → LevelsFit decls
valid_levels decls h = decls_fit decls (both (list_all is_valid_decl decls) (nat_le (declarations decls) max_declarations) h).0

pub valid_few : (decls : List Decl) → is_valid decls ≡ true → declarations decls ≤ max_declarations
valid_few decls h = leb-true (declarations decls) max_declarations (both (list_all is_valid_decl decls) (nat_le (declarations decls) max_declarations) h).1
