-- The declarations of a text are valid.
use Rattle.std.proofs.Common.{◌≡◌, ℕ, ◌<◌, ◌^◌, Bool, true, ◌&&◌, List, [], ◌∷◌, ◌++◌, length, take, map, Option, Some, None, refl, sym, ◌∙◌, ap, subst, append_assoc, arith, le-leb, length-append}
use Rattle.std.proofs.lemmas.List.{length-map}
use Rattle.std.proofs.Math.Seq.{take-append_seam}
use Rattle.std.specs.Prelude.{codes, nat_le, slice_get, MatchOption}
use Rattle.std.specs.List.{list_all, flat_map}
use Rattle.table_text.specs.Bytes.{open_paren, close_paren, plus_sign, times_sign, equals_sign, colon, semicolon, comma, open_brace, close_brace}
use Rattle.table_text.specs.Lexing.{Token, name, reserved, number, mark, spots}
use Rattle.table_text.specs.Limits.{max_level, max_log_values, max_open, max_declarations}
use Rattle.table_text.specs.Faults.{IsTaken, AreTaken, IsTablesText}
use Rattle.table_text.specs.Grammar.{sum_tokens, TermTree, plain_term, times_term, FormTree, shl_form, shr_form, rol_form, project_form, pack_form, linear_form, ItemTree, one_value, several_values, column_item, virtual_item, zero_item, flush_item, DeclTree, channel_tree, boundary_tree, table_tree, FileTree, side_word, type_word, term_tokens, more_term_tokens, constant_tokens, form_tokens, more_name_tokens, more_number_tokens, selector_tokens, item_tokens, decl_tokens, file_tokens, term_of, constant_of, form_of, item_of, decl_of}
use Rattle.table_text.specs.Valid.{is_name, is_number, is_valid_term, is_valid_form, is_selector, is_valid_item, is_valid_decl, is_valid, declarations}
use Rattle.table_text.specs.declared.decl.Decl.{Decl}
use Rattle.table_text.proofs.FromTests.{both}
use Rattle.table_text.proofs.Declared.{few_declarations}
use Rattle.table_text.proofs.Lexes.{tokens_of, lexed-spots}
use Rattle.table_text.proofs.Nesting.{Open, open_none}
use Rattle.table_text.proofs.Proper.{is_proper, Proper, all_split, lexed_proper}
use Rattle.table_text.proofs.ReadExprs.{Shown, shown_split, Balanced, balanced_both, balanced_flat, balanced_parens, balanced_sum, open_on, read_expr_valid, read_expr_shallow}

-- ---- names and numbers

first_proper : (t : Token) (tokens : List Token) → Proper (t ∷ tokens) → (is_proper t ≡ true) × Proper tokens
first_proper t tokens h = both (is_proper t) (list_all is_proper tokens) h

names_valid : (ws : List (List ℕ)) → Proper (more_name_tokens ws) → list_all is_name ws ≡ true
names_valid [] h = refl
names_valid (w ∷ ws) h = let p = first_proper (name w) (more_name_tokens ws) h in ap (λ b. b && list_all is_name ws) p.0 ∙ names_valid ws p.1

numbers_valid : (ns : List ℕ) → Proper (more_number_tokens ns) → list_all is_number ns ≡ true
numbers_valid [] h = refl
numbers_valid (n ∷ ns) h = let p = first_proper (number n) (more_number_tokens ns) h in ap (λ b. b && list_all is_number ns) p.0 ∙ numbers_valid ns p.1

selector_valid : (s : Option (List ℕ)) → Proper (selector_tokens s) → is_selector s ≡ true
selector_valid None h = refl
selector_valid (Some s) h = (first_proper (name s) [] h).0

two : (a b : Bool) → a ≡ true → b ≡ true → (a && b) ≡ true
two a b e f = ap (λ v. v && b) e ∙ f

three : (a b c : Bool) → a ≡ true → b ≡ true → c ≡ true → (a && b && c) ≡ true
three a b c e f g = two (a && b) c (two a b e f) g

four : (a b c d : Bool) → a ≡ true → b ≡ true → c ≡ true → d ≡ true → (a && b && c && d) ≡ true
four a b c d e f g h = two (a && b && c) d (three a b c e f g) h

-- ---- forms

term_valid : (t : TermTree) → Proper (term_tokens t) → is_valid_term (term_of t) ≡ true
term_valid (plain_term c) h = (first_proper (name c) [] h).0
term_valid (times_term k c) h =
    let p = first_proper (number k) (mark times_sign ∷ name c ∷ []) h in
    let q = first_proper (name c) [] p.1 in
    two (is_number k) (is_name c) p.0 q.0

terms_valid : (ts : List TermTree) → Proper (more_term_tokens ts) → list_all is_valid_term (map term_of ts) ≡ true
terms_valid [] h = refl
terms_valid (t ∷ ts) h =
    let q : Proper (term_tokens t) × Proper (more_term_tokens ts) = all_split is_proper (term_tokens t) (more_term_tokens ts) h in
    two (is_valid_term (term_of t)) (list_all is_valid_term (map term_of ts)) (term_valid t q.0) (terms_valid ts q.1)

constant_valid : (k : Option ℕ) → Proper (constant_tokens k) → is_number (constant_of k) ≡ true
constant_valid None h = refl
constant_valid (Some n) h = (first_proper (number n) (mark plus_sign ∷ []) h).0

shift_valid : (c : List ℕ) (m n : ℕ) → Proper (name c ∷ mark comma ∷ number m ∷ mark comma ∷ number n ∷ mark close_paren ∷ []) → (is_name c && is_number m && is_number n) ≡ true
shift_valid c m n h =
    let p = first_proper (name c) (mark comma ∷ number m ∷ mark comma ∷ number n ∷ mark close_paren ∷ []) h in
    let q = first_proper (number m) (mark comma ∷ number n ∷ mark close_paren ∷ []) p.1 in
    let r = first_proper (number n) (mark close_paren ∷ []) q.1 in
    three (is_name c) (is_number m) (is_number n) p.0 q.0 r.0

form_valid : (f : FormTree) → Proper (form_tokens f) → is_valid_form (form_of f) ≡ true
form_valid (shl_form c b o) h = shift_valid c b o h
form_valid (shr_form c b o) h = shift_valid c b o h
form_valid (rol_form c b o) h = shift_valid c b o h
form_valid (project_form c k j) h = shift_valid c k j h
form_valid (pack_form c k) h =
    let p = first_proper (name c) (mark comma ∷ number k ∷ mark close_paren ∷ []) h in
    let q = first_proper (number k) (mark close_paren ∷ []) p.1 in
    two (is_name c) (is_number k) p.0 q.0
form_valid (linear_form k t ts) h =
    let inner : List Token = constant_tokens k ++ (term_tokens t ++ more_term_tokens ts) in
    let a : Proper inner × Proper (mark close_paren ∷ []) = all_split is_proper inner (mark close_paren ∷ []) h in
    let b : Proper (constant_tokens k) × Proper (term_tokens t ++ more_term_tokens ts) = all_split is_proper (constant_tokens k) (term_tokens t ++ more_term_tokens ts) a.0 in
    let d : Proper (term_tokens t) × Proper (more_term_tokens ts) = all_split is_proper (term_tokens t) (more_term_tokens ts) b.1 in
    three (is_number (constant_of k)) true (list_all is_valid_term (map term_of (t ∷ ts))) (constant_valid k b.0) refl
    (two (is_valid_term (term_of t)) (list_all is_valid_term (map term_of ts)) (term_valid t d.0) (terms_valid ts d.1))

-- ---- balanced tokens

balanced_names : (ws : List (List ℕ)) → Balanced (more_name_tokens ws)
balanced_names [] = balanced_flat [] refl
balanced_names (w ∷ ws) = balanced_both (mark comma ∷ name w ∷ []) (more_name_tokens ws) (balanced_flat (mark comma ∷ name w ∷ []) refl) (balanced_names ws)

balanced_numbers : (ns : List ℕ) → Balanced (more_number_tokens ns)
balanced_numbers [] = balanced_flat [] refl
balanced_numbers (n ∷ ns) = balanced_both (mark comma ∷ number n ∷ []) (more_number_tokens ns) (balanced_flat (mark comma ∷ number n ∷ []) refl) (balanced_numbers ns)

balanced_terms : (ts : List TermTree) → Balanced (more_term_tokens ts)
balanced_terms [] = balanced_flat [] refl
balanced_terms (plain_term c ∷ ts) = balanced_both (mark plus_sign ∷ name c ∷ []) (more_term_tokens ts) (balanced_flat (mark plus_sign ∷ name c ∷ []) refl) (balanced_terms ts)
balanced_terms (times_term k c ∷ ts) = balanced_both (mark plus_sign ∷ number k ∷ mark times_sign ∷ name c ∷ []) (more_term_tokens ts) (balanced_flat (mark plus_sign ∷ number k ∷ mark times_sign ∷ name c ∷ []) refl) (balanced_terms ts)

balanced_selector : (s : Option (List ℕ)) → Balanced (selector_tokens s)
balanced_selector None = balanced_flat [] refl
balanced_selector (Some s) = balanced_flat (reserved (codes "if") ∷ name s ∷ []) refl

balanced_linear : (k : Option ℕ) (t : TermTree) (ts : List TermTree) → Balanced (constant_tokens k ++ (term_tokens t ++ more_term_tokens ts))
balanced_linear k t ts = balanced_both (constant_tokens k) (term_tokens t ++ more_term_tokens ts) (constant_at k) (balanced_both (term_tokens t) (more_term_tokens ts) (term_at t) (balanced_terms ts))
  where
    constant_at : (k : Option ℕ) → Balanced (constant_tokens k)
    constant_at None = balanced_flat [] refl
    constant_at (Some n) = balanced_flat (number n ∷ mark plus_sign ∷ []) refl

    term_at : (t : TermTree) → Balanced (term_tokens t)
    term_at (plain_term c) = balanced_flat (name c ∷ []) refl
    term_at (times_term k c) = balanced_flat (number k ∷ mark times_sign ∷ name c ∷ []) refl

call_balanced : (t : Token) (inner : List Token) → Balanced (t ∷ []) → Balanced inner → Balanced (t ∷ mark open_paren ∷ inner ++ mark close_paren ∷ [])
call_balanced t inner h x = balanced_both (t ∷ []) (mark open_paren ∷ inner ++ mark close_paren ∷ []) h (balanced_parens inner x)

form_balanced : (f : FormTree) → Balanced (form_tokens f)
form_balanced (shl_form c m n) = call_balanced (reserved (codes "shl")) (name c ∷ mark comma ∷ number m ∷ mark comma ∷ number n ∷ []) (balanced_flat (reserved (codes "shl") ∷ []) refl) (balanced_flat (name c ∷ mark comma ∷ number m ∷ mark comma ∷ number n ∷ []) refl)
form_balanced (shr_form c m n) = call_balanced (reserved (codes "shr")) (name c ∷ mark comma ∷ number m ∷ mark comma ∷ number n ∷ []) (balanced_flat (reserved (codes "shr") ∷ []) refl) (balanced_flat (name c ∷ mark comma ∷ number m ∷ mark comma ∷ number n ∷ []) refl)
form_balanced (rol_form c m n) = call_balanced (reserved (codes "rol")) (name c ∷ mark comma ∷ number m ∷ mark comma ∷ number n ∷ []) (balanced_flat (reserved (codes "rol") ∷ []) refl) (balanced_flat (name c ∷ mark comma ∷ number m ∷ mark comma ∷ number n ∷ []) refl)
form_balanced (project_form c m n) = call_balanced (reserved (codes "project")) (name c ∷ mark comma ∷ number m ∷ mark comma ∷ number n ∷ []) (balanced_flat (reserved (codes "project") ∷ []) refl) (balanced_flat (name c ∷ mark comma ∷ number m ∷ mark comma ∷ number n ∷ []) refl)
form_balanced (pack_form c k) = call_balanced (reserved (codes "pack")) (name c ∷ mark comma ∷ number k ∷ []) (balanced_flat (reserved (codes "pack") ∷ []) refl) (balanced_flat (name c ∷ mark comma ∷ number k ∷ []) refl)
form_balanced (linear_form k t ts) = call_balanced (reserved (codes "linear")) (constant_tokens k ++ (term_tokens t ++ more_term_tokens ts)) (balanced_flat (reserved (codes "linear") ∷ []) refl) (balanced_linear k t ts)

ended : (head inner : List Token) → Balanced head → Balanced inner → Balanced ((head ++ inner) ++ mark semicolon ∷ [])
ended head inner h x = balanced_both (head ++ inner) (mark semicolon ∷ []) (balanced_both head inner h x) (balanced_flat (mark semicolon ∷ []) refl)

item_balanced : (i : ItemTree) → Balanced (item_tokens i)
item_balanced (column_item w (one_value level h)) = balanced_flat (item_tokens (column_item w (one_value level h))) refl
item_balanced (column_item w (several_values level v h k)) = balanced_flat (item_tokens (column_item w (several_values level v h k))) refl
item_balanced (virtual_item w f) = ended (reserved (codes "virtual") ∷ name w ∷ mark equals_sign ∷ []) (form_tokens f) (balanced_flat (reserved (codes "virtual") ∷ name w ∷ mark equals_sign ∷ []) refl) (form_balanced f)
item_balanced (zero_item w s) = ended (reserved (codes "zero") ∷ name w ∷ mark colon ∷ []) (sum_tokens s) (balanced_flat (reserved (codes "zero") ∷ name w ∷ mark colon ∷ []) refl) (balanced_sum s)
item_balanced (flush_item side c w ws s) =
    let tuple : Balanced (mark open_paren ∷ (name w ∷ more_name_tokens ws) ++ mark close_paren ∷ []) = balanced_parens (name w ∷ more_name_tokens ws) (balanced_both (name w ∷ []) (more_name_tokens ws) (balanced_flat (name w ∷ []) refl) (balanced_names ws)) in
    subst Balanced (simp append_assoc refl)
    (ended (reserved (side_word side) ∷ name c ∷ []) ((mark open_paren ∷ (name w ∷ more_name_tokens ws) ++ mark close_paren ∷ []) ++ selector_tokens s) (balanced_flat (reserved (side_word side) ∷ name c ∷ []) refl)
    (balanced_both (mark open_paren ∷ (name w ∷ more_name_tokens ws) ++ mark close_paren ∷ []) (selector_tokens s) tuple (balanced_selector s)))

items_balanced : (items : List ItemTree) → Balanced (flat_map item_tokens items)
items_balanced [] = balanced_flat [] refl
items_balanced (i ∷ items) = balanced_both (item_tokens i) (flat_map item_tokens items) (item_balanced i) (items_balanced items)

decl_balanced : (d : DeclTree) → Balanced (decl_tokens d)
decl_balanced (channel_tree w n) = balanced_flat (decl_tokens (channel_tree w n)) refl
decl_balanced (boundary_tree side c n ns) =
    subst Balanced (simp append_assoc refl)
    (ended (reserved (codes "boundary") ∷ reserved (side_word side) ∷ name c ∷ []) (mark open_paren ∷ (number n ∷ more_number_tokens ns) ++ mark close_paren ∷ []) (balanced_flat (reserved (codes "boundary") ∷ reserved (side_word side) ∷ name c ∷ []) refl)
    (balanced_parens (number n ∷ more_number_tokens ns) (balanced_both (number n ∷ []) (more_number_tokens ns) (balanced_flat (number n ∷ []) refl) (balanced_numbers ns))))
decl_balanced (table_tree w items) = balanced_both (reserved (codes "table") ∷ name w ∷ mark open_brace ∷ flat_map item_tokens items) (mark close_brace ∷ [])
    (balanced_both (reserved (codes "table") ∷ name w ∷ mark open_brace ∷ []) (flat_map item_tokens items) (balanced_flat (reserved (codes "table") ∷ name w ∷ mark open_brace ∷ []) refl) (items_balanced items)) (balanced_flat (mark close_brace ∷ []) refl)

-- ---- items and declarations

item_valid : (i : ItemTree) (before : List Token) → Open before 0 → Shown before (item_tokens i) → Proper (item_tokens i) → is_valid_item (item_of i) ≡ true
item_valid (column_item w (one_value level h)) before o s p = three (is_name w) (nat_le level max_level) true (first_proper (name w) (mark colon ∷ name (type_word level) ∷ mark semicolon ∷ []) p).0 (le-leb level max_level h) refl
item_valid (column_item w (several_values level v h k)) before o s p = three (is_name w) (nat_le level max_level) (nat_le v max_log_values) (first_proper (name w) (mark colon ∷ name (type_word level) ∷ reserved (codes "x") ∷ number (2 ^ v) ∷ mark semicolon ∷ []) p).0 (le-leb level max_level h) (le-leb v max_log_values k)
item_valid (virtual_item w f) before o s p =
    let q = first_proper (name w) (mark equals_sign ∷ form_tokens f ++ mark semicolon ∷ []) p in
    two (is_name w) (is_valid_form (form_of f)) q.0 (form_valid f (all_split is_proper (form_tokens f) (mark semicolon ∷ []) q.1).0)
item_valid (zero_item w e) before o s p =
    let head : List Token = reserved (codes "zero") ∷ name w ∷ mark colon ∷ [] in
    let q = first_proper (name w) (mark colon ∷ sum_tokens e ++ mark semicolon ∷ []) p in
    let a = shown_split before (head ++ sum_tokens e) (mark semicolon ∷ []) s in
    let b = shown_split before head (sum_tokens e) a.0 in
    three (is_name w) _ _ q.0 (read_expr_valid e (all_split is_proper (sum_tokens e) (mark semicolon ∷ []) q.1).0)
    (le-leb _ max_open (read_expr_shallow e (before ++ head) (open_on before head 0 o (balanced_flat head refl)) b.1))
item_valid (flush_item side c w ws s) before o sh p =
    let front : List Token = reserved (side_word side) ∷ name c ∷ mark open_paren ∷ name w ∷ more_name_tokens ws in
    let a : Proper (front ++ mark close_paren ∷ selector_tokens s) × Proper (mark semicolon ∷ []) = all_split is_proper (front ++ mark close_paren ∷ selector_tokens s) (mark semicolon ∷ []) p in
    let b : Proper front × Proper (mark close_paren ∷ selector_tokens s) = all_split is_proper front (mark close_paren ∷ selector_tokens s) a.0 in
    let q = first_proper (name c) (mark open_paren ∷ name w ∷ more_name_tokens ws) b.0 in
    let r = first_proper (name w) (more_name_tokens ws) q.1 in
    four (is_name c) true (list_all is_name (w ∷ ws)) (is_selector s) q.0 refl (two (is_name w) (list_all is_name ws) r.0 (names_valid ws r.1)) (selector_valid s b.1)

items_valid : (items : List ItemTree) (before : List Token) → Open before 0 → Shown before (flat_map item_tokens items) → Proper (flat_map item_tokens items) → list_all is_valid_item (map item_of items) ≡ true
items_valid [] before o s p = refl
items_valid (i ∷ items) before o s p =
    let a = shown_split before (item_tokens i) (flat_map item_tokens items) s in
    let b = all_split is_proper (item_tokens i) (flat_map item_tokens items) p in
    two (is_valid_item (item_of i)) (list_all is_valid_item (map item_of items)) (item_valid i before o a.0 b.0)
    (items_valid items (before ++ item_tokens i) (open_on before (item_tokens i) 0 o (item_balanced i)) a.1 b.1)

decl_valid : (d : DeclTree) (before : List Token) → Open before 0 → Shown before (decl_tokens d) → Proper (decl_tokens d) → is_valid_decl (decl_of d) ≡ true
decl_valid (channel_tree w n) before o s p =
    let q = first_proper (name w) (mark colon ∷ number n ∷ mark semicolon ∷ []) p in
    two (is_name w) (is_number n) q.0 (first_proper (number n) (mark semicolon ∷ []) q.1).0
decl_valid (boundary_tree side c n ns) before o s p =
    let front : List Token = reserved (codes "boundary") ∷ reserved (side_word side) ∷ name c ∷ mark open_paren ∷ number n ∷ more_number_tokens ns in
    let a : Proper front × Proper (mark close_paren ∷ mark semicolon ∷ []) = all_split is_proper front (mark close_paren ∷ mark semicolon ∷ []) p in
    let q = first_proper (name c) (mark open_paren ∷ number n ∷ more_number_tokens ns) a.0 in
    let r = first_proper (number n) (more_number_tokens ns) q.1 in
    three (is_name c) true (list_all is_number (n ∷ ns)) q.0 refl (two (is_number n) (list_all is_number ns) r.0 (numbers_valid ns r.1))
decl_valid (table_tree w items) before o s p =
    let head : List Token = reserved (codes "table") ∷ name w ∷ mark open_brace ∷ [] in
    let a = shown_split before (head ++ flat_map item_tokens items) (mark close_brace ∷ []) s in
    let b = shown_split before head (flat_map item_tokens items) a.0 in
    let q = first_proper (name w) (mark open_brace ∷ flat_map item_tokens items ++ mark close_brace ∷ []) p in
    two (is_name w) (list_all is_valid_item (map item_of items)) q.0
    (items_valid items (before ++ head) (open_on before head 0 o (balanced_flat head refl)) b.1 (all_split is_proper (flat_map item_tokens items) (mark close_brace ∷ []) q.1).0)

decls_valid : (f : FileTree) (before : List Token) → Open before 0 → Shown before (file_tokens f) → Proper (file_tokens f) → list_all is_valid_decl (map decl_of f) ≡ true
decls_valid [] before o s p = refl
decls_valid (d ∷ f) before o s p =
    let a = shown_split before (decl_tokens d) (file_tokens f) s in
    let b = all_split is_proper (decl_tokens d) (file_tokens f) p in
    two (is_valid_decl (decl_of d)) (list_all is_valid_decl (map decl_of f)) (decl_valid d before o a.0 b.0)
    (decls_valid f (before ++ decl_tokens d) (open_on before (decl_tokens d) 0 o (decl_balanced d)) a.1 b.1)

-- ---- the text

slice_get-append : (xs : List Token) (y : Token) (ys : List Token) → slice_get (xs ++ y ∷ ys) (length xs) ≡ Some y
slice_get-append [] y ys = refl
slice_get-append (x ∷ xs) y ys = slice_get-append xs y ys

shown_from : (all before rest : List Token) → before ++ rest ≡ all → AreTaken all (length all) → Shown before rest
shown_from all before [] split taken = tt
shown_from all before (t ∷ rest) split taken =
    let long : length before < length all = subst (λ ts. length before < length ts) split (omega (arith, length-append before (t ∷ rest))) in
    let here : slice_get all (length before) ≡ Some t = ap (λ ts. slice_get ts (length before)) (sym split) ∙ slice_get-append before t rest in
    let front : take (length before) all ≡ before = ap (take (length before)) (sym split) ∙ take-append_seam before (t ∷ rest) in
    let may : IsTaken (take (length before) all) t = subst (λ o. MatchOption o ⊥ (IsTaken (take (length before) all))) here (taken (length before) long) in
    let at : IsTaken before t = subst (λ ts. IsTaken ts t) front may in
    (at.shallow, shown_from all (before ++ t ∷ []) rest (append_assoc before (t ∷ []) rest ∙ split) taken)

-- the declarations of a text are valid
pub read_valid : (text : List ℕ) (decls : List Decl) → IsTablesText text decls → is_valid decls ≡ true
read_valid text decls h =
    let all : List Token = tokens_of (spots text) in
    let f : FileTree = h.file.0 in
    let same : file_tokens f ≡ all = h.file.1 in
    let long : length (spots text) ≡ length all = sym (length-map (spots text) (λ s. s.token)) in
    let taken : AreTaken all (length all) = subst (AreTaken all) long h.taken in
    let shown : Shown [] (file_tokens f) = subst (Shown []) (sym same) (shown_from all [] all refl taken) in
    let proper : Proper (file_tokens f) = subst Proper (sym (same ∙ lexed-spots 0 0 text)) (lexed_proper 0 text) in
    let valid : list_all is_valid_decl decls ≡ true = subst (λ ds. list_all is_valid_decl ds ≡ true) h.file.2 (decls_valid f [] open_none shown proper) in
    two (list_all is_valid_decl decls) (nat_le (declarations decls) max_declarations) valid (le-leb (declarations decls) max_declarations (few_declarations text decls h))
