-- How many declarations a text has.
use Rattle.std.proofs.Common.{◌≡◌, ℕ, zero, suc, ◌+◌, ◌≤◌, ◌<◌, Bool, true, false, cond, List, [], ◌∷◌, ◌++◌, length, take, get_or, Option, Some, None, refl, sym, ◌∙◌, ap, subst, arith, lit≤}
use Rattle.std.specs.Prelude.{map, slice_get, codes, MatchOption}
use Rattle.std.specs.List.{flat_map}
use Rattle.std.proofs.lemmas.List.{length-map}
use Rattle.std.proofs.Math.Seq.{take-suc, take-length}
use Rattle.std.proofs.lemmas.Option.{slice_get-get_or}
use Rattle.table_text.proofs.Begun.{begun_from-append, behind_boundary-append, begun_in-one}
use Rattle.table_text.specs.declared.decl.Side.{Side}
use Rattle.table_text.specs.declared.decl.Side.TheVariants.{Push, Pull}
use Rattle.table_text.specs.Bytes.{open_paren, close_paren, times_sign, plus_sign, equals_sign, colon, semicolon, open_brace, close_brace}
use Rattle.table_text.specs.Lexing.{Token, name, reserved, number, mark, spots}
use Rattle.table_text.specs.Grammar.{Sum, first_term, plus, Product, first_factor, times, Atom, constant, column, parens, sum_tokens, product_tokens, atom_tokens, ItemTree, one_value, several_values, column_item, virtual_item, TermTree, plain_term, times_term, shl_form, shr_form, rol_form, project_form, pack_form, linear_form, zero_item, flush_item, side_word, term_tokens, more_term_tokens, more_name_tokens, more_number_tokens, selector_tokens, constant_tokens, item_tokens, item_of, DeclTree, channel_tree, boundary_tree, table_tree, decl_tokens, decl_of, FileTree, file_tokens}
use Rattle.table_text.specs.Limits.{max_declarations}
use Rattle.table_text.specs.Faults.{is_boundary, begins_declaration, behind_boundary, begun_from, begun_in, IsTaken, AreTaken, IsTablesText}
use Rattle.table_text.specs.Valid.{declarations}
use Rattle.table_text.specs.declared.decl.Decl.{Decl}

-- tokens with which no declaration begins
abbrev Quiet : List Token → Type 0
Quiet tokens = (b : Bool) → begun_from b tokens ≡ 0

quiet : (xs ys : List Token) → Quiet xs → Quiet ys → Quiet (xs ++ ys)
quiet xs ys x y b = begun_from-append b xs ys ∙ omega (arith, x b, y (behind_boundary b xs))

mutual
  quiet_sum : (s : Sum) → Quiet (sum_tokens s)
  quiet_sum (first_term p) = quiet_product p
  quiet_sum (plus s p) = quiet (sum_tokens s) (mark plus_sign ∷ product_tokens p) (quiet_sum s) (λ b. omega (arith, quiet_product p false))

  quiet_product : (p : Product) → Quiet (product_tokens p)
  quiet_product (first_factor a) = quiet_atom a
  quiet_product (times p a) = quiet (product_tokens p) (mark times_sign ∷ atom_tokens a) (quiet_product p) (λ b. omega (arith, quiet_atom a false))

  quiet_atom : (a : Atom) → Quiet (atom_tokens a)
  quiet_atom (constant n) = λ b. refl
  quiet_atom (column w) = λ b. refl
  quiet_atom (parens s) = λ b. omega (arith, quiet (sum_tokens s) (mark close_paren ∷ []) (quiet_sum s) (λ c. refl) false)

quiet_terms : (ts : List TermTree) → Quiet (more_term_tokens ts)
quiet_terms [] b = refl
quiet_terms (plain_term c ∷ ts) b = omega (arith, quiet_terms ts false)
quiet_terms (times_term k c ∷ ts) b = omega (arith, quiet_terms ts false)

quiet_constant : (k : Option ℕ) → Quiet (constant_tokens k)
quiet_constant None b = refl
quiet_constant (Some n) b = refl

quiet_term : (t : TermTree) → Quiet (term_tokens t)
quiet_term (plain_term c) b = refl
quiet_term (times_term k c) b = refl

quiet_names : (ws : List (List ℕ)) → Quiet (more_name_tokens ws)
quiet_names [] b = refl
quiet_names (w ∷ ws) b = omega (arith, quiet_names ws false)

quiet_numbers : (ns : List ℕ) → Quiet (more_number_tokens ns)
quiet_numbers [] b = refl
quiet_numbers (n ∷ ns) b = omega (arith, quiet_numbers ns false)

quiet_selector : (s : Option (List ℕ)) → Quiet (selector_tokens s)
quiet_selector None b = refl
quiet_selector (Some s) b = refl

-- ---- a declaration begins once

-- one declaration begins with these tokens, and what follows them isn't behind `boundary`
record Once (tokens : List Token) : Type 0 where
  begun : begun_from false tokens ≡ 1
  behind : behind_boundary false tokens ≡ false

-- a declaration of its first token, quiet ones and a mark
once_ending : (head : Token) (xs : List Token) (c : ℕ) → begins_declaration false head ≡ true → Quiet xs → Once ((head ∷ xs) ++ mark c ∷ [])
once_ending head xs c begins rest = record {
  begun =
      let one : begun_from false (head ∷ xs) ≡ 1 = ap (λ b. cond b 1 0 + begun_from (is_boundary head) xs) begins ∙ omega (arith, rest (is_boundary head)) in
      begun_from-append false (head ∷ xs) (mark c ∷ []) ∙ omega arith;
  behind = behind_boundary-append false (head ∷ xs) (mark c ∷ []);
}

side_begins : (side : Side) → begins_declaration false (reserved (side_word side)) ≡ true
side_begins Push = refl
side_begins Pull = refl

once_item : (i : ItemTree) → Once (item_tokens i)
once_item (column_item w (one_value level h)) = record { begun = refl; behind = refl }
once_item (column_item w (several_values level v h k)) = record { begun = refl; behind = refl }
once_item (virtual_item w (shl_form c m n)) = record { begun = refl; behind = refl }
once_item (virtual_item w (shr_form c m n)) = record { begun = refl; behind = refl }
once_item (virtual_item w (rol_form c m n)) = record { begun = refl; behind = refl }
once_item (virtual_item w (project_form c m n)) = record { begun = refl; behind = refl }
once_item (virtual_item w (pack_form c n)) = record { begun = refl; behind = refl }
once_item (virtual_item w (linear_form k t ts)) =
    let inside : List Token = constant_tokens k ++ (term_tokens t ++ more_term_tokens ts) in
    let parts : Quiet inside = quiet (constant_tokens k) (term_tokens t ++ more_term_tokens ts) (quiet_constant k) (quiet (term_tokens t) (more_term_tokens ts) (quiet_term t) (quiet_terms ts)) in
    once_ending (reserved (codes "virtual")) (name w ∷ mark equals_sign ∷ reserved (codes "linear") ∷ mark open_paren ∷ inside ++ mark close_paren ∷ []) semicolon refl
    (λ b. omega (arith, quiet inside (mark close_paren ∷ []) parts (λ c. refl) false))
once_item (zero_item w s) = once_ending (reserved (codes "zero")) (name w ∷ mark colon ∷ sum_tokens s) semicolon refl (λ b. omega (arith, quiet_sum s false))
once_item (flush_item side c w ws s) =
    let ends : Quiet (mark close_paren ∷ selector_tokens s) = λ b. omega (arith, quiet_selector s false) in
    once_ending (reserved (side_word side)) (name c ∷ mark open_paren ∷ name w ∷ more_name_tokens ws ++ mark close_paren ∷ selector_tokens s) semicolon (side_begins side)
    (λ b. omega (arith, quiet (more_name_tokens ws) (mark close_paren ∷ selector_tokens s) (quiet_names ws) ends false))

-- as many declarations begin with these tokens, and what follows them isn't behind `boundary`
pub record Begun (tokens : List Token) (n : ℕ) : Type 0 where
  pub begun : begun_from false tokens ≡ n
  pub behind : behind_boundary false tokens ≡ false

begun_both : (xs ys : List Token) (m n : ℕ) → begun_from false xs ≡ m → behind_boundary false xs ≡ false → Begun ys n → Begun (xs ++ ys) (m + n)
begun_both xs ys m n x b y = record {
  begun = begun_from-append false xs ys ∙ omega (arith, ap (λ c. begun_from c ys) b, y.begun);
  behind = behind_boundary-append false xs ys ∙ ap (λ c. behind_boundary c ys) b ∙ y.behind;
}

begun_items : (items : List ItemTree) → Begun (flat_map item_tokens items) (length items)
begun_items [] = record { begun = refl; behind = refl }
begun_items (i ∷ items) =
    let o = once_item i in
    let e : 1 + length items ≡ length (i ∷ items) = omega arith in
    subst (Begun (item_tokens i ++ flat_map item_tokens items)) e (begun_both (item_tokens i) (flat_map item_tokens items) 1 (length items) o.begun o.behind (begun_items items))

boundary_begun : (side : Side) (c : List ℕ) (n : ℕ) (rest : List Token) → Quiet rest
    → begun_from false (reserved (codes "boundary") ∷ reserved (side_word side) ∷ name c ∷ mark open_paren ∷ number n ∷ rest) ≡ 1
boundary_begun Push c n rest q = omega (arith, q false)
boundary_begun Pull c n rest q = omega (arith, q false)

boundary_once : (side : Side) (c : List ℕ) (n : ℕ) (ns : List ℕ) → Begun (decl_tokens (boundary_tree side c n ns)) 1
boundary_once side c n ns =
    let ends : Quiet (mark close_paren ∷ mark semicolon ∷ []) = λ b. refl in
    record {
      begun = boundary_begun side c n (more_number_tokens ns ++ mark close_paren ∷ mark semicolon ∷ []) (quiet (more_number_tokens ns) (mark close_paren ∷ mark semicolon ∷ []) (quiet_numbers ns) ends);
      behind = behind_boundary-append false (reserved (codes "boundary") ∷ reserved (side_word side) ∷ name c ∷ mark open_paren ∷ number n ∷ more_number_tokens ns) (mark close_paren ∷ mark semicolon ∷ []);
    }

begun_decl : (d : DeclTree) → Begun (decl_tokens d) (declarations (decl_of d ∷ []))
begun_decl (channel_tree w n) = record { begun = refl; behind = refl }
begun_decl (boundary_tree side c n ns) = boundary_once side c n ns
begun_decl (table_tree w items) =
    let all : Begun (flat_map item_tokens items) (length items) = begun_items items in
    let inner : Begun (flat_map item_tokens items ++ mark close_brace ∷ []) (length items + 0) = begun_both (flat_map item_tokens items) (mark close_brace ∷ []) (length items) 0 all.begun all.behind (record { begun = refl; behind = refl }) in
    let head : List Token = reserved (codes "table") ∷ name w ∷ mark open_brace ∷ [] in
    let whole : Begun (head ++ (flat_map item_tokens items ++ mark close_brace ∷ [])) (1 + (length items + 0)) = begun_both head (flat_map item_tokens items ++ mark close_brace ∷ []) 1 (length items + 0) refl refl inner in
    let n : length (map item_of items) ≡ length items = length-map items item_of in
    let count : 1 + (length items + 0) ≡ declarations (decl_of (table_tree w items) ∷ []) = omega arith in
    subst (Begun (decl_tokens (table_tree w items))) count whole

more_decls : (d : DeclTree) (f : FileTree) → declarations (decl_of d ∷ []) + declarations (map decl_of f) ≡ declarations (map decl_of (d ∷ f))
more_decls (channel_tree w n) f = omega arith
more_decls (boundary_tree side c n ns) f = omega arith
more_decls (table_tree w items) f = omega arith

pub begun_file : (f : FileTree) → Begun (file_tokens f) (declarations (map decl_of f))
begun_file [] = record { begun = refl; behind = refl }
begun_file (d ∷ f) =
    let one : Begun (decl_tokens d) (declarations (decl_of d ∷ [])) = begun_decl d in
    subst (Begun (decl_tokens d ++ file_tokens f)) (more_decls d f) (begun_both (decl_tokens d) (file_tokens f) (declarations (decl_of d ∷ [])) (declarations (map decl_of f)) one.begun one.behind (begun_file f))

-- ---- and each declaration that begins is within the limit

one_more : (n m : ℕ) (b : Bool) → m ≡ n + cond b 1 0 → n ≤ max_declarations → (b ≡ true → n < max_declarations) → m ≤ max_declarations
one_more n m true e within few = omega (arith, few refl)
one_more n m false e within few = omega arith

few_step : (before : List Token) (t : Token) → begun_in before ≤ max_declarations → IsTaken before t → begun_in (before ++ t ∷ []) ≤ max_declarations
few_step before t few taken = one_more (begun_in before) (begun_in (before ++ t ∷ [])) (begins_declaration (behind_boundary false before) t) (begun_in-one before t) few taken.few

few_at : (tokens : List Token) (n : ℕ) (d : Token) → n < length tokens → begun_in (take n tokens) ≤ max_declarations → MatchOption (slice_get tokens n) ⊥ (IsTaken (take n tokens)) → begun_in (take (suc n) tokens) ≤ max_declarations
few_at tokens n d below few taken =
    let at : IsTaken (take n tokens) (get_or tokens n d) = subst (λ o. MatchOption o ⊥ (IsTaken (take n tokens))) (slice_get-get_or tokens n d below) taken in
    subst (λ ts. begun_in ts ≤ max_declarations) (sym (take-suc tokens n d below)) (few_step (take n tokens) (get_or tokens n d) few at)

few_taken : (tokens : List Token) (n : ℕ) → n ≤ length tokens → AreTaken tokens n → begun_in (take n tokens) ≤ max_declarations
few_taken tokens zero within taken = lit≤ tt
few_taken tokens (suc n) within taken =
    few_at tokens n (mark 0) (omega arith) (few_taken tokens n (omega arith) (λ k below. taken k (omega arith))) (taken n (omega arith))

-- a text has no more declarations than the limit
pub few_declarations : (text : List ℕ) (decls : List Decl) → IsTablesText text decls → declarations decls ≤ max_declarations
few_declarations text decls t =
    let all : List Token = map (λ s. s.token) (spots text) in
    let n : length all ≡ length (spots text) = length-map (spots text) (λ s. s.token) in
    let few : begun_in (take (length (spots text)) all) ≤ max_declarations = few_taken all (length (spots text)) (omega arith) t.taken in
    let whole : take (length (spots text)) all ≡ all = ap (λ m. take m all) (sym n) ∙ take-length all in
    let file : begun_in (file_tokens t.file.0) ≡ declarations (map decl_of t.file.0) = (begun_file t.file.0).begun in
    let spells : begun_in (file_tokens t.file.0) ≡ begun_in all = ap begun_in t.file.1 in
    let means : declarations (map decl_of t.file.0) ≡ declarations decls = ap declarations t.file.2 in
    let taken : begun_in (take (length (spots text)) all) ≡ begun_in all = ap begun_in whole in
    omega arith
