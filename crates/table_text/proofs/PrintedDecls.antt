-- The texts of valid declarations, as trees that they spell.
use Rattle.std.proofs.Common.{◌≡◌, ℕ, zero, suc, ◌≤◌, ◌<◌, ◌^◌, Bool, true, false, cond, ◌&&◌, List, [], ◌∷◌, ◌++◌, map, Option, Some, None, refl, sym, ◌∙◌, ap, subst, append_assoc, arith, ltb-true, leb-true, lit<, lit≤}
use Rattle.std.proofs.lemmas.Bool.{eqb-true}
use Rattle.std.proofs.lemmas.List.{append-nil}
use Rattle.std.proofs.Math.Dec.{eqb-suc-zero}
use Rattle.std.specs.Prelude.{◌==◌, codes, nat_le}
use Rattle.std.specs.List.{list_all, flat_map}
use Rattle.std.specs.Fmt.{decimal}
use Rattle.table_text.specs.Bytes.{open_paren, close_paren, plus_sign, times_sign, equals_sign, colon, semicolon, comma, open_brace, close_brace}
use Rattle.table_text.specs.Lexing.{Token, name, reserved, number, mark}
use Rattle.table_text.specs.Limits.{max_level, max_log_values, max_open}
use Rattle.table_text.specs.Grammar.{sum_tokens, TermTree, plain_term, times_term, FormTree, shl_form, shr_form, rol_form, project_form, pack_form, linear_form, ItemTree, one_value, several_values, column_item, virtual_item, zero_item, flush_item, DeclTree, channel_tree, boundary_tree, table_tree, FileTree, side_word, type_word, term_tokens, more_term_tokens, constant_tokens, form_tokens, more_name_tokens, more_number_tokens, selector_tokens, item_tokens, decl_tokens, file_tokens, term_of, constant_of, form_of, item_of, decl_of}
use Rattle.table_text.specs.Canonical.{joined, tuple, expr_text, term_text, constant_texts, shift_text, form_text, selector_text, item_text, item_line, decl_text, canonical}
use Rattle.table_text.specs.Valid.{is_name, is_number, is_some_list, is_valid_expr, depth, is_valid_term, is_valid_form, is_selector, is_valid_item, is_valid_decl}
use Rattle.table_text.specs.declared.expr.Expr.{Expr}
use Rattle.table_text.specs.declared.print.Place.TheVariants.{Alone}
use Rattle.table_text.specs.declared.decl.Side.{Side}
use Rattle.table_text.specs.declared.decl.Side.TheVariants.{Push, Pull}
use Rattle.table_text.specs.declared.decl.Term.{Term}
use Rattle.table_text.specs.declared.decl.VirtualForm.{VirtualForm}
use Rattle.table_text.specs.declared.decl.VirtualForm.TheVariants as form
use Rattle.table_text.specs.declared.decl.Item.{Item}
use Rattle.table_text.specs.declared.decl.Item.TheVariants as item
use Rattle.table_text.specs.declared.decl.Decl.{Decl}
use Rattle.table_text.specs.declared.decl.Decl.TheVariants as decl
use Rattle.table_text.proofs.FromTests.{both}
use Rattle.table_text.proofs.Nesting.{Nests, is_flat, nests_none, nests_both, nests_more, nests_flat, nests_parens}
use Rattle.table_text.proofs.Lexes.{lexed, breaks, Reads, Ends, reads_word, reads_number, ends_then, ends_both, reads_both, reads_end, reads_of, reads_none, ends_none}
use Rattle.table_text.proofs.PrintedExprs.{reads_name, Printed, printed}

-- ---- words and signs

column_word : Ends (codes "column ") (reserved (codes "column") ∷ [])
unfolding lexed
column_word = record { on = λ rest. refl; bytes = refl }

virtual_word : Ends (codes "virtual ") (reserved (codes "virtual") ∷ [])
unfolding lexed
virtual_word = record { on = λ rest. refl; bytes = refl }

zero_word : Ends (codes "zero ") (reserved (codes "zero") ∷ [])
unfolding lexed
zero_word = record { on = λ rest. refl; bytes = refl }

channel_word : Ends (codes "channel ") (reserved (codes "channel") ∷ [])
unfolding lexed
channel_word = record { on = λ rest. refl; bytes = refl }

boundary_word : Ends (codes "boundary ") (reserved (codes "boundary") ∷ [])
unfolding lexed
boundary_word = record { on = λ rest. refl; bytes = refl }

table_word : Ends (codes "table ") (reserved (codes "table") ∷ [])
unfolding lexed
table_word = record { on = λ rest. refl; bytes = refl }

linear_open : Ends (codes "linear(") (reserved (codes "linear") ∷ mark open_paren ∷ [])
unfolding lexed
linear_open = record { on = λ rest. refl; bytes = refl }

pack_open : Ends (codes "pack(") (reserved (codes "pack") ∷ mark open_paren ∷ [])
unfolding lexed
pack_open = record { on = λ rest. refl; bytes = refl }

if_word : Ends (codes " if ") (reserved (codes "if") ∷ [])
unfolding lexed
if_word = record { on = λ rest. refl; bytes = refl }

x_word : Ends (codes " x ") (reserved (codes "x") ∷ [])
unfolding lexed
x_word = record { on = λ rest. refl; bytes = refl }

colon_sign : Ends (codes " : ") (mark colon ∷ [])
unfolding lexed
colon_sign = record { on = λ rest. refl; bytes = refl }

equals : Ends (codes " = ") (mark equals_sign ∷ [])
unfolding lexed
equals = record { on = λ rest. refl; bytes = refl }

plus_between : Ends (codes " + ") (mark plus_sign ∷ [])
unfolding lexed
plus_between = record { on = λ rest. refl; bytes = refl }

times_between : Ends (codes " * ") (mark times_sign ∷ [])
unfolding lexed
times_between = record { on = λ rest. refl; bytes = refl }

comma_between : Ends (codes ", ") (mark comma ∷ [])
unfolding lexed
comma_between = record { on = λ rest. refl; bytes = refl }

line_end : Ends (codes ";\n") (mark semicolon ∷ [])
unfolding lexed
line_end = record { on = λ rest. refl; bytes = refl }

indent : Ends (codes "  ") []
unfolding lexed
indent = record { on = λ rest. refl; bytes = refl }

space : Ends (codes " ") []
unfolding lexed
space = record { on = λ rest. refl; bytes = refl }

opens : Ends (codes "(") (mark open_paren ∷ [])
unfolding lexed
opens = record { on = λ rest. refl; bytes = refl }

closes : Ends (codes ")") (mark close_paren ∷ [])
unfolding lexed
closes = record { on = λ rest. refl; bytes = refl }

table_opens : Ends (codes " {\n") (mark open_brace ∷ [])
unfolding lexed
table_opens = record { on = λ rest. refl; bytes = refl }

table_closes : Ends (codes "}\n") (mark close_brace ∷ [])
unfolding lexed
table_closes = record { on = λ rest. refl; bytes = refl }

reads_side : (side : Side) → Reads (side_word side) (reserved (side_word side) ∷ [])
reads_side Push = reads_word 112 (117 ∷ 115 ∷ 104 ∷ []) refl refl
reads_side Pull = reads_word 112 (117 ∷ 108 ∷ 108 ∷ []) refl refl

reads_type : (level : ℕ) → level ≤ 7 → Reads (type_word level) (name (type_word level) ∷ [])
reads_type zero h = reads_name (codes "b1") refl
reads_type (suc zero) h = reads_name (codes "b2") refl
reads_type (suc (suc zero)) h = reads_name (codes "b4") refl
reads_type (suc (suc (suc zero))) h = reads_name (codes "b8") refl
reads_type (suc (suc (suc (suc zero)))) h = reads_name (codes "b16") refl
reads_type (suc (suc (suc (suc (suc zero))))) h = reads_name (codes "b32") refl
reads_type (suc (suc (suc (suc (suc (suc zero)))))) h = reads_name (codes "b64") refl
reads_type (suc (suc (suc (suc (suc (suc (suc zero))))))) h = reads_name (codes "b128") refl
reads_type (suc (suc (suc (suc (suc (suc (suc (suc n)))))))) h = absurd (omega arith)

power_fits : (v : ℕ) → v ≤ 7 → 2 ^ v < 2 ^ 128
power_fits zero h = lit< tt
power_fits (suc zero) h = lit< tt
power_fits (suc (suc zero)) h = lit< tt
power_fits (suc (suc (suc zero))) h = lit< tt
power_fits (suc (suc (suc (suc zero)))) h = lit< tt
power_fits (suc (suc (suc (suc (suc zero))))) h = lit< tt
power_fits (suc (suc (suc (suc (suc (suc zero)))))) h = lit< tt
power_fits (suc (suc (suc (suc (suc (suc (suc zero))))))) h = lit< tt
power_fits (suc (suc (suc (suc (suc (suc (suc (suc n)))))))) h = absurd (omega arith)

-- a text that ends, a name or a number behind it, and a text that ends
named : (a w b : List ℕ) (x y : List Token) (t : Token) → Ends a x → Reads w (t ∷ []) → Ends b y → ((rest : List ℕ) → breaks (b ++ rest) ≡ true) → Ends ((a ++ w) ++ b) ((x ++ t ∷ []) ++ y)
named a w b x y t e r f breaking = reads_end (a ++ w) b (x ++ t ∷ []) y (ends_then a w x (t ∷ []) e r) f breaking

fits : (n : ℕ) → is_number n ≡ true → n < 2 ^ 128
fits n h = ltb-true n (2 ^ 128) h

-- ---- forms

reads_shift : (word c : List ℕ) (m n : ℕ) (t : Token) → Reads word (t ∷ []) → is_name c ≡ true → is_number m ≡ true → is_number n ≡ true
    → Reads (shift_text word c m n) (t ∷ mark open_paren ∷ name c ∷ mark comma ∷ number m ∷ mark comma ∷ number n ∷ mark close_paren ∷ [])
reads_shift word c m n t w hc hm hn =
    let a : Ends (word ++ codes "(") (t ∷ mark open_paren ∷ []) = reads_end word (codes "(") (t ∷ []) (mark open_paren ∷ []) w opens (λ rest. refl) in
    let b = named (word ++ codes "(") c (codes ", ") (t ∷ mark open_paren ∷ []) (mark comma ∷ []) (name c) a (reads_name c hc) comma_between (λ rest. refl) in
    let d = named (((word ++ codes "(") ++ c) ++ codes ", ") (decimal m) (codes ", ") (t ∷ mark open_paren ∷ name c ∷ mark comma ∷ []) (mark comma ∷ []) (number m) b (reads_number m (fits m hm)) comma_between (λ rest. refl) in
    reads_of _ _ (named (((((word ++ codes "(") ++ c) ++ codes ", ") ++ decimal m) ++ codes ", ") (decimal n) (codes ")") (t ∷ mark open_paren ∷ name c ∷ mark comma ∷ number m ∷ mark comma ∷ []) (mark close_paren ∷ []) (number n) d (reads_number n (fits n hn)) closes (λ rest. refl))

-- a term as a tree
record PrintedTerm (t : Term) : Type 0 where
  tree : TermTree
  means : term_of tree ≡ t
  reads : Reads (term_text t) (term_tokens tree)
  flat : Nests 0 (term_tokens tree)

term_at : (k : ℕ) (c : List ℕ) (b : Bool) → (k == 1) ≡ b → is_number k ≡ true → is_name c ≡ true → PrintedTerm (record { coefficient = k; column = c })
term_at k c true is hk hc =
    let one : k ≡ 1 = eqb-true k 1 is in
    record {
      tree = plain_term c;
      means = ap (λ n. record { coefficient = n; column = c }) (sym one);
      reads = subst (λ b. Reads (cond b c (decimal k ++ codes " * " ++ c)) (name c ∷ [])) (sym is) (reads_name c hc);
      flat = nests_flat 0 (name c ∷ []) refl;
    }
term_at k c false is hk hc = record {
  tree = times_term k c;
  means = refl;
  reads = subst (λ b. Reads (cond b c (decimal k ++ codes " * " ++ c)) (number k ∷ mark times_sign ∷ name c ∷ [])) (sym is)
      (ends_then (decimal k ++ codes " * ") c (number k ∷ mark times_sign ∷ []) (name c ∷ [])
      (reads_end (decimal k) (codes " * ") (number k ∷ []) (mark times_sign ∷ []) (reads_number k (fits k hk)) times_between (λ rest. refl)) (reads_name c hc));
  flat = nests_flat 0 (number k ∷ mark times_sign ∷ name c ∷ []) refl;
}

printed_term : (t : Term) → is_valid_term t ≡ true → PrintedTerm t
printed_term t h = let p : (is_number t.coefficient ≡ true) × (is_name t.column ≡ true) = both (is_number t.coefficient) (is_name t.column) h in term_at t.coefficient t.column (t.coefficient == 1) refl p.0 p.1

record PrintedTerms (ts : List Term) : Type 0 where
  trees : List TermTree
  means : map term_of trees ≡ ts
  reads : Reads (flat_map (λ u. codes " + " ++ u) (map term_text ts)) (more_term_tokens trees)
  flat : Nests 0 (more_term_tokens trees)

terms_break : (ts : List Term) (rest : List ℕ) → breaks rest ≡ true → breaks (flat_map (λ u. codes " + " ++ u) (map term_text ts) ++ rest) ≡ true
terms_break [] rest h = h
terms_break (t ∷ ts) rest h = refl

printed_terms : (ts : List Term) → list_all is_valid_term ts ≡ true → PrintedTerms ts
printed_terms [] h = record { trees = []; means = refl; reads = reads_none; flat = nests_none 0 }
printed_terms (t ∷ ts) h =
    let p : (is_valid_term t ≡ true) × (list_all is_valid_term ts ≡ true) = both (is_valid_term t) (list_all is_valid_term ts) h in
    let one = printed_term t p.0 in
    let more = printed_terms ts p.1 in
    record {
      trees = one.tree ∷ more.trees;
      means = ap (λ x. x ∷ map term_of more.trees) one.means ∙ ap (λ xs. t ∷ xs) more.means;
      reads = reads_both (codes " + " ++ term_text t) _ (mark plus_sign ∷ term_tokens one.tree) (more_term_tokens more.trees) (ends_then (codes " + ") (term_text t) (mark plus_sign ∷ []) (term_tokens one.tree) plus_between one.reads) more.reads (terms_break ts);
      flat = nests_both 0 (mark plus_sign ∷ term_tokens one.tree) (more_term_tokens more.trees) (nests_both 0 (mark plus_sign ∷ []) (term_tokens one.tree) (nests_flat 0 (mark plus_sign ∷ []) refl) one.flat) more.flat;
    }

-- the constant and the terms of a linear form
record PrintedLinear (k : ℕ) (t : Term) (ts : List Term) : Type 0 where
  constant : Option ℕ
  first : TermTree
  more : List TermTree
  constant_means : constant_of constant ≡ k
  means : map term_of (first ∷ more) ≡ t ∷ ts
  reads : Reads (joined (codes " + ") (constant_texts k ++ map term_text (t ∷ ts))) (constant_tokens constant ++ (term_tokens first ++ more_term_tokens more))
  flat : Nests 0 (constant_tokens constant ++ (term_tokens first ++ more_term_tokens more))

linear_at : (k : ℕ) (t : Term) (ts : List Term) (b : Bool) → (k == 0) ≡ b → is_number k ≡ true → PrintedTerm t → PrintedTerms ts → PrintedLinear k t ts
linear_at k t ts true is hk one rest = record {
  constant = None;
  first = one.tree;
  more = rest.trees;
  constant_means = sym (eqb-true k 0 is);
  means = ap (λ x. x ∷ map term_of rest.trees) one.means ∙ ap (λ xs. t ∷ xs) rest.means;
  reads = subst (λ b. Reads (joined (codes " + ") (cond b [] (decimal k ∷ []) ++ map term_text (t ∷ ts))) (term_tokens one.tree ++ more_term_tokens rest.trees)) (sym is)
      (reads_both (term_text t) _ (term_tokens one.tree) (more_term_tokens rest.trees) one.reads rest.reads (terms_break ts));
  flat = nests_both 0 (term_tokens one.tree) (more_term_tokens rest.trees) one.flat rest.flat;
}
linear_at k t ts false is hk one rest = record {
  constant = Some k;
  first = one.tree;
  more = rest.trees;
  constant_means = refl;
  means = ap (λ x. x ∷ map term_of rest.trees) one.means ∙ ap (λ xs. t ∷ xs) rest.means;
  reads = subst (λ b. Reads (joined (codes " + ") (cond b [] (decimal k ∷ []) ++ map term_text (t ∷ ts))) (number k ∷ mark plus_sign ∷ (term_tokens one.tree ++ more_term_tokens rest.trees))) (sym is)
      (reads_both (decimal k) _ (number k ∷ []) (mark plus_sign ∷ (term_tokens one.tree ++ more_term_tokens rest.trees)) (reads_number k (fits k hk))
      (reads_both (codes " + " ++ term_text t) _ (mark plus_sign ∷ term_tokens one.tree) (more_term_tokens rest.trees) (ends_then (codes " + ") (term_text t) (mark plus_sign ∷ []) (term_tokens one.tree) plus_between one.reads) rest.reads (terms_break ts))
      (terms_break (t ∷ ts)));
  flat = nests_both 0 (number k ∷ mark plus_sign ∷ []) (term_tokens one.tree ++ more_term_tokens rest.trees) (nests_flat 0 (number k ∷ mark plus_sign ∷ []) refl) (nests_both 0 (term_tokens one.tree) (more_term_tokens rest.trees) one.flat rest.flat);
}

record PrintedForm (f : VirtualForm) : Type 0 where
  tree : FormTree
  means : form_of tree ≡ f
  reads : Reads (form_text f) (form_tokens tree)
  nests : Nests 1 (form_tokens tree)

three : (a b c : Bool) → (a && b && c) ≡ true → (a ≡ true) × (b ≡ true) × (c ≡ true)
three a b c h = let p : ((a && b) ≡ true) × (c ≡ true) = both (a && b) c h in let q : (a ≡ true) × (b ≡ true) = both a b p.0 in (q.0, q.1, p.1)

four : (a b c d : Bool) → (a && b && c && d) ≡ true → (a ≡ true) × (b ≡ true) × (c ≡ true) × (d ≡ true)
four a b c d h = let p : ((a && b && c) ≡ true) × (d ≡ true) = both (a && b && c) d h in let q : (a ≡ true) × (b ≡ true) × (c ≡ true) = three a b c p.0 in (q.0, q.1, q.2, p.1)

-- a word and a tuple
nests_call : (t : Token) (inner : List Token) → is_flat (t ∷ []) ≡ true → Nests 0 inner → Nests 1 (t ∷ mark open_paren ∷ inner ++ mark close_paren ∷ [])
nests_call t inner h x = nests_both 1 (t ∷ []) (mark open_paren ∷ inner ++ mark close_paren ∷ []) (nests_flat 1 (t ∷ []) h) (nests_parens 0 inner x)

printed_linear : (k : ℕ) (ts : List Term) → is_number k ≡ true → is_some_list ts ≡ true → list_all is_valid_term ts ≡ true → PrintedForm (form.Linear k ts)
printed_linear k [] hk some all = absurd (cc)
printed_linear k (t ∷ ts) hk some all =
    let p : (is_valid_term t ≡ true) × (list_all is_valid_term ts ≡ true) = both (is_valid_term t) (list_all is_valid_term ts) all in
    let l = linear_at k t ts (k == 0) refl hk (printed_term t p.0) (printed_terms ts p.1) in
    let inner : List Token = constant_tokens l.constant ++ (term_tokens l.first ++ more_term_tokens l.more) in
    record {
      tree = linear_form l.constant l.first l.more;
      means = ap (λ n. form.Linear n (map term_of (l.first ∷ l.more))) l.constant_means ∙ ap (form.Linear k) l.means;
      reads = reads_of _ _ (reads_end (codes "linear(" ++ joined (codes " + ") (constant_texts k ++ map term_text (t ∷ ts))) (codes ")") (reserved (codes "linear") ∷ mark open_paren ∷ inner) (mark close_paren ∷ [])
          (ends_then (codes "linear(") _ (reserved (codes "linear") ∷ mark open_paren ∷ []) inner linear_open l.reads) closes (λ rest. refl));
      nests = nests_call (reserved (codes "linear")) inner refl l.flat;
    }

printed_form : (f : VirtualForm) → is_valid_form f ≡ true → PrintedForm f
printed_form (form.Shl c b o) h = let p = three (is_name c) (is_number b) (is_number o) h in
    record { tree = shl_form c b o; means = refl; nests = nests_call (reserved (codes "shl")) (name c ∷ mark comma ∷ number b ∷ mark comma ∷ number o ∷ []) refl (nests_flat 0 _ refl); reads = reads_shift (codes "shl") c b o (reserved (codes "shl")) (reads_word 115 (104 ∷ 108 ∷ []) refl refl) p.0 p.1 p.2 }
printed_form (form.Shr c b o) h = let p = three (is_name c) (is_number b) (is_number o) h in
    record { tree = shr_form c b o; means = refl; nests = nests_call (reserved (codes "shr")) (name c ∷ mark comma ∷ number b ∷ mark comma ∷ number o ∷ []) refl (nests_flat 0 _ refl); reads = reads_shift (codes "shr") c b o (reserved (codes "shr")) (reads_word 115 (104 ∷ 114 ∷ []) refl refl) p.0 p.1 p.2 }
printed_form (form.Rol c b o) h = let p = three (is_name c) (is_number b) (is_number o) h in
    record { tree = rol_form c b o; means = refl; nests = nests_call (reserved (codes "rol")) (name c ∷ mark comma ∷ number b ∷ mark comma ∷ number o ∷ []) refl (nests_flat 0 _ refl); reads = reads_shift (codes "rol") c b o (reserved (codes "rol")) (reads_word 114 (111 ∷ 108 ∷ []) refl refl) p.0 p.1 p.2 }
printed_form (form.Project c k j) h = let p = three (is_name c) (is_number k) (is_number j) h in
    record { tree = project_form c k j; means = refl; nests = nests_call (reserved (codes "project")) (name c ∷ mark comma ∷ number k ∷ mark comma ∷ number j ∷ []) refl (nests_flat 0 _ refl); reads = reads_shift (codes "project") c k j (reserved (codes "project")) (reads_word 112 (114 ∷ 111 ∷ 106 ∷ 101 ∷ 99 ∷ 116 ∷ []) refl refl) p.0 p.1 p.2 }
printed_form (form.Pack c k) h =
    let p : (is_name c ≡ true) × (is_number k ≡ true) = both (is_name c) (is_number k) h in
    let a = named (codes "pack(") c (codes ", ") (reserved (codes "pack") ∷ mark open_paren ∷ []) (mark comma ∷ []) (name c) pack_open (reads_name c p.0) comma_between (λ rest. refl) in
    record {
      tree = pack_form c k;
      means = refl;
      reads = reads_of _ _ (named ((codes "pack(" ++ c) ++ codes ", ") (decimal k) (codes ")") (reserved (codes "pack") ∷ mark open_paren ∷ name c ∷ mark comma ∷ []) (mark close_paren ∷ []) (number k) a (reads_number k (fits k p.1)) closes (λ rest. refl));
      nests = nests_call (reserved (codes "pack")) (name c ∷ mark comma ∷ number k ∷ []) refl (nests_flat 0 _ refl);
    }
printed_form (form.Linear k ts) h = let p = three (is_number k) (is_some_list ts) (list_all is_valid_term ts) h in printed_linear k ts p.0 p.1 p.2

-- ---- tuples

names_break : (ws : List (List ℕ)) (rest : List ℕ) → breaks rest ≡ true → breaks (flat_map (λ u. codes ", " ++ u) ws ++ rest) ≡ true
names_break [] rest h = h
names_break (w ∷ ws) rest h = refl

reads_names : (ws : List (List ℕ)) → list_all is_name ws ≡ true → Reads (flat_map (λ u. codes ", " ++ u) ws) (more_name_tokens ws)
reads_names [] h = reads_none
reads_names (w ∷ ws) h =
    let p : (is_name w ≡ true) × (list_all is_name ws ≡ true) = both (is_name w) (list_all is_name ws) h in
    reads_both (codes ", " ++ w) _ (mark comma ∷ name w ∷ []) (more_name_tokens ws) (ends_then (codes ", ") w (mark comma ∷ []) (name w ∷ []) comma_between (reads_name w p.0)) (reads_names ws p.1) (names_break ws)

reads_numbers : (ns : List ℕ) → list_all is_number ns ≡ true → Reads (flat_map (λ u. codes ", " ++ u) (map decimal ns)) (more_number_tokens ns)
reads_numbers [] h = reads_none
reads_numbers (n ∷ ns) h =
    let p : (is_number n ≡ true) × (list_all is_number ns ≡ true) = both (is_number n) (list_all is_number ns) h in
    reads_both (codes ", " ++ decimal n) _ (mark comma ∷ number n ∷ []) (more_number_tokens ns) (ends_then (codes ", ") (decimal n) (mark comma ∷ []) (number n ∷ []) comma_between (reads_number n (fits n p.0))) (reads_numbers ns p.1) (names_break (map decimal ns))

tuple_ends : (text : List ℕ) (tokens : List Token) → Reads text tokens → Ends (codes "(" ++ text ++ codes ")") (mark open_paren ∷ tokens ++ mark close_paren ∷ [])
tuple_ends text tokens r = reads_end (codes "(" ++ text) (codes ")") (mark open_paren ∷ tokens) (mark close_paren ∷ []) (ends_then (codes "(") text (mark open_paren ∷ []) tokens opens r) closes (λ rest. refl)

-- ---- items

record PrintedItem (i : Item) : Type 0 where
  tree : ItemTree
  means : item_of tree ≡ i
  reads : Ends (item_line i) (item_tokens tree)
  nests : Nests max_open (item_tokens tree)

-- a line of these tokens
item_ends : (i : Item) (tree : ItemTree) (body : List Token) → item_tokens tree ≡ body ++ mark semicolon ∷ [] → Reads (item_text i) body → Ends (item_line i) (item_tokens tree)
item_ends i tree body is r = subst (Ends (item_line i)) (sym is) (reads_end (codes "  " ++ item_text i) (codes ";\n") body (mark semicolon ∷ []) (ends_then (codes "  ") (item_text i) [] body indent r) line_end (λ rest. refl))

column_ends : (w : List ℕ) (level : ℕ) → is_name w ≡ true → level ≤ 7 → Reads (codes "column " ++ w ++ codes " : " ++ type_word level) (reserved (codes "column") ∷ name w ∷ mark colon ∷ name (type_word level) ∷ [])
column_ends w level hw hl = ends_then ((codes "column " ++ w) ++ codes " : ") (type_word level) (reserved (codes "column") ∷ name w ∷ mark colon ∷ []) (name (type_word level) ∷ [])
    (named (codes "column ") w (codes " : ") (reserved (codes "column") ∷ []) (mark colon ∷ []) (name w) column_word (reads_name w hw) colon_sign (λ rest. refl)) (reads_type level hl)

printed_column : (w : List ℕ) (level v : ℕ) → is_name w ≡ true → level ≤ 7 → v ≤ 7 → PrintedItem (item.Column w level v)
printed_column w level zero hw hl hv =
    let front : List ℕ = codes "column " ++ w ++ codes " : " ++ type_word level in
    let body : List Token = reserved (codes "column") ∷ name w ∷ mark colon ∷ name (type_word level) ∷ [] in
    record {
      tree = column_item w (one_value level hl);
      means = refl;
      reads = item_ends (item.Column w level 0) (column_item w (one_value level hl)) body refl (subst (λ (t : List ℕ). Reads t body) (sym (append-nil front)) (column_ends w level hw hl));
      nests = nests_flat max_open (item_tokens (column_item w (one_value level hl))) refl;
    }
printed_column w level (suc v) hw hl hv =
    let front : List ℕ = codes "column " ++ w ++ codes " : " ++ type_word level in
    let body : List Token = reserved (codes "column") ∷ name w ∷ mark colon ∷ name (type_word level) ∷ [] in
    let behind : List Token = reserved (codes "x") ∷ number (2 ^ suc v) ∷ [] in
    let values : Reads (codes " x " ++ decimal (2 ^ suc v)) behind = ends_then (codes " x ") (decimal (2 ^ suc v)) (reserved (codes "x") ∷ []) (number (2 ^ suc v) ∷ []) x_word (reads_number (2 ^ suc v) (power_fits (suc v) hv)) in
    let all : Reads (front ++ (codes " x " ++ decimal (2 ^ suc v))) (body ++ behind) = reads_both front _ body behind (column_ends w level hw hl) values (λ rest h. refl) in
    record {
      tree = column_item w (several_values level (suc v) hl hv);
      means = refl;
      reads = item_ends (item.Column w level (suc v)) (column_item w (several_values level (suc v) hl hv)) (body ++ behind) refl
          (subst (λ b. Reads (front ++ cond b [] (codes " x " ++ decimal (2 ^ suc v))) (body ++ behind)) (sym (eqb-suc-zero v)) all);
      nests = nests_flat max_open (item_tokens (column_item w (several_values level (suc v) hl hv))) refl;
    }

-- a head, what is behind it and a mark
nests_item : (head inner : List Token) (k : ℕ) → is_flat head ≡ true → k ≤ max_open → Nests k inner → Nests max_open ((head ++ inner) ++ mark semicolon ∷ [])
nests_item head inner k h le x = nests_both max_open (head ++ inner) (mark semicolon ∷ []) (nests_both max_open head inner (nests_flat max_open head h) (nests_more k max_open inner le x)) (nests_flat max_open (mark semicolon ∷ []) refl)

printed_virtual : (w : List ℕ) (f : VirtualForm) → is_name w ≡ true → PrintedForm f → PrintedItem (item.Virtual w f)
printed_virtual w f hw p =
    let body : List Token = reserved (codes "virtual") ∷ name w ∷ mark equals_sign ∷ form_tokens p.tree in
    record {
      tree = virtual_item w p.tree;
      means = ap (item.Virtual w) p.means;
      reads = item_ends (item.Virtual w f) (virtual_item w p.tree) body refl (ends_then ((codes "virtual " ++ w) ++ codes " = ") (form_text f) (reserved (codes "virtual") ∷ name w ∷ mark equals_sign ∷ []) (form_tokens p.tree)
          (named (codes "virtual ") w (codes " = ") (reserved (codes "virtual") ∷ []) (mark equals_sign ∷ []) (name w) virtual_word (reads_name w hw) equals (λ rest. refl)) p.reads);
      nests = nests_item (reserved (codes "virtual") ∷ name w ∷ mark equals_sign ∷ []) (form_tokens p.tree) 1 refl (lit≤ tt) p.nests;
    }

printed_zero : (w : List ℕ) (e : Expr) → is_name w ≡ true → depth e Alone ≤ max_open → Printed e → PrintedItem (item.Zero w e)
printed_zero w e hw shallow p =
    let body : List Token = reserved (codes "zero") ∷ name w ∷ mark colon ∷ sum_tokens p.alone in
    record {
      tree = zero_item w p.alone;
      means = ap (item.Zero w) p.alone_means;
      reads = item_ends (item.Zero w e) (zero_item w p.alone) body refl (ends_then ((codes "zero " ++ w) ++ codes " : ") (expr_text e Alone) (reserved (codes "zero") ∷ name w ∷ mark colon ∷ []) (sum_tokens p.alone)
          (named (codes "zero ") w (codes " : ") (reserved (codes "zero") ∷ []) (mark colon ∷ []) (name w) zero_word (reads_name w hw) colon_sign (λ rest. refl)) p.alone_reads);
      nests = nests_item (reserved (codes "zero") ∷ name w ∷ mark colon ∷ []) (sum_tokens p.alone) (depth e Alone) refl shallow p.alone_nests;
    }

selector_breaks : (s : Option (List ℕ)) (rest : List ℕ) → breaks rest ≡ true → breaks (selector_text s ++ rest) ≡ true
selector_breaks None rest h = h
selector_breaks (Some s) rest h = refl

reads_selector : (s : Option (List ℕ)) → is_selector s ≡ true → Reads (selector_text s) (selector_tokens s)
reads_selector None h = reads_none
reads_selector (Some s) h = ends_then (codes " if ") s (reserved (codes "if") ∷ []) (name s ∷ []) if_word (reads_name s h)

nests_names : (ws : List (List ℕ)) → Nests 0 (more_name_tokens ws)
nests_names [] = nests_none 0
nests_names (w ∷ ws) = nests_both 0 (mark comma ∷ name w ∷ []) (more_name_tokens ws) (nests_flat 0 (mark comma ∷ name w ∷ []) refl) (nests_names ws)

nests_numbers : (ns : List ℕ) → Nests 0 (more_number_tokens ns)
nests_numbers [] = nests_none 0
nests_numbers (n ∷ ns) = nests_both 0 (mark comma ∷ number n ∷ []) (more_number_tokens ns) (nests_flat 0 (mark comma ∷ number n ∷ []) refl) (nests_numbers ns)

nests_selector : (s : Option (List ℕ)) → Nests max_open (selector_tokens s)
nests_selector None = nests_none max_open
nests_selector (Some s) = nests_flat max_open (reserved (codes "if") ∷ name s ∷ []) refl

printed_flush : (side : Side) (c : List ℕ) (ws : List (List ℕ)) (s : Option (List ℕ)) → is_name c ≡ true → is_some_list ws ≡ true → list_all is_name ws ≡ true → is_selector s ≡ true → PrintedItem (item.Flush side c ws s)
printed_flush side c [] s hc some all hs = absurd (cc)
printed_flush side c (w ∷ ws) s hc some all hs =
    let p : (is_name w ≡ true) × (list_all is_name ws ≡ true) = both (is_name w) (list_all is_name ws) all in
    let members : Reads (joined (codes ", ") (w ∷ ws)) (name w ∷ more_name_tokens ws) = reads_both w _ (name w ∷ []) (more_name_tokens ws) (reads_name w p.0) (reads_names ws p.1) (names_break ws) in
    let head : Ends (side_word side ++ codes " ") (reserved (side_word side) ∷ []) = reads_end (side_word side) (codes " ") (reserved (side_word side) ∷ []) [] (reads_side side) space (λ rest. refl) in
    let channel = named (side_word side ++ codes " ") c (codes " ") (reserved (side_word side) ∷ []) [] (name c) head (reads_name c hc) space (λ rest. refl) in
    let columns : Ends (tuple (w ∷ ws)) (mark open_paren ∷ (name w ∷ more_name_tokens ws) ++ mark close_paren ∷ []) = tuple_ends (joined (codes ", ") (w ∷ ws)) (name w ∷ more_name_tokens ws) members in
    let front = ends_both (((side_word side ++ codes " ") ++ c) ++ codes " ") (tuple (w ∷ ws)) (reserved (side_word side) ∷ name c ∷ []) (mark open_paren ∷ (name w ∷ more_name_tokens ws) ++ mark close_paren ∷ []) channel columns in
    let body : List Token = (reserved (side_word side) ∷ name c ∷ []) ++ (mark open_paren ∷ (name w ∷ more_name_tokens ws) ++ mark close_paren ∷ []) ++ selector_tokens s in
    let same : item_tokens (flush_item side c w ws s) ≡ body ++ mark semicolon ∷ [] = simp append_assoc refl in
    record {
      tree = flush_item side c w ws s;
      means = refl;
      reads = item_ends (item.Flush side c (w ∷ ws) s) (flush_item side c w ws s) body same (ends_then _ (selector_text s) ((reserved (side_word side) ∷ name c ∷ []) ++ (mark open_paren ∷ (name w ∷ more_name_tokens ws) ++ mark close_paren ∷ [])) (selector_tokens s) front (reads_selector s hs));
      nests = subst (Nests max_open) (sym same) (nests_both max_open body (mark semicolon ∷ [])
          (nests_both max_open ((reserved (side_word side) ∷ name c ∷ []) ++ (mark open_paren ∷ (name w ∷ more_name_tokens ws) ++ mark close_paren ∷ [])) (selector_tokens s)
          (nests_both max_open (reserved (side_word side) ∷ name c ∷ []) (mark open_paren ∷ (name w ∷ more_name_tokens ws) ++ mark close_paren ∷ []) (nests_flat max_open (reserved (side_word side) ∷ name c ∷ []) refl)
          (nests_more 1 max_open _ (lit≤ tt) (nests_parens 0 (name w ∷ more_name_tokens ws) (nests_both 0 (name w ∷ []) (more_name_tokens ws) (nests_flat 0 (name w ∷ []) refl) (nests_names ws)))))
          (nests_selector s)) (nests_flat max_open (mark semicolon ∷ []) refl));
    }

printed_item : (i : Item) → is_valid_item i ≡ true → PrintedItem i
printed_item (item.Column w level v) h = let p = three (is_name w) (nat_le level max_level) (nat_le v max_log_values) h in printed_column w level v p.0 (leb-true level max_level p.1) (leb-true v max_log_values p.2)
printed_item (item.Virtual w f) h = let p : (is_name w ≡ true) × (is_valid_form f ≡ true) = both (is_name w) (is_valid_form f) h in printed_virtual w f p.0 (printed_form f p.1)
printed_item (item.Zero w e) h = let p = three (is_name w) (is_valid_expr e) (nat_le (depth e Alone) max_open) h in printed_zero w e p.0 (leb-true (depth e Alone) max_open p.2) (printed e p.1)
printed_item (item.Flush side c ws s) h = let p = four (is_name c) (is_some_list ws) (list_all is_name ws) (is_selector s) h in printed_flush side c ws s p.0 p.1 p.2 p.3

record PrintedItems (items : List Item) : Type 0 where
  trees : List ItemTree
  means : map item_of trees ≡ items
  reads : Ends (flat_map item_line items) (flat_map item_tokens trees)
  nests : Nests max_open (flat_map item_tokens trees)

printed_items : (items : List Item) → list_all is_valid_item items ≡ true → PrintedItems items
printed_items [] h = record { trees = []; means = refl; reads = ends_none; nests = nests_none max_open }
printed_items (i ∷ items) h =
    let p : (is_valid_item i ≡ true) × (list_all is_valid_item items ≡ true) = both (is_valid_item i) (list_all is_valid_item items) h in
    let one = printed_item i p.0 in
    let more = printed_items items p.1 in
    record {
      trees = one.tree ∷ more.trees;
      means = ap (λ x. x ∷ map item_of more.trees) one.means ∙ ap (λ xs. i ∷ xs) more.means;
      reads = ends_both (item_line i) (flat_map item_line items) (item_tokens one.tree) (flat_map item_tokens more.trees) one.reads more.reads;
      nests = nests_both max_open (item_tokens one.tree) (flat_map item_tokens more.trees) one.nests more.nests;
    }

-- ---- declarations

record PrintedDecl (d : Decl) : Type 0 where
  tree : DeclTree
  means : decl_of tree ≡ d
  reads : Ends (decl_text d) (decl_tokens tree)
  nests : Nests max_open (decl_tokens tree)

printed_boundary : (side : Side) (c : List ℕ) (ns : List ℕ) → is_name c ≡ true → is_some_list ns ≡ true → list_all is_number ns ≡ true → PrintedDecl (decl.Boundary side c ns)
printed_boundary side c [] hc some all = absurd (cc)
printed_boundary side c (n ∷ ns) hc some all =
    let p : (is_number n ≡ true) × (list_all is_number ns ≡ true) = both (is_number n) (list_all is_number ns) all in
    let members : Reads (joined (codes ", ") (map decimal (n ∷ ns))) (number n ∷ more_number_tokens ns) =
    reads_both (decimal n) _ (number n ∷ []) (more_number_tokens ns) (reads_number n (fits n p.0)) (reads_numbers ns p.1) (names_break (map decimal ns)) in
    let word : Reads (codes "boundary " ++ side_word side) (reserved (codes "boundary") ∷ reserved (side_word side) ∷ []) = ends_then (codes "boundary ") (side_word side) (reserved (codes "boundary") ∷ []) (reserved (side_word side) ∷ []) boundary_word (reads_side side) in
    let head : Ends ((codes "boundary " ++ side_word side) ++ codes " ") (reserved (codes "boundary") ∷ reserved (side_word side) ∷ []) = reads_end (codes "boundary " ++ side_word side) (codes " ") (reserved (codes "boundary") ∷ reserved (side_word side) ∷ []) [] word space (λ rest. refl) in
    let channel = named ((codes "boundary " ++ side_word side) ++ codes " ") c (codes " ") (reserved (codes "boundary") ∷ reserved (side_word side) ∷ []) [] (name c) head (reads_name c hc) space (λ rest. refl) in
    let values = tuple_ends (joined (codes ", ") (map decimal (n ∷ ns))) (number n ∷ more_number_tokens ns) members in
    let front = ends_both ((((codes "boundary " ++ side_word side) ++ codes " ") ++ c) ++ codes " ") (tuple (map decimal (n ∷ ns))) (reserved (codes "boundary") ∷ reserved (side_word side) ∷ name c ∷ []) (mark open_paren ∷ (number n ∷ more_number_tokens ns) ++ mark close_paren ∷ []) channel values in
    let body : List Token = (reserved (codes "boundary") ∷ reserved (side_word side) ∷ name c ∷ []) ++ (mark open_paren ∷ (number n ∷ more_number_tokens ns) ++ mark close_paren ∷ []) in
    let same : body ++ mark semicolon ∷ [] ≡ decl_tokens (boundary_tree side c n ns) = simp append_assoc refl in
    record {
      tree = boundary_tree side c n ns;
      means = refl;
      reads = subst (Ends (decl_text (decl.Boundary side c (n ∷ ns)))) same (ends_both _ (codes ";\n") body (mark semicolon ∷ []) front line_end);
      nests = subst (Nests max_open) same (nests_both max_open body (mark semicolon ∷ [])
          (nests_both max_open (reserved (codes "boundary") ∷ reserved (side_word side) ∷ name c ∷ []) (mark open_paren ∷ (number n ∷ more_number_tokens ns) ++ mark close_paren ∷ []) (nests_flat max_open (reserved (codes "boundary") ∷ reserved (side_word side) ∷ name c ∷ []) refl)
          (nests_more 1 max_open _ (lit≤ tt) (nests_parens 0 (number n ∷ more_number_tokens ns) (nests_both 0 (number n ∷ []) (more_number_tokens ns) (nests_flat 0 (number n ∷ []) refl) (nests_numbers ns)))))
          (nests_flat max_open (mark semicolon ∷ []) refl));
    }

printed_table : (w : List ℕ) (items : List Item) → is_name w ≡ true → PrintedItems items → PrintedDecl (decl.Table w items)
printed_table w items hw p =
    let head = named (codes "table ") w (codes " {\n") (reserved (codes "table") ∷ []) (mark open_brace ∷ []) (name w) table_word (reads_name w hw) table_opens (λ rest. refl) in
    let front = ends_both ((codes "table " ++ w) ++ codes " {\n") (flat_map item_line items) (reserved (codes "table") ∷ name w ∷ mark open_brace ∷ []) (flat_map item_tokens p.trees) head p.reads in
    record {
      tree = table_tree w p.trees;
      means = ap (decl.Table w) p.means;
      reads = ends_both _ (codes "}\n") (reserved (codes "table") ∷ name w ∷ mark open_brace ∷ flat_map item_tokens p.trees) (mark close_brace ∷ []) front table_closes;
      nests = nests_both max_open (reserved (codes "table") ∷ name w ∷ mark open_brace ∷ flat_map item_tokens p.trees) (mark close_brace ∷ [])
          (nests_both max_open (reserved (codes "table") ∷ name w ∷ mark open_brace ∷ []) (flat_map item_tokens p.trees) (nests_flat max_open (reserved (codes "table") ∷ name w ∷ mark open_brace ∷ []) refl) p.nests) (nests_flat max_open (mark close_brace ∷ []) refl);
    }

printed_decl : (d : Decl) → is_valid_decl d ≡ true → PrintedDecl d
printed_decl (decl.Channel w n) h =
    let p : (is_name w ≡ true) × (is_number n ≡ true) = both (is_name w) (is_number n) h in
    let head = named (codes "channel ") w (codes " : ") (reserved (codes "channel") ∷ []) (mark colon ∷ []) (name w) channel_word (reads_name w p.0) colon_sign (λ rest. refl) in
    record {
      tree = channel_tree w n;
      means = refl;
      reads = named ((codes "channel " ++ w) ++ codes " : ") (decimal n) (codes ";\n") (reserved (codes "channel") ∷ name w ∷ mark colon ∷ []) (mark semicolon ∷ []) (number n) head (reads_number n (fits n p.1)) line_end (λ rest. refl);
      nests = nests_flat max_open (decl_tokens (channel_tree w n)) refl;
    }
printed_decl (decl.Boundary side c ns) h = let p = three (is_name c) (is_some_list ns) (list_all is_number ns) h in printed_boundary side c ns p.0 p.1 p.2
printed_decl (decl.Table w items) h = let p : (is_name w ≡ true) × (list_all is_valid_item items ≡ true) = both (is_name w) (list_all is_valid_item items) h in printed_table w items p.0 (printed_items items p.1)

-- the text of valid declarations spells trees that mean them
pub record PrintedFile (decls : List Decl) : Type 0 where
  pub trees : FileTree
  pub means : map decl_of trees ≡ decls
  pub reads : Ends (canonical decls) (file_tokens trees)
  pub nests : Nests max_open (file_tokens trees)

pub printed_file : (decls : List Decl) → list_all is_valid_decl decls ≡ true → PrintedFile decls
printed_file [] h = record { trees = []; means = refl; reads = ends_none; nests = nests_none max_open }
printed_file (d ∷ decls) h =
    let p : (is_valid_decl d ≡ true) × (list_all is_valid_decl decls ≡ true) = both (is_valid_decl d) (list_all is_valid_decl decls) h in
    let one = printed_decl d p.0 in
    let more = printed_file decls p.1 in
    record {
      trees = one.tree ∷ more.trees;
      means = ap (λ x. x ∷ map decl_of more.trees) one.means ∙ ap (λ xs. d ∷ xs) more.means;
      reads = ends_both (decl_text d) (canonical decls) (decl_tokens one.tree) (file_tokens more.trees) one.reads more.reads;
      nests = nests_both max_open (decl_tokens one.tree) (file_tokens more.trees) one.nests more.nests;
    }
