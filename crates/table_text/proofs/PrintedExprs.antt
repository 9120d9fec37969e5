-- The texts of valid expressions, as trees that they spell.
use Rattle.std.proofs.Common.{◌≡◌, ℕ, suc, ◌+◌, ◌≤◌, ◌^◌, Bool, true, false, cond, ◌&&◌, List, [], ◌∷◌, ◌++◌, length, map, refl, sym, ◌∙◌, ap, subst, append_assoc, arith, ltb-true, leb-true, max, zero-add}
use Rattle.std.proofs.lemmas.List.{append-nil}
use Rattle.std.specs.Prelude.{codes, not, nat_lt, nat_le}
use Rattle.std.specs.List.{list_all, flat_map}
use Rattle.std.specs.Fmt.{decimal}
use Rattle.table_text.specs.Bytes.{open_paren, close_paren, plus_sign, times_sign, is_letter, is_word_byte}
use Rattle.table_text.specs.Lexing.{Token, name, reserved, number, mark, wrong, is_reserved, word_token}
use Rattle.table_text.specs.declared.fault.TextKind.TheVariants.{NameTooLong}
use Rattle.std.proofs.lemmas.Bool.Decides.{nat_tests}
use Rattle.table_text.specs.Limits.{max_word}
use Rattle.table_text.specs.Grammar.{Sum, first_term, plus, Product, first_factor, times, Atom, constant, column, parens, sum_tokens, product_tokens, atom_tokens, terms, factors, atom_expr, sum_of, product_of}
use Rattle.table_text.specs.Canonical.{joined, expr_text}
use Rattle.table_text.specs.Valid.{is_name, is_number, expr_step, is_valid_expr, greatest, depth}
use Rattle.table_text.specs.declared.expr.Expr.{Expr}
use Rattle.table_text.specs.declared.expr.Expr.TheVariants as expr
use Rattle.table_text.specs.declared.expr.Expr.TheOpen.{Expr-F}
use Rattle.table_text.specs.declared.expr.Expr.TheFolds.{map-Expr, fold-roll-Expr, ind-Expr}
use Rattle.table_text.specs.declared.expr.Expr.TheViews.{roll-Expr}
use Rattle.table_text.specs.declared.print.Place.TheVariants.{Alone, InSum, InProduct}
use Rattle.table_text.proofs.FromTests.{both}
use Rattle.table_text.proofs.Nesting.{Nests, nests_none, nests_both, nests_more, nests_flat, nests_parens}
use Rattle.table_text.proofs.Depths.{sum_depth, product_depth}
use Rattle.table_text.proofs.ExprTexts.{number_text, column_text, sum_text, product_text}
use Rattle.table_text.proofs.Lexes.{lexed, breaks, Reads, Ends, reads_word, reads_number, ends_then, reads_both, reads_end, reads_of, reads_none}

-- ---- names

not_true : (b : Bool) → not b ≡ true → b ≡ false
not_true true e = cc
not_true false e = refl

not_longer : (n m : ℕ) → n ≤ m → nat_lt m n ≡ false
not_longer n m h = grind (arith, nat_tests)

name_token : (w : List ℕ) → length w ≤ max_word → is_reserved w ≡ false → word_token w ≡ name w
name_token w short free =
    ap (λ v. cond v (wrong NameTooLong) (cond (is_reserved w) (reserved w) (name w))) (not_longer (length w) max_word short) ∙ ap (λ v. cond v (reserved w) (name w)) free

pub reads_name : (w : List ℕ) → is_name w ≡ true → Reads w (name w ∷ [])
reads_name [] h = absurd (cc)
reads_name (b ∷ bytes) h =
    let p : (_ ≡ true) × (_ ≡ true) = both (is_letter b && list_all is_word_byte bytes && nat_le (1 + length bytes) max_word) _ h in
    let q : (_ ≡ true) × (_ ≡ true) = both (is_letter b && list_all is_word_byte bytes) _ p.0 in
    let r : (_ ≡ true) × (_ ≡ true) = both (is_letter b) (list_all is_word_byte bytes) q.0 in
    let short : 1 + length bytes ≤ max_word = leb-true (1 + length bytes) max_word q.1 in
    let within : length (b ∷ bytes) ≤ max_word = omega arith in
    subst (λ t. Reads (b ∷ bytes) (t ∷ [])) (name_token (b ∷ bytes) within (not_true _ p.1)) (reads_word b bytes r.0 r.1)

-- ---- sums and products of lists

-- a sum with these terms more
abbrev more_terms : Sum → List Product → Sum
more_terms s [] = s
more_terms s (p ∷ ps) = more_terms (plus s p) ps

abbrev more_factors : Product → List Atom → Product
more_factors p [] = p
more_factors p (a ∷ atoms) = more_factors (times p a) atoms

abbrev plus_list : List Product → List Token
plus_list [] = []
plus_list (p ∷ ps) = mark plus_sign ∷ (product_tokens p ++ plus_list ps)

abbrev times_list : List Atom → List Token
times_list [] = []
times_list (a ∷ atoms) = mark times_sign ∷ (atom_tokens a ++ times_list atoms)

abbrev term_expr : Product → Expr
term_expr p = product_of (factors p)

more_terms-tokens : (s : Sum) (ps : List Product) → sum_tokens (more_terms s ps) ≡ sum_tokens s ++ plus_list ps
more_terms-tokens s [] = sym (append-nil (sum_tokens s))
more_terms-tokens s (p ∷ ps) = more_terms-tokens (plus s p) ps ∙ append_assoc (sum_tokens s) (mark plus_sign ∷ product_tokens p) (plus_list ps)

more_terms-terms : (s : Sum) (ps : List Product) → terms (more_terms s ps) ≡ terms s ++ map term_expr ps
more_terms-terms s [] = sym (append-nil (terms s))
more_terms-terms s (p ∷ ps) = more_terms-terms (plus s p) ps ∙ append_assoc (terms s) (term_expr p ∷ []) (map term_expr ps)

more_factors-tokens : (p : Product) (atoms : List Atom) → product_tokens (more_factors p atoms) ≡ product_tokens p ++ times_list atoms
more_factors-tokens p [] = sym (append-nil (product_tokens p))
more_factors-tokens p (a ∷ atoms) = more_factors-tokens (times p a) atoms ∙ append_assoc (product_tokens p) (mark times_sign ∷ atom_tokens a) (times_list atoms)

more_factors-factors : (p : Product) (atoms : List Atom) → factors (more_factors p atoms) ≡ factors p ++ map atom_expr atoms
more_factors-factors p [] = sym (append-nil (factors p))
more_factors-factors p (a ∷ atoms) = more_factors-factors (times p a) atoms ∙ append_assoc (factors p) (atom_expr a ∷ []) (map atom_expr atoms)

-- ---- signs

reads_plus : Ends (codes " + ") (mark plus_sign ∷ [])
unfolding lexed
reads_plus = record { on = λ rest. refl; bytes = refl }

reads_times : Ends (codes " * ") (mark times_sign ∷ [])
unfolding lexed
reads_times = record { on = λ rest. refl; bytes = refl }

reads_open : Ends (codes "(") (mark open_paren ∷ [])
unfolding lexed
reads_open = record { on = λ rest. refl; bytes = refl }

reads_close : Ends (codes ")") (mark close_paren ∷ [])
unfolding lexed
reads_close = record { on = λ rest. refl; bytes = refl }

-- ---- expressions

-- trees that mean an expression and spell its text, at each place
pub record Printed (e : Expr) : Type 0 where
  pub alone : Sum
  pub in_sum : Product
  pub in_product : Atom
  pub alone_means : sum_of (terms alone) ≡ e
  pub in_sum_means : term_expr in_sum ≡ e
  pub in_product_means : atom_expr in_product ≡ e
  pub alone_reads : Reads (expr_text e Alone) (sum_tokens alone)
  pub in_sum_reads : Reads (expr_text e InSum) (product_tokens in_sum)
  pub in_product_reads : Reads (expr_text e InProduct) (atom_tokens in_product)
  pub alone_nests : Nests (depth e Alone) (sum_tokens alone)
  pub in_sum_nests : Nests (depth e InSum) (product_tokens in_sum)
  pub in_product_nests : Nests (depth e InProduct) (atom_tokens in_product)

abbrev Printable : Expr → Type 0
Printable e = is_valid_expr e ≡ true → Printed e

abbrev Printing : Type 0
Printing = (e : Expr) × Printable e

abbrev all_valid : List Printing → Bool
all_valid ps = list_all (λ b. b) (map is_valid_expr (map (λ p. p.0) ps))

abbrev exprs : List Printing → List Expr
exprs ps = map (λ p. p.0) ps

-- the terms behind the first of a sum
record MoreTerms (es : List Expr) : Type 0 where
  trees : List Product
  means : map term_expr trees ≡ es
  reads : Reads (flat_map (λ u. codes " + " ++ u) (map (λ part. expr_text part InSum) es)) (plus_list trees)
  nests : Nests (greatest (map (λ part. depth part InSum) es)) (plus_list trees)

record MoreFactors (es : List Expr) : Type 0 where
  trees : List Atom
  means : map atom_expr trees ≡ es
  reads : Reads (flat_map (λ u. codes " * " ++ u) (map (λ part. expr_text part InProduct) es)) (times_list trees)
  nests : Nests (greatest (map (λ part. depth part InProduct) es)) (times_list trees)

-- what begins with a blank, or is empty, ends a word
sum_breaks : (es : List Expr) (rest : List ℕ) → breaks rest ≡ true → breaks (flat_map (λ u. codes " + " ++ u) (map (λ part. expr_text part InSum) es) ++ rest) ≡ true
sum_breaks [] rest h = h
sum_breaks (e ∷ es) rest h = refl

product_breaks : (es : List Expr) (rest : List ℕ) → breaks rest ≡ true → breaks (flat_map (λ u. codes " * " ++ u) (map (λ part. expr_text part InProduct) es) ++ rest) ≡ true
product_breaks [] rest h = h
product_breaks (e ∷ es) rest h = refl

-- tokens as deep as the deeper of two parts
both_nest : (xs ys : List Token) (k m : ℕ) → Nests k xs → Nests m ys → Nests (max k m) (xs ++ ys)
both_nest xs ys k m x y = nests_both (max k m) xs ys (nests_more k (max k m) xs (omega arith) x) (nests_more m (max k m) ys (omega arith) y)

more_terms_of : (ps : List Printing) → all_valid ps ≡ true → MoreTerms (exprs ps)
more_terms_of [] h = record { trees = []; means = refl; reads = reads_none; nests = nests_none 0 }
more_terms_of (p ∷ ps) h =
    let q : (is_valid_expr p.0 ≡ true) × (all_valid ps ≡ true) = both (is_valid_expr p.0) (all_valid ps) h in
    let t = p.1 q.0 in
    let m = more_terms_of ps q.1 in
    let rest : List ℕ = flat_map (λ u. codes " + " ++ u) (map (λ part. expr_text part InSum) (exprs ps)) in
    record {
      trees = t.in_sum ∷ m.trees;
      means = ap (λ e. e ∷ map term_expr m.trees) t.in_sum_means ∙ ap (λ es. p.0 ∷ es) m.means;
      reads = reads_both (codes " + " ++ expr_text p.0 InSum) rest (mark plus_sign ∷ product_tokens t.in_sum) (plus_list m.trees)
          (ends_then (codes " + ") (expr_text p.0 InSum) (mark plus_sign ∷ []) (product_tokens t.in_sum) reads_plus t.in_sum_reads) m.reads (sum_breaks (exprs ps));
      nests = both_nest (mark plus_sign ∷ product_tokens t.in_sum) (plus_list m.trees) (depth p.0 InSum) (greatest (map (λ part. depth part InSum) (exprs ps)))
          (nests_both (depth p.0 InSum) (mark plus_sign ∷ []) (product_tokens t.in_sum) (nests_flat (depth p.0 InSum) (mark plus_sign ∷ []) refl) t.in_sum_nests) m.nests;
    }

more_factors_of : (ps : List Printing) → all_valid ps ≡ true → MoreFactors (exprs ps)
more_factors_of [] h = record { trees = []; means = refl; reads = reads_none; nests = nests_none 0 }
more_factors_of (p ∷ ps) h =
    let q : (is_valid_expr p.0 ≡ true) × (all_valid ps ≡ true) = both (is_valid_expr p.0) (all_valid ps) h in
    let t = p.1 q.0 in
    let m = more_factors_of ps q.1 in
    let rest : List ℕ = flat_map (λ u. codes " * " ++ u) (map (λ part. expr_text part InProduct) (exprs ps)) in
    record {
      trees = t.in_product ∷ m.trees;
      means = ap (λ e. e ∷ map atom_expr m.trees) t.in_product_means ∙ ap (λ es. p.0 ∷ es) m.means;
      reads = reads_both (codes " * " ++ expr_text p.0 InProduct) rest (mark times_sign ∷ atom_tokens t.in_product) (times_list m.trees)
          (ends_then (codes " * ") (expr_text p.0 InProduct) (mark times_sign ∷ []) (atom_tokens t.in_product) reads_times t.in_product_reads) m.reads (product_breaks (exprs ps));
      nests = both_nest (mark times_sign ∷ atom_tokens t.in_product) (times_list m.trees) (depth p.0 InProduct) (greatest (map (λ part. depth part InProduct) (exprs ps)))
          (nests_both (depth p.0 InProduct) (mark times_sign ∷ []) (atom_tokens t.in_product) (nests_flat (depth p.0 InProduct) (mark times_sign ∷ []) refl) t.in_product_nests) m.nests;
    }

-- in parentheses
reads_parens : (text : List ℕ) (s : Sum) → Reads text (sum_tokens s) → Reads (codes "(" ++ text ++ codes ")") (atom_tokens (parens s))
reads_parens text s r = reads_of _ _ (reads_end (codes "(" ++ text) (codes ")") (mark open_paren ∷ sum_tokens s) (mark close_paren ∷ []) (ends_then (codes "(") text (mark open_paren ∷ []) (sum_tokens s) reads_open r) reads_close (λ rest. refl))

-- a number and a column
printed_number : (n : ℕ) → is_number n ≡ true → Printed (expr.Number n)
printed_number n h =
    let r : Reads (decimal n) (number n ∷ []) = reads_number n (ltb-true n (2 ^ 128) h) in
    record {
      alone = first_term (first_factor (constant n));
      in_sum = first_factor (constant n);
      in_product = constant n;
      alone_means = refl;
      in_sum_means = refl;
      in_product_means = refl;
      alone_reads = subst (λ (t : List ℕ). Reads t (number n ∷ [])) (sym (number_text n Alone)) r;
      in_sum_reads = subst (λ (t : List ℕ). Reads t (number n ∷ [])) (sym (number_text n InSum)) r;
      in_product_reads = subst (λ (t : List ℕ). Reads t (number n ∷ [])) (sym (number_text n InProduct)) r;
      alone_nests = nests_flat _ (number n ∷ []) refl;
      in_sum_nests = nests_flat _ (number n ∷ []) refl;
      in_product_nests = nests_flat _ (number n ∷ []) refl;
    }

printed_column : (w : List ℕ) → is_name w ≡ true → Printed (expr.Column w)
printed_column w h =
    let r : Reads w (name w ∷ []) = reads_name w h in
    record {
      alone = first_term (first_factor (column w));
      in_sum = first_factor (column w);
      in_product = column w;
      alone_means = refl;
      in_sum_means = refl;
      in_product_means = refl;
      alone_reads = subst (λ (t : List ℕ). Reads t (name w ∷ [])) (sym (column_text w Alone)) r;
      in_sum_reads = subst (λ (t : List ℕ). Reads t (name w ∷ [])) (sym (column_text w InSum)) r;
      in_product_reads = subst (λ (t : List ℕ). Reads t (name w ∷ [])) (sym (column_text w InProduct)) r;
      alone_nests = nests_flat _ (name w ∷ []) refl;
      in_sum_nests = nests_flat _ (name w ∷ []) refl;
      in_product_nests = nests_flat _ (name w ∷ []) refl;
    }

printed_sum : (p q : Printing) (ps : List Printing) → all_valid (p ∷ q ∷ ps) ≡ true → Printed (expr.Sum (exprs (p ∷ q ∷ ps)))
printed_sum p q ps h =
    let v : (is_valid_expr p.0 ≡ true) × (all_valid (q ∷ ps) ≡ true) = both (is_valid_expr p.0) (all_valid (q ∷ ps)) h in
    let t = p.1 v.0 in
    let m = more_terms_of (q ∷ ps) v.1 in
    let es : List Expr = exprs (p ∷ q ∷ ps) in
    let s : Sum = more_terms (first_term t.in_sum) m.trees in
    let parts : terms s ≡ es = more_terms-terms (first_term t.in_sum) m.trees ∙ ap (λ e. e ∷ map term_expr m.trees) t.in_sum_means ∙ ap (λ xs. p.0 ∷ xs) m.means in
    let means : sum_of (terms s) ≡ expr.Sum es = ap sum_of parts in
    let text : List ℕ = joined (codes " + ") (map (λ part. expr_text part InSum) es) in
    let reads : Reads text (sum_tokens s) = subst (Reads text) (sym (more_terms-tokens (first_term t.in_sum) m.trees)) (reads_both (expr_text p.0 InSum) _ (product_tokens t.in_sum) (plus_list m.trees) t.in_sum_reads m.reads (sum_breaks (exprs (q ∷ ps)))) in
    let inside : Reads (codes "(" ++ text ++ codes ")") (atom_tokens (parens s)) = reads_parens text s reads in
    let deepest : ℕ = greatest (map (λ part. depth part InSum) es) in
    let one_more : 1 + deepest ≡ suc deepest = omega arith in
    let nests : Nests deepest (sum_tokens s) = subst (Nests deepest) (sym (more_terms-tokens (first_term t.in_sum) m.trees)) (both_nest (product_tokens t.in_sum) (plus_list m.trees) _ _ t.in_sum_nests m.nests) in
    record {
      alone = s;
      in_sum = first_factor (parens s);
      in_product = parens s;
      alone_means = means;
      in_sum_means = means;
      in_product_means = means;
      alone_reads = subst (λ (t : List ℕ). Reads t (sum_tokens s)) (sym (sum_text es Alone)) reads;
      in_sum_reads = subst (λ (t : List ℕ). Reads t (atom_tokens (parens s))) (sym (sum_text es InSum)) inside;
      in_product_reads = subst (λ (t : List ℕ). Reads t (atom_tokens (parens s))) (sym (sum_text es InProduct)) inside;
      alone_nests = subst (λ k. Nests k (sum_tokens s)) (sym (sum_depth es Alone ∙ zero-add deepest)) nests;
      in_sum_nests = subst (λ k. Nests k (atom_tokens (parens s))) (sym (sum_depth es InSum ∙ one_more)) (nests_parens deepest (sum_tokens s) nests);
      in_product_nests = subst (λ k. Nests k (atom_tokens (parens s))) (sym (sum_depth es InProduct ∙ one_more)) (nests_parens deepest (sum_tokens s) nests);
    }

printed_product : (p q : Printing) (ps : List Printing) → all_valid (p ∷ q ∷ ps) ≡ true → Printed (expr.Product (exprs (p ∷ q ∷ ps)))
printed_product p q ps h =
    let v : (is_valid_expr p.0 ≡ true) × (all_valid (q ∷ ps) ≡ true) = both (is_valid_expr p.0) (all_valid (q ∷ ps)) h in
    let t = p.1 v.0 in
    let m = more_factors_of (q ∷ ps) v.1 in
    let es : List Expr = exprs (p ∷ q ∷ ps) in
    let r : Product = more_factors (first_factor t.in_product) m.trees in
    let parts : factors r ≡ es = more_factors-factors (first_factor t.in_product) m.trees ∙ ap (λ e. e ∷ map atom_expr m.trees) t.in_product_means ∙ ap (λ xs. p.0 ∷ xs) m.means in
    let means : product_of (factors r) ≡ expr.Product es = ap product_of parts in
    let text : List ℕ = joined (codes " * ") (map (λ part. expr_text part InProduct) es) in
    let reads : Reads text (product_tokens r) =
    subst (Reads text) (sym (more_factors-tokens (first_factor t.in_product) m.trees)) (reads_both (expr_text p.0 InProduct) _ (atom_tokens t.in_product) (times_list m.trees) t.in_product_reads m.reads (product_breaks (exprs (q ∷ ps)))) in
    let deepest : ℕ = greatest (map (λ part. depth part InProduct) es) in
    let one_more : 1 + deepest ≡ suc deepest = omega arith in
    let nests : Nests deepest (product_tokens r) = subst (Nests deepest) (sym (more_factors-tokens (first_factor t.in_product) m.trees)) (both_nest (atom_tokens t.in_product) (times_list m.trees) _ _ t.in_product_nests m.nests) in
    record {
      alone = first_term r;
      in_sum = r;
      in_product = parens (first_term r);
      alone_means = means;
      in_sum_means = means;
      in_product_means = means;
      alone_reads = subst (λ (t : List ℕ). Reads t (product_tokens r)) (sym (product_text es Alone)) reads;
      in_sum_reads = subst (λ (t : List ℕ). Reads t (product_tokens r)) (sym (product_text es InSum)) reads;
      in_product_reads = subst (λ (t : List ℕ). Reads t (atom_tokens (parens (first_term r)))) (sym (product_text es InProduct)) (reads_parens text (first_term r) reads);
      alone_nests = subst (λ k. Nests k (product_tokens r)) (sym (product_depth es Alone ∙ zero-add deepest)) nests;
      in_sum_nests = subst (λ k. Nests k (product_tokens r)) (sym (product_depth es InSum ∙ zero-add deepest)) nests;
      in_product_nests = subst (λ k. Nests k (atom_tokens (parens (first_term r)))) (sym (product_depth es InProduct ∙ one_more)) (nests_parens deepest (product_tokens r) nests);
    }

-- two parts at least
one_part : (p : Printing) (rest : Bool) → (nat_le 2 (length (map is_valid_expr (exprs (p ∷ [])))) && rest) ≡ true → ⊥
one_part p rest h = cc

layer : (y : Expr-F Printing) → expr_step (map-Expr Expr Bool is_valid_expr (map-Expr Printing Expr (λ p. p.0) y)) ≡ true → Printed (roll-Expr (map-Expr Printing Expr (λ p. p.0) y))
layer (Expr-F.Number n) h = subst Printed (sym (expr.rolls-Number n)) (printed_number n h)
layer (Expr-F.Column w) h = subst Printed (sym (expr.rolls-Column w)) (printed_column w h)
layer (Expr-F.Sum []) h = absurd (cc)
layer (Expr-F.Sum (p ∷ [])) h = absurd (one_part p (all_valid (p ∷ [])) h)
layer (Expr-F.Sum (p ∷ q ∷ ps)) h = subst Printed (sym (expr.rolls-Sum (exprs (p ∷ q ∷ ps)))) (printed_sum p q ps (both _ (all_valid (p ∷ q ∷ ps)) h).1)
layer (Expr-F.Product []) h = absurd (cc)
layer (Expr-F.Product (p ∷ [])) h = absurd (one_part p (all_valid (p ∷ [])) h)
layer (Expr-F.Product (p ∷ q ∷ ps)) h = subst Printed (sym (expr.rolls-Product (exprs (p ∷ q ∷ ps)))) (printed_product p q ps (both _ (all_valid (p ∷ q ∷ ps)) h).1)

pub printed : (e : Expr) → Printable e
printed = ind-Expr Printable (λ x y is h.
    let here : expr_step (map-Expr Expr Bool is_valid_expr x) ≡ true = sym (fold-roll-Expr Bool expr_step x) ∙ h in
    subst (λ (z : Expr-F Expr). Printed (roll-Expr z)) is (layer y (subst (λ (z : Expr-F Expr). expr_step (map-Expr Expr Bool is_valid_expr z) ≡ true) (sym is) here)))
