-- The expressions of a text are valid.
use Rattle.std.proofs.Common.{◌≡◌, ℕ, ◌+◌, ◌≤◌, ◌<◌, Bool, true, cond, ◌&&◌, List, [], ◌∷◌, ◌++◌, length, map, refl, sym, ◌∙◌, ap, subst, append_assoc, length-append, zero-add, arith}
use Rattle.std.proofs.lemmas.List.{append-nil}
use Rattle.std.proofs.lemmas.Bool.Decides.{nat_tests}
use Rattle.std.proofs.lemmas.List.Sums.{sum_by-append}
use Rattle.std.specs.Prelude.{nat_le, count_by}
use Rattle.std.specs.List.{list_all}
use Rattle.table_text.specs.Bytes.{open_paren, close_paren, plus_sign, times_sign}
use Rattle.table_text.specs.Lexing.{Token, name, number, mark}
use Rattle.table_text.specs.Limits.{max_open}
use Rattle.table_text.specs.Faults.{is_mark_of, open_after}
use Rattle.table_text.specs.Grammar.{Sum, first_term, plus, Product, first_factor, times, Atom, constant, column, parens, sum_tokens, product_tokens, atom_tokens, terms, factors, atom_expr, sum_of, product_of}
use Rattle.table_text.specs.Valid.{expr_step, is_valid_expr, greatest, depth}
use Rattle.table_text.specs.declared.expr.Expr.{Expr}
use Rattle.table_text.specs.declared.expr.Expr.TheVariants as expr
use Rattle.table_text.specs.declared.expr.Expr.TheOpen.{Expr-F}
use Rattle.table_text.specs.declared.expr.Expr.TheFolds.{fold-roll-Expr, ind-Expr}
use Rattle.table_text.specs.declared.print.Place.{Place}
use Rattle.table_text.specs.declared.print.Place.TheVariants.{Alone, InSum, InProduct}
use Rattle.table_text.proofs.FromTests.{both}
use Rattle.table_text.specs.declared.expr.Expr.TheViews.{roll-Expr}
use Rattle.table_text.proofs.Nesting.{Open, open_is, is_flat, is_wrong, flat_first}
use Rattle.table_text.proofs.Proper.{is_proper, Proper, all_split, all_joined}
use Rattle.table_text.proofs.Depths.{number_depth, column_depth, sum_depth, product_depth}

-- ---- parts

number_valid : (n : ℕ) → is_valid_expr (expr.Number n) ≡ expr_step (Expr-F.Number n)
number_valid n = ap is_valid_expr (sym (expr.rolls-Number n)) ∙ fold-roll-Expr Bool expr_step (Expr-F.Number n)

column_valid : (w : List ℕ) → is_valid_expr (expr.Column w) ≡ expr_step (Expr-F.Column w)
column_valid w = ap is_valid_expr (sym (expr.rolls-Column w)) ∙ fold-roll-Expr Bool expr_step (Expr-F.Column w)

pub sum_valid : (es : List Expr) → is_valid_expr (expr.Sum es) ≡ (nat_le 2 (length (map is_valid_expr es)) && list_all (λ b. b) (map is_valid_expr es))
sum_valid es = ap is_valid_expr (sym (expr.rolls-Sum es)) ∙ fold-roll-Expr Bool expr_step (Expr-F.Sum es)

pub product_valid : (es : List Expr) → is_valid_expr (expr.Product es) ≡ (nat_le 2 (length (map is_valid_expr es)) && list_all (λ b. b) (map is_valid_expr es))
product_valid es = ap is_valid_expr (sym (expr.rolls-Product es)) ∙ fold-roll-Expr Bool expr_step (Expr-F.Product es)

abbrev AllValid : List Expr → Type 0
AllValid es = list_all (λ b. b) (map is_valid_expr es) ≡ true

two_enough : (x y : Bool) (bs : List Bool) → nat_le 2 (length (x ∷ y ∷ bs)) ≡ true
two_enough x y bs = grind (arith, nat_tests)

two_parts : (e f : Expr) (es : List Expr) → AllValid (e ∷ f ∷ es) → (nat_le 2 (length (map is_valid_expr (e ∷ f ∷ es))) && list_all (λ b. b) (map is_valid_expr (e ∷ f ∷ es))) ≡ true
two_parts e f es h = ap (λ v. v && list_all (λ b. b) (map is_valid_expr (e ∷ f ∷ es))) (two_enough (is_valid_expr e) (is_valid_expr f) (map is_valid_expr es)) ∙ h

sum_of_valid : (es : List Expr) → 1 ≤ length es → AllValid es → is_valid_expr (sum_of es) ≡ true
sum_of_valid [] some h = absurd (omega arith)
sum_of_valid (e ∷ []) some h = (both (is_valid_expr e) true h).0
sum_of_valid (e ∷ f ∷ es) some h = sum_valid (e ∷ f ∷ es) ∙ two_parts e f es h

product_of_valid : (es : List Expr) → 1 ≤ length es → AllValid es → is_valid_expr (product_of es) ≡ true
product_of_valid [] some h = absurd (omega arith)
product_of_valid (e ∷ []) some h = (both (is_valid_expr e) true h).0
product_of_valid (e ∷ f ∷ es) some h = product_valid (e ∷ f ∷ es) ∙ two_parts e f es h

map-append : (es fs : List Expr) → map is_valid_expr (es ++ fs) ≡ map is_valid_expr es ++ map is_valid_expr fs
map-append [] fs = refl
map-append (e ∷ es) fs = ap (λ bs. is_valid_expr e ∷ bs) (map-append es fs)

one_more : (es : List Expr) (e : Expr) → AllValid es → is_valid_expr e ≡ true → AllValid (es ++ e ∷ [])
one_more es e h v = ap (list_all (λ b. b)) (map-append es (e ∷ [])) ∙ all_joined (λ b. b) (map is_valid_expr es) (is_valid_expr e ∷ []) h (ap (λ b. b && true) v)

some_terms : (s : Sum) → 1 ≤ length (terms s)
some_terms (first_term p) = omega arith
some_terms (plus s p) = omega (arith, length-append (terms s) (product_of (factors p) ∷ []))

some_factors : (p : Product) → 1 ≤ length (factors p)
some_factors (first_factor a) = omega arith
some_factors (times p a) = omega (arith, length-append (factors p) (atom_expr a ∷ []))

mutual
  valid_terms : (s : Sum) → Proper (sum_tokens s) → AllValid (terms s)
  valid_terms (first_term p) h = ap (λ b. b && true) (valid_product p h)
  valid_terms (plus s p) h =
      let q : Proper (sum_tokens s) × Proper (mark plus_sign ∷ product_tokens p) = all_split is_proper (sum_tokens s) (mark plus_sign ∷ product_tokens p) h in
      one_more (terms s) (product_of (factors p)) (valid_terms s q.0) (valid_product p q.1)

  valid_product : (p : Product) → Proper (product_tokens p) → is_valid_expr (product_of (factors p)) ≡ true
  valid_product (first_factor a) h = valid_atom a h
  valid_product (times p a) h =
      let q : Proper (product_tokens p) × Proper (mark times_sign ∷ atom_tokens a) = all_split is_proper (product_tokens p) (mark times_sign ∷ atom_tokens a) h in
      product_of_valid (factors (times p a)) (some_factors (times p a)) (one_more (factors p) (atom_expr a) (valid_factors p q.0) (valid_atom a q.1))

  valid_factors : (p : Product) → Proper (product_tokens p) → AllValid (factors p)
  valid_factors (first_factor a) h = ap (λ b. b && true) (valid_atom a h)
  valid_factors (times p a) h =
      let q : Proper (product_tokens p) × Proper (mark times_sign ∷ atom_tokens a) = all_split is_proper (product_tokens p) (mark times_sign ∷ atom_tokens a) h in
      one_more (factors p) (atom_expr a) (valid_factors p q.0) (valid_atom a q.1)

  valid_atom : (a : Atom) → Proper (atom_tokens a) → is_valid_expr (atom_expr a) ≡ true
  valid_atom (constant n) h = number_valid n ∙ (both (is_proper (number n)) true h).0
  valid_atom (column w) h = column_valid w ∙ (both (is_proper (name w)) true h).0
  valid_atom (parens s) h =
      let q : Proper (sum_tokens s) × Proper (mark close_paren ∷ []) = all_split is_proper (sum_tokens s) (mark close_paren ∷ []) h in
      sum_of_valid (terms s) (some_terms s) (valid_terms s q.0)

pub read_expr_valid : (s : Sum) → Proper (sum_tokens s) → is_valid_expr (sum_of (terms s)) ≡ true
read_expr_valid s h = sum_of_valid (terms s) (some_terms s) (valid_terms s h)

-- ---- parentheses

-- a parenthesis that opens in these tokens, behind those before, isn't the 33rd
abbrev pub Shown : List Token → List Token → Type 0
Shown before [] = Unit {0}
Shown before (t ∷ tokens) = (is_mark_of open_paren t ≡ true → open_after before < max_open) × Shown (before ++ t ∷ []) tokens

pub shown_split : (before xs ys : List Token) → Shown before (xs ++ ys) → Shown before xs × Shown (before ++ xs) ys
shown_split before [] ys h = (tt, subst (λ b. Shown b ys) (sym (append-nil before)) h)
shown_split before (x ∷ xs) ys h =
    let r : Shown (before ++ x ∷ []) xs × Shown ((before ++ x ∷ []) ++ xs) ys = shown_split (before ++ x ∷ []) xs ys h.1 in
    ((h.0, r.0), subst (λ b. Shown b ys) (append_assoc before (x ∷ []) xs) r.1)

-- as many parentheses open as close
pub record Balanced (tokens : List Token) : Type 0 where
  pub counts : count_by (is_mark_of open_paren) tokens ≡ count_by (is_mark_of close_paren) tokens

count-append : (test : Token → Bool) (xs ys : List Token) → count_by test (xs ++ ys) ≡ count_by test xs + count_by test ys
count-append test xs ys = sum_by-append (λ x. cond (test x) 1 0) xs ys

count-cons : (test : Token → Bool) (t : Token) (tokens : List Token) → count_by test (t ∷ tokens) ≡ cond (test t) 1 0 + count_by test tokens
count-cons test t tokens = count-append test (t ∷ []) tokens ∙ ap (λ n. n + count_by test tokens) (zero-add (cond (test t) 1 0))

pub balanced_both : (xs ys : List Token) → Balanced xs → Balanced ys → Balanced (xs ++ ys)
balanced_both xs ys x y = record {
  counts =
      let e = x.counts in let f = y.counts in
      omega (arith, count-append (is_mark_of open_paren) xs ys, count-append (is_mark_of close_paren) xs ys);
}

pub balanced_flat : (tokens : List Token) → is_flat tokens ≡ true → Balanced tokens
balanced_flat [] h = record { counts = refl }
balanced_flat (t ∷ tokens) h =
    let p = flat_first (is_wrong t) (is_mark_of open_paren t) (is_mark_of close_paren t) (is_flat tokens) h in
    let rest = balanced_flat tokens p.3 in
    record {
      counts = count-cons (is_mark_of open_paren) t tokens ∙ ap (λ b. cond b 1 0 + count_by (is_mark_of open_paren) tokens) p.1 ∙ ap (λ n. 0 + n) rest.counts
          ∙ sym (count-cons (is_mark_of close_paren) t tokens ∙ ap (λ b. cond b 1 0 + count_by (is_mark_of close_paren) tokens) p.2);
    }

pub balanced_parens : (tokens : List Token) → Balanced tokens → Balanced (mark open_paren ∷ tokens ++ mark close_paren ∷ [])
balanced_parens tokens x = record {
  counts =
      let e = x.counts in
      let o : count_by (is_mark_of open_paren) (mark open_paren ∷ tokens) ≡ 1 + count_by (is_mark_of open_paren) tokens = count-cons (is_mark_of open_paren) (mark open_paren) tokens in
      let c : count_by (is_mark_of close_paren) (mark open_paren ∷ tokens) ≡ 0 + count_by (is_mark_of close_paren) tokens = count-cons (is_mark_of close_paren) (mark open_paren) tokens in
      let oo : count_by (is_mark_of open_paren) (mark close_paren ∷ []) ≡ 0 = refl in
      let cc1 : count_by (is_mark_of close_paren) (mark close_paren ∷ []) ≡ 1 = refl in
      omega (arith, count-append (is_mark_of open_paren) (mark open_paren ∷ tokens) (mark close_paren ∷ []), count-append (is_mark_of close_paren) (mark open_paren ∷ tokens) (mark close_paren ∷ []));
}

mutual
  pub balanced_sum : (s : Sum) → Balanced (sum_tokens s)
  balanced_sum (first_term p) = balanced_product p
  balanced_sum (plus s p) = balanced_both (sum_tokens s) (mark plus_sign ∷ product_tokens p) (balanced_sum s) (balanced_both (mark plus_sign ∷ []) (product_tokens p) (balanced_flat (mark plus_sign ∷ []) refl) (balanced_product p))

  balanced_product : (p : Product) → Balanced (product_tokens p)
  balanced_product (first_factor a) = balanced_atom a
  balanced_product (times p a) = balanced_both (product_tokens p) (mark times_sign ∷ atom_tokens a) (balanced_product p) (balanced_both (mark times_sign ∷ []) (atom_tokens a) (balanced_flat (mark times_sign ∷ []) refl) (balanced_atom a))

  balanced_atom : (a : Atom) → Balanced (atom_tokens a)
  balanced_atom (constant n) = balanced_flat (number n ∷ []) refl
  balanced_atom (column w) = balanced_flat (name w ∷ []) refl
  balanced_atom (parens s) = balanced_parens (sum_tokens s) (balanced_sum s)

-- as many are open behind balanced tokens as before them
pub open_on : (before tokens : List Token) (n : ℕ) → Open before n → Balanced tokens → Open (before ++ tokens) n
open_on before tokens n h b = record {
  counts =
      let e = h.counts in let f = b.counts in
      omega (arith, count-append (is_mark_of open_paren) before tokens, count-append (is_mark_of close_paren) before tokens);
}

open_more : (before : List Token) (n : ℕ) → Open before n → Open (before ++ mark open_paren ∷ []) (n + 1)
open_more before n h = record {
  counts =
      let e = h.counts in
      let o : count_by (is_mark_of open_paren) (mark open_paren ∷ []) ≡ 1 = refl in
      let c : count_by (is_mark_of close_paren) (mark open_paren ∷ []) ≡ 0 = refl in
      omega (arith, count-append (is_mark_of open_paren) before (mark open_paren ∷ []), count-append (is_mark_of close_paren) before (mark open_paren ∷ []));
}

-- ---- depths by place

record Places (e : Expr) : Type 0 where
  in_sum : depth e Alone ≤ depth e InSum
  in_product : depth e InSum ≤ depth e InProduct
  over : depth e InProduct ≤ 1 + depth e Alone

places_layer : (x : Expr-F Expr) → Places (roll-Expr x)
places_layer (Expr-F.Number n) = subst Places (sym (expr.rolls-Number n)) (record {
  in_sum = let a = number_depth n Alone in let b = number_depth n InSum in omega arith;
  in_product = let a = number_depth n InSum in let b = number_depth n InProduct in omega arith;
  over = let a = number_depth n InProduct in omega arith;
})
places_layer (Expr-F.Column w) = subst Places (sym (expr.rolls-Column w)) (record {
  in_sum = let a = column_depth w Alone in let b = column_depth w InSum in omega arith;
  in_product = let a = column_depth w InSum in let b = column_depth w InProduct in omega arith;
  over = let a = column_depth w InProduct in omega arith;
})
places_layer (Expr-F.Sum es) = subst Places (sym (expr.rolls-Sum es)) (record {
  in_sum = let a = sum_depth es Alone in let b = sum_depth es InSum in omega arith;
  in_product = let a = sum_depth es InSum in let b = sum_depth es InProduct in omega arith;
  over = let a = sum_depth es InProduct in let b = sum_depth es Alone in omega arith;
})
places_layer (Expr-F.Product es) = subst Places (sym (expr.rolls-Product es)) (record {
  in_sum = let a = product_depth es Alone in let b = product_depth es InSum in omega arith;
  in_product = let a = product_depth es InSum in let b = product_depth es InProduct in omega arith;
  over = let a = product_depth es InProduct in let b = product_depth es Alone in omega arith;
})

places : (e : Expr) → Places e
places = ind-Expr Places (λ x y is. places_layer x)

-- ---- depths of what was read

-- each of these is no deeper than leaves room for n
abbrev Within : Place → ℕ → List Expr → Type 0
Within place n [] = Unit {0}
Within place n (e ∷ es) = (n + depth e place ≤ max_open) × Within place n es

within_more : (place : Place) (n : ℕ) (es : List Expr) (e : Expr) → Within place n es → n + depth e place ≤ max_open → Within place n (es ++ e ∷ [])
within_more place n [] e h d = (d, tt)
within_more place n (x ∷ es) e h d = (h.0, within_more place n es e h.1 d)

within_greatest : (place : Place) (n : ℕ) (es : List Expr) → n ≤ max_open → Within place n es → n + greatest (map (λ part. depth part place) es) ≤ max_open
within_greatest place n [] le h = omega arith
within_greatest place n (e ∷ es) le h = let a = h.0 in let b = within_greatest place n es le h.1 in omega arith

sum_within : (n : ℕ) (es : List Expr) → n ≤ max_open → Within InSum n es → n + depth (sum_of es) Alone ≤ max_open
sum_within n [] le h = let a = sum_depth [] Alone in omega arith
sum_within n (e ∷ []) le h = let a = h.0 in let b = (places e).in_sum in omega arith
sum_within n (e ∷ f ∷ es) le h = let a = sum_depth (e ∷ f ∷ es) Alone in let b = within_greatest InSum n (e ∷ f ∷ es) le h in omega arith

product_within : (n : ℕ) (es : List Expr) → n ≤ max_open → Within InProduct n es → n + depth (product_of es) InSum ≤ max_open
product_within n [] le h = let a = product_depth [] InSum in omega arith
product_within n (e ∷ []) le h = let a = h.0 in let b = (places e).in_product in omega arith
product_within n (e ∷ f ∷ es) le h = let a = product_depth (e ∷ f ∷ es) InSum in let b = within_greatest InProduct n (e ∷ f ∷ es) le h in omega arith

-- behind a token that is no parenthesis
skipped : (before tokens : List Token) (t : Token) (n : ℕ) → is_flat (t ∷ []) ≡ true → Open before n → Shown before (t ∷ tokens) → Open (before ++ t ∷ []) n × Shown (before ++ t ∷ []) tokens
skipped before tokens t n h o s = (open_on before (t ∷ []) n o (balanced_flat (t ∷ []) h), s.1)

mutual
  shallow_terms : (s : Sum) (before : List Token) (n : ℕ) → n ≤ max_open → Open before n → Shown before (sum_tokens s) → Within InSum n (terms s)
  shallow_terms (first_term p) before n le o h = (shallow_product p before n le o h, tt)
  shallow_terms (plus s p) before n le o h =
      let q : Shown before (sum_tokens s) × Shown (before ++ sum_tokens s) (mark plus_sign ∷ product_tokens p) = shown_split before (sum_tokens s) (mark plus_sign ∷ product_tokens p) h in
      let o2 : Open (before ++ sum_tokens s) n = open_on before (sum_tokens s) n o (balanced_sum s) in
      let r = skipped (before ++ sum_tokens s) (product_tokens p) (mark plus_sign) n refl o2 q.1 in
      within_more InSum n (terms s) (product_of (factors p)) (shallow_terms s before n le o q.0) (shallow_product p ((before ++ sum_tokens s) ++ mark plus_sign ∷ []) n le r.0 r.1)

  shallow_product : (p : Product) (before : List Token) (n : ℕ) → n ≤ max_open → Open before n → Shown before (product_tokens p) → n + depth (product_of (factors p)) InSum ≤ max_open
  shallow_product (first_factor a) before n le o h = let d = shallow_atom a before n le o h in let b = (places (atom_expr a)).in_product in omega arith
  shallow_product (times p a) before n le o h =
      let q : Shown before (product_tokens p) × Shown (before ++ product_tokens p) (mark times_sign ∷ atom_tokens a) = shown_split before (product_tokens p) (mark times_sign ∷ atom_tokens a) h in
      let o2 : Open (before ++ product_tokens p) n = open_on before (product_tokens p) n o (balanced_product p) in
      let r = skipped (before ++ product_tokens p) (atom_tokens a) (mark times_sign) n refl o2 q.1 in
      product_within n (factors (times p a)) le (within_more InProduct n (factors p) (atom_expr a) (shallow_factors p before n le o q.0) (shallow_atom a ((before ++ product_tokens p) ++ mark times_sign ∷ []) n le r.0 r.1))

  shallow_factors : (p : Product) (before : List Token) (n : ℕ) → n ≤ max_open → Open before n → Shown before (product_tokens p) → Within InProduct n (factors p)
  shallow_factors (first_factor a) before n le o h = (shallow_atom a before n le o h, tt)
  shallow_factors (times p a) before n le o h =
      let q : Shown before (product_tokens p) × Shown (before ++ product_tokens p) (mark times_sign ∷ atom_tokens a) = shown_split before (product_tokens p) (mark times_sign ∷ atom_tokens a) h in
      let o2 : Open (before ++ product_tokens p) n = open_on before (product_tokens p) n o (balanced_product p) in
      let r = skipped (before ++ product_tokens p) (atom_tokens a) (mark times_sign) n refl o2 q.1 in
      within_more InProduct n (factors p) (atom_expr a) (shallow_factors p before n le o q.0) (shallow_atom a ((before ++ product_tokens p) ++ mark times_sign ∷ []) n le r.0 r.1)

  shallow_atom : (a : Atom) (before : List Token) (n : ℕ) → n ≤ max_open → Open before n → Shown before (atom_tokens a) → n + depth (atom_expr a) InProduct ≤ max_open
  shallow_atom (constant k) before n le o h = let d = number_depth k InProduct in omega arith
  shallow_atom (column w) before n le o h = let d = column_depth w InProduct in omega arith
  shallow_atom (parens s) before n le o h =
      let here : n < max_open = subst (λ k. k < max_open) (open_is before n o) (h.0 refl) in
      let q : Shown (before ++ mark open_paren ∷ []) (sum_tokens s) × Shown ((before ++ mark open_paren ∷ []) ++ sum_tokens s) (mark close_paren ∷ []) = shown_split (before ++ mark open_paren ∷ []) (sum_tokens s) (mark close_paren ∷ []) h.1 in
      let inner = sum_within (n + 1) (terms s) (omega arith) (shallow_terms s (before ++ mark open_paren ∷ []) (n + 1) (omega arith) (open_more before n o) q.0) in
      let b = (places (sum_of (terms s))).over in
      omega arith

-- an expression that was read is no deeper than texts may be
pub read_expr_shallow : (s : Sum) (before : List Token) → Open before 0 → Shown before (sum_tokens s) → depth (sum_of (terms s)) Alone ≤ max_open
read_expr_shallow s before o h = let d = sum_within 0 (terms s) (omega arith) (shallow_terms s before 0 (omega arith) o h) in omega arith
