-- How many parentheses are open in tokens.
use Rattle.std.proofs.Common.{◌≡◌, ℕ, suc, ◌+◌, ◌-◌, ◌≤◌, ◌<◌, Bool, true, false, cond, List, [], ◌∷◌, ◌++◌, None, refl, sym, ◌∙◌, ap, subst, append_assoc, arith}
use Rattle.std.proofs.lemmas.List.Sums.{sum_by-append}
use Rattle.std.proofs.lemmas.Bool.{eqb-true}
use Rattle.std.specs.Prelude.{count_by}
use Rattle.table_text.specs.Bytes.{open_paren, close_paren}
use Rattle.table_text.specs.Lexing.{Token, name, reserved, number, mark, wrong}
use Rattle.table_text.specs.Limits.{max_open}
use Rattle.table_text.specs.Faults.{own_fault, is_mark_of, open_after}

-- how many are open behind a token
abbrev pub next_open : ℕ → Token → ℕ
next_open n t = cond (is_mark_of open_paren t) (n + 1) (cond (is_mark_of close_paren t) (n - 1) n)

-- no token is wrong in itself, of n that are open none is too many in these tokens, and each that closes is open
abbrev pub Shallow : ℕ → List Token → Type 0
Shallow n [] = Unit {0}
Shallow n (t ∷ tokens) = (own_fault t ≡ None) × (is_mark_of open_paren t ≡ true → n < max_open) × (is_mark_of close_paren t ≡ true → 0 < n) × Shallow (next_open n t) tokens

-- n are open behind these tokens
pub record Open (before : List Token) (n : ℕ) : Type 0 where
  pub counts : count_by (is_mark_of open_paren) before ≡ count_by (is_mark_of close_paren) before + n

pub open_none : Open [] 0
open_none = record { counts = refl }

pub open_is : (before : List Token) (n : ℕ) → Open before n → open_after before ≡ n
open_is before n h = let e = h.counts in omega arith

count-one : (test : Token → Bool) (before : List Token) (t : Token) → count_by test (before ++ t ∷ []) ≡ count_by test before + cond (test t) 1 0
count-one test before t =
    let s : count_by test (before ++ t ∷ []) ≡ count_by test before + count_by test (t ∷ []) = sum_by-append (λ x. cond (test x) 1 0) before (t ∷ []) in
    let o : count_by test (t ∷ []) ≡ 0 + cond (test t) 1 0 = refl in
    omega arith

-- a mark isn't both
not_both_marks : (t : Token) → is_mark_of open_paren t ≡ true → is_mark_of close_paren t ≡ true → ⊥
not_both_marks (name w) a b = cc
not_both_marks (reserved w) a b = cc
not_both_marks (number n) a b = cc
not_both_marks (mark c) a b = let e : open_paren ≡ c = eqb-true open_paren c a in let f : close_paren ≡ c = eqb-true close_paren c b in omega arith
not_both_marks (wrong kind) a b = cc

open_step_at : (o c : ℕ) (n : ℕ) (a b : Bool) → (a ≡ true → b ≡ true → ⊥) → (b ≡ true → 0 < n) → o ≡ c + n → o + cond a 1 0 ≡ c + cond b 1 0 + cond a (n + 1) (cond b (n - 1) n)
open_step_at o c n true true clash pos h = absurd (clash refl refl)
open_step_at o c n true false clash pos h = omega arith
open_step_at o c n false true clash pos h = omega (arith, pos refl)
open_step_at o c n false false clash pos h = omega arith

pub open_one : (before : List Token) (n : ℕ) (t : Token) → Open before n → (is_mark_of close_paren t ≡ true → 0 < n) → Open (before ++ t ∷ []) (next_open n t)
open_one before n t h pos = record {
  counts = count-one (is_mark_of open_paren) before t
      ∙ open_step_at (count_by (is_mark_of open_paren) before) (count_by (is_mark_of close_paren) before) n (is_mark_of open_paren t) (is_mark_of close_paren t) (not_both_marks t) pos h.counts
      ∙ ap (λ m. m + next_open n t) (sym (count-one (is_mark_of close_paren) before t));
}

-- ---- tokens with at most m open at once

pub record Nests (m : ℕ) (tokens : List Token) : Type 0 where
  pub on : (n : ℕ) → n + m ≤ max_open → (rest : List Token) → Shallow n rest → Shallow n (tokens ++ rest)

pub nests_none : (m : ℕ) → Nests m []
nests_none m = record { on = λ n h rest s. s }

pub nests_both : (m : ℕ) (xs ys : List Token) → Nests m xs → Nests m ys → Nests m (xs ++ ys)
nests_both m xs ys x y = record { on = λ n h rest s. subst (Shallow n) (sym (append_assoc xs ys rest)) (x.on n h (ys ++ rest) (y.on n h rest s)) }

pub nests_more : (k m : ℕ) (tokens : List Token) → k ≤ m → Nests k tokens → Nests m tokens
nests_more k m tokens le x = record { on = λ n h rest s. x.on n (omega arith) rest s }

-- a token that is no parenthesis
pub nests_token : (m : ℕ) (t : Token) → own_fault t ≡ None → is_mark_of open_paren t ≡ false → is_mark_of close_paren t ≡ false → Nests m (t ∷ [])
nests_token m t own a b = record {
  on = λ n h rest s.
      let same : n ≡ next_open n t = sym (ap (λ v. cond v (n + 1) (cond (is_mark_of close_paren t) (n - 1) n)) a ∙ ap (λ v. cond v (n - 1) n) b) in
      (own, (λ e. absurd (clash (sym a ∙ e))), (λ e. absurd (clash (sym b ∙ e))), subst (λ k. Shallow k rest) same s);
}
  where
    clash : false ≡ true → ⊥
    clash e = cc

pub nests_parens : (m : ℕ) (tokens : List Token) → Nests m tokens → Nests (suc m) (mark open_paren ∷ tokens ++ mark close_paren ∷ [])
nests_parens m tokens x = record {
  on = λ n h rest s.
      let inner : Shallow (n + 1) (tokens ++ mark close_paren ∷ rest) = x.on (n + 1) (omega arith) (mark close_paren ∷ rest) (refl, (λ e. absurd (cc)), (λ e. omega arith), subst (λ k. Shallow k rest) (let z : n ≡ n + 1 - 1 = omega arith in z) s) in
      (refl, (λ e. omega arith), (λ e. absurd (cc)), subst (Shallow (n + 1)) (sym (append_assoc tokens (mark close_paren ∷ []) rest)) inner);
}

abbrev pub is_wrong : Token → Bool
is_wrong (name w) = false
is_wrong (reserved w) = false
is_wrong (number n) = false
is_wrong (mark b) = false
is_wrong (wrong kind) = true

sound : (t : Token) → is_wrong t ≡ false → own_fault t ≡ None
sound (name w) h = refl
sound (reserved w) h = refl
sound (number n) h = refl
sound (mark b) h = refl
sound (wrong kind) h = cc

-- tokens that are no parentheses, and not wrong in themselves
abbrev pub is_flat : List Token → Bool
is_flat [] = true
is_flat (t ∷ tokens) = cond (is_wrong t) false (cond (is_mark_of open_paren t) false (cond (is_mark_of close_paren t) false (is_flat tokens)))

pub flat_first : (w a b c : Bool) → cond w false (cond a false (cond b false c)) ≡ true → (w ≡ false) × (a ≡ false) × (b ≡ false) × (c ≡ true)
flat_first true a b c h = absurd (cc)
flat_first false true b c h = absurd (cc)
flat_first false false true c h = absurd (cc)
flat_first false false false c h = (refl, refl, refl, h)

pub nests_flat : (m : ℕ) (tokens : List Token) → is_flat tokens ≡ true → Nests m tokens
nests_flat m [] h = nests_none m
nests_flat m (t ∷ tokens) h =
    let p = flat_first (is_wrong t) (is_mark_of open_paren t) (is_mark_of close_paren t) (is_flat tokens) h in
    nests_both m (t ∷ []) tokens (nests_token m t (sound t p.0) p.1 p.2) (nests_flat m tokens p.3)
