-- Steps of the checks of queries.
use Rattle.std.proofs.Common.{◌≡◌, ◌∙◌, ℕ, suc, ◌+◌, ◌-◌, ◌*◌, ◌^◌, ◌<◌, ◌≤◌, ◌==◌, ltb, Bool, true, false, cond, List, length, take, drop, None, Some, Ok, Err, refl, sym, ap, subst, arith}
use Rattle.std.specs.Str.{bytes_eq}
use native.Mathlib.Numerals.{unary_clauses}
use Rattle.std.proofs.lemmas.Bool.Decides.{nat_tests}
use Rattle.std.proofs.lemmas.Slice.Eq.{bytes_eq-Decides}
use Rattle.fri_fold.specs.Query.{Check, IsFault, IsLastFault, Passes, opened, root_found}
use Rattle.fri_fold.specs.declared.query.QueryFault.{QueryFault}
use Rattle.fri_fold.specs.declared.query.QueryFault.TheVariants.{FoldBad, PathBad}
use Rattle.transcript.specs.Transcript.{after_draw}
use Rattle.proof_plan.specs.Sizes.{opening_length, query_count}
use Rattle.m3_verifier.specs.declared.halt.Halt.{Halt}
use Rattle.m3_verifier.specs.declared.halt.Halt.TheVariants.{Query, Short}
use Rattle.m3_verifier.specs.Queries.{Words, after_draws, after_opening, first_check, fold_fault, index_of, last_fault, opening_fault, opening_halt, opening_in, openings, or_halt, path_fault, queries, root_at, short, unless_halt}

-- ---- what tests say
holds : {X : Type 0} (b : Bool) (x : X) → cond b None (Some x) ≡ None → b ≡ true
holds true x e = refl
holds false x e = absurd (cc)

pub short_none : (n : ℕ) (bytes : List ℕ) → short n bytes ≡ None → n ≤ length bytes
short_none n bytes e = elim (ltb (length bytes) n) as (λ b. ltb (length bytes) n ≡ b → n ≤ length bytes) [ true ↦ λ t. (let k : Some Short ≡ None = sym (ap (λ b. cond b (Some Short) None) t) ∙ e in absurd (cc)) | false ↦ λ t. grind (arith, nat_tests) ] refl

is_true : (m n : ℕ) → m ≡ n → (m == n) ≡ true
is_true m n e = grind (arith, nat_tests)

is_false : (m n : ℕ) → ¬ (m ≡ n) → (m == n) ≡ false
is_false m n e = grind (arith, nat_tests)

same_bytes : (xs ys : List ℕ) → xs ≡ ys → bytes_eq xs ys ≡ true
same_bytes xs ys e = (bytes_eq-Decides xs ys).1 e

other_bytes : (xs ys : List ℕ) → ¬ (xs ≡ ys) → bytes_eq xs ys ≡ false
other_bytes xs ys e = elim (bytes_eq xs ys) as (λ b. bytes_eq xs ys ≡ b → bytes_eq xs ys ≡ false) [ true ↦ λ t. absurd (e ((bytes_eq-Decides xs ys).0 t)) | false ↦ λ t. t ] refl

-- ---- an opening
path_right : (c : Check) (root leaf path : List ℕ) → root_found c leaf path ≡ root → path_fault c root leaf path ≡ None
path_right c root leaf path e = rw (same_bytes (root_found c leaf path) root e) refl

fold_right : (c : Check) (leaf : List ℕ) → (0 < c.round → c.fold ≡ opened c leaf) → fold_fault c leaf ≡ None
fold_right c leaf h = elim (c.round == 0) as (λ b. c.round == 0 ≡ b → fold_fault c leaf ≡ None) [ true ↦ λ t. rw t refl | false ↦ λ t. rw (t, is_true c.fold (opened c leaf) (h (grind (arith, nat_tests)))) refl ] refl

pub passed : (w : Words) (c : Check) (opening root leaf path : List ℕ) → root ≡ root_at w c.round → leaf ≡ take 32 opening → path ≡ drop 32 opening
    → Passes c root leaf path → opening_fault w c opening ≡ None
passed w c opening root leaf path r l p h =
    let k = subst (λ path. Passes c (root_at w c.round) (take 32 opening) path) p (subst (λ leaf. Passes c (root_at w c.round) leaf path) l (subst (λ root. Passes c root leaf path) r h)) in
    rw (path_right c (root_at w c.round) (take 32 opening) (drop 32 opening) k.0) (fold_right c (take 32 opening) k.1)

fault_found : (c : Check) (root leaf path : List ℕ) (f : QueryFault) → IsFault c root leaf path f → or_halt (path_fault c root leaf path) (fold_fault c leaf) ≡ Some (Query f)
fault_found c root leaf path (PathBad query round kept found) h =
    let o : ¬ (root_found c leaf path ≡ root) = λ e. h.4 (h.3 ∙ e ∙ sym h.2) in
    rw (other_bytes (root_found c leaf path) root o, h.0, h.1, h.2, h.3) refl
fault_found c root leaf path (FoldBad query round left right) h =
    let d : ¬ (c.fold ≡ opened c leaf) = λ e. h.6 (h.4 ∙ e ∙ sym h.5) in
    let late : 0 < c.round = h.1 in
    let z : (c.round == 0) ≡ false = grind (arith, nat_tests) in
    rw (path_right c root leaf path h.0, z, is_false c.fold (opened c leaf) d, h.2, h.3, h.4, h.5) refl

pub refused : (w : Words) (c : Check) (opening root leaf path : List ℕ) (f : QueryFault) → root ≡ root_at w c.round → leaf ≡ take 32 opening → path ≡ drop 32 opening
    → IsFault c root leaf path f → opening_fault w c opening ≡ Some (Query f)
refused w c opening root leaf path f r l p h =
    fault_found c (root_at w c.round) (take 32 opening) (drop 32 opening) f
    (subst (λ path. IsFault c (root_at w c.round) (take 32 opening) path f) p (subst (λ leaf. IsFault c (root_at w c.round) leaf path f) l (subst (λ root. IsFault c root leaf path f) r h)))

-- a position of the first word
pow-add : (r : ℕ) → 2 ^ (r + 2) ≡ 2 * 2 ^ (r + 1)
pow-add r = let e : r + 2 ≡ suc (r + 1) = omega arith in ap (λ k. 2 ^ k) e ∙ simp unary_clauses (omega arith)

pub index_below : (i r b : ℕ) → b ≡ r + 2 → i < 2 ^ (r + 1) → 2 * i < 2 ^ b
index_below i r b e l =
    let twice : 2 ^ (r + 2) ≡ 2 * 2 ^ (r + 1) = pow-add r in
    subst (λ b. 2 * i < 2 ^ b) (sym e) (omega (arith, twice))

-- ---- the openings of a query
pub ended : (c : Check) (constant : ℕ) → c.fold ≡ constant → last_fault c constant ≡ None
ended c constant e = rw (is_true c.fold constant e) refl

pub not_ended : (c : Check) (constant : ℕ) (f : QueryFault) → IsLastFault c constant f → last_fault c constant ≡ Some (Query f)
not_ended c constant (PathBad query round kept found) h = absurd h
not_ended c constant (FoldBad query round left right) h =
    let d : ¬ (c.fold ≡ constant) = λ e. h.4 (h.2 ∙ e ∙ sym h.3) in
    rw (is_false c.fold constant d, h.0, h.1, h.2, h.3) refl

open_next : (w : Words) (k : ℕ) (c : Check) (bytes : List ℕ) → opening_halt w (suc (suc k)) c bytes ≡ None
    → openings w (suc k) c bytes ≡ openings w k (after_opening w c (opening_in (suc (suc k)) bytes)) (drop (opening_length (suc (suc k))) bytes)
unfolding openings
open_next w k c bytes e = rw e refl

open_halts : (w : Words) (k : ℕ) (c : Check) (bytes : List ℕ) (h : Halt) → opening_halt w (suc (suc k)) c bytes ≡ Some h → openings w (suc k) c bytes ≡ Err h
unfolding openings
open_halts w k c bytes h e = rw e refl

-- of round r, whose tree has 2 ^ height leaves
pub round_passed : (w : Words) (r height : ℕ) (c next : Check) (bytes left : List ℕ) → r < w.rounds → height ≡ w.rounds - r + 1 → opening_halt w height c bytes ≡ None
    → next ≡ after_opening w c (opening_in height bytes) → left ≡ drop (opening_length height) bytes → openings w (w.rounds - r) c bytes ≡ openings w (w.rounds - (r + 1)) next left
round_passed w r height c next bytes left l e p n d =
    let k : w.rounds - r ≡ suc (w.rounds - (r + 1)) = omega arith in
    let t : height ≡ suc (suc (w.rounds - (r + 1))) = omega arith in
    let q = open_next w (w.rounds - (r + 1)) c bytes (subst (λ t. opening_halt w t c bytes ≡ None) t p) in
    ap (λ k. openings w k c bytes) k ∙ q
    ∙ (λ i. openings w (w.rounds - (r + 1)) (after_opening w c (opening_in (sym t i) bytes)) (drop (opening_length (sym t i)) bytes))
    ∙ (λ i. openings w (w.rounds - (r + 1)) (sym n i) (sym d i))

pub round_halts : (w : Words) (r height : ℕ) (c : Check) (bytes : List ℕ) (h : Halt) → r < w.rounds → height ≡ w.rounds - r + 1 → opening_halt w height c bytes ≡ Some h
    → openings w (w.rounds - r) c bytes ≡ Err h
round_halts w r height c bytes h l e p =
    let k : w.rounds - r ≡ suc (w.rounds - (r + 1)) = omega arith in
    let t : height ≡ suc (suc (w.rounds - (r + 1))) = omega arith in
    ap (λ k. openings w k c bytes) k ∙ open_halts w (w.rounds - (r + 1)) c bytes h (subst (λ t. opening_halt w t c bytes ≡ Some h) t p)

open_end : (w : Words) (c : Check) (bytes : List ℕ) → openings w 0 c bytes ≡ unless_halt (last_fault c w.constant) (Ok bytes)
unfolding openings
open_end w c bytes = refl

pub all_passed : (w : Words) (r : ℕ) (c : Check) (constant : ℕ) (bytes : List ℕ) → w.rounds ≤ r → constant ≡ w.constant → c.fold ≡ constant → openings w (w.rounds - r) c bytes ≡ Ok bytes
all_passed w r c constant bytes l k e =
    let z : w.rounds - r ≡ 0 = omega arith in
    ap (λ n. openings w n c bytes) z ∙ open_end w c bytes ∙ ap (λ o. unless_halt o (Ok bytes)) (ended c w.constant (e ∙ k))

pub end_halts : (w : Words) (r : ℕ) (c : Check) (constant : ℕ) (bytes : List ℕ) (f : QueryFault) → w.rounds ≤ r → constant ≡ w.constant → IsLastFault c constant f → openings w (w.rounds - r) c bytes ≡ Err (Query f)
end_halts w r c constant bytes f l k h =
    let z : w.rounds - r ≡ 0 = omega arith in
    ap (λ n. openings w n c bytes) z ∙ open_end w c bytes ∙ ap (λ o. unless_halt o (Ok bytes)) (not_ended c w.constant f (subst (λ k. IsLastFault c k f) k h))

-- ---- all queries
query_next : (w : Words) (n q : ℕ) (t bytes left : List ℕ) → openings w w.rounds (first_check q (index_of w.rounds (after_draw t))) bytes ≡ Ok left
    → queries w (suc n) q t bytes ≡ queries w n (suc q) (after_draw t) left
unfolding queries
query_next w n q t bytes left e = rw e refl

query_halts : (w : Words) (n q : ℕ) (t bytes : List ℕ) (h : Halt) → openings w w.rounds (first_check q (index_of w.rounds (after_draw t))) bytes ≡ Err h
    → queries w (suc n) q t bytes ≡ Err h
unfolding queries
query_halts w n q t bytes h e = rw e refl

queries_end : (w : Words) (q : ℕ) (t bytes : List ℕ) → queries w 0 q t bytes ≡ Ok bytes
unfolding queries
queries_end w q t bytes = refl

pub one_passed : (w : Words) (q index : ℕ) (t next bytes left : List ℕ) → q < query_count → next ≡ after_draw t → index ≡ index_of w.rounds next
    → openings w w.rounds (first_check q index) bytes ≡ Ok left → queries w (query_count - q) q t bytes ≡ queries w (query_count - (q + 1)) (q + 1) next left
one_passed w q index t next bytes left l n i e =
    let k : query_count - q ≡ suc (query_count - (q + 1)) = omega arith in
    let s : suc q ≡ q + 1 = omega arith in
    let at : index ≡ index_of w.rounds (after_draw t) = i ∙ ap (index_of w.rounds) n in
    ap (λ k. queries w k q t bytes) k
    ∙ query_next w (query_count - (q + 1)) q t bytes left (subst (λ index. openings w w.rounds (first_check q index) bytes ≡ Ok left) at e)
    ∙ (λ j. queries w (query_count - (q + 1)) (s j) (sym n j) left)

pub one_halts : (w : Words) (q index : ℕ) (t next bytes : List ℕ) (h : Halt) → q < query_count → next ≡ after_draw t → index ≡ index_of w.rounds next
    → openings w w.rounds (first_check q index) bytes ≡ Err h → queries w (query_count - q) q t bytes ≡ Err h
one_halts w q index t next bytes h l n i e =
    let k : query_count - q ≡ suc (query_count - (q + 1)) = omega arith in
    let at : index ≡ index_of w.rounds (after_draw t) = i ∙ ap (index_of w.rounds) n in
    ap (λ k. queries w k q t bytes) k ∙ query_halts w (query_count - (q + 1)) q t bytes h (subst (λ index. openings w w.rounds (first_check q index) bytes ≡ Err h) at e)

pub none_left : (w : Words) (q : ℕ) (t bytes : List ℕ) → query_count ≤ q → queries w (query_count - q) q t bytes ≡ Ok bytes
none_left w q t bytes l =
    let z : query_count - q ≡ 0 = omega arith in
    ap (λ n. queries w n q t bytes) z ∙ queries_end w q t bytes

pub draws_on : (q : ℕ) (t next : List ℕ) → q < query_count → next ≡ after_draw t → after_draws (query_count - q) t ≡ after_draws (query_count - (q + 1)) next
draws_on q t next l n =
    let k : query_count - q ≡ suc (query_count - (q + 1)) = omega arith in
    ap (λ k. after_draws k t) k ∙ ap (after_draws (query_count - (q + 1))) (sym n)

pub draws_end : (q : ℕ) (t : List ℕ) → query_count ≤ q → after_draws (query_count - q) t ≡ t
draws_end q t l = let z : query_count - q ≡ 0 = omega arith in ap (λ k. after_draws k t) z
