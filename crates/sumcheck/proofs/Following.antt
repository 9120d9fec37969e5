-- A prover of a sum goes along with the rounds of its claim.
use Rattle.std.proofs.Common.{◌≡◌, ℕ, zero, suc, ◌+◌, ◌*◌, ◌-◌, ◌^◌, ◌<◌, List, [], ◌∷◌, ◌++◌, map, length, get_or, refl, sym, ◌∙◌, ap, subst, arith}
use Rattle.std.proofs.lemmas.List.{length-append}
use Rattle.poly_laws.specs.Interpolation.{at}
use Rattle.cube_laws.specs.Extension.{extension, fold_low, fold_all}
use Rattle.cube_laws.specs.Form.{Form}
use Rattle.cube_laws.specs.SumClaim.{Sum, AllLong, round_at}
use Rattle.cube_laws.proofs.Weights.{tabulate-same}
use Rattle.cube_laws.proofs.Rounds.{sum_at-bound}
use Rattle.cube_laws.proofs.Coordinates.{folds_last, prefix_folded, map_none, last_value}
use Rattle.sumcheck.specs.Machine.{Filling, AwaitsSome, AwaitsDraw}
use Rattle.sumcheck.specs.Rounds.{Rounds, sum_claim, round_claim, true_round, rounds_draw}
use Rattle.sumcheck.specs.Summing.{Summing, adding, summed_entries, summed_honest, summed_message}
use Rattle.sumcheck.specs.Proving.{Proving, Goes, Accompanies, sum_of}
use Rattle.sumcheck.proofs.RowSteps.{long_at}

-- the true round of a sum is that of its folded tables
round_folded : (form : Form) (lists : List (List ℕ)) (d n : ℕ) (z : List ℕ) → AllLong (2 ^ (length z + suc n)) lists
    → true_round (record { form = form; lists = map (fold_all z) lists }) d n [] ≡ true_round (record { form = form; lists = lists }) d n z
round_folded form lists d n z h =
    let s : Sum = record { form = form; lists = lists } in
    let f : Sum = record { form = form; lists = map (fold_all z) lists } in
    let p : 2 ^ (length z + suc n) ≡ 2 ^ suc n * 2 ^ length z = power_sum (length z) (suc n) in
    let k = subst (λ m. AllLong m lists) p h in
    tabulate-same (suc d) (round_at f [] n) (round_at s z n)
    (λ x l. sym (sum_at-bound f [] n x) ∙ sym (prefix_folded (2 ^ suc n) n form lists z (x ∷ []) k) ∙ sum_at-bound s z n x)
  where
    power_sum : (a b : ℕ) → 2 ^ (a + b) ≡ 2 ^ b * 2 ^ a
    power_sum zero b = let e : 0 + b ≡ b = omega arith in let o : 2 ^ 0 ≡ 1 = refl in ap (λ n. 2 ^ n) e ∙ omega arith
    power_sum (suc a) b =
        let e : suc a + b ≡ suc (a + b) = omega arith in
        let p : 2 ^ suc (a + b) ≡ 2 * 2 ^ (a + b) = omega arith in
        let q : 2 ^ suc a ≡ 2 * 2 ^ a = omega arith in
        let r = power_sum a b in
        ap (λ n. 2 ^ n) e ∙ p ∙ ap (λ w. 2 * w) r ∙ grind arith ∙ ap (λ w. 2 ^ b * w) (sym q)

pub goes_round : {S : Type 0} (form : S → Form) (p : Proving S) (s : Sum) (d n : ℕ) (z : List ℕ) (c : ℕ) → Goes form p s (sum_claim d (suc n) z c) → true_round (sum_of form p) p.degree n [] ≡ true_round s d n z
goes_round form p s d n z c h =
    (λ i. true_round (record { form = h.same i; lists = h.lists i }) (h.degree i) n []) ∙ round_folded s.form s.lists d n z h.long

pub goes_passed : {S : Type 0} (form : S → Form) (p : Proving S) (s : Sum) (d n : ℕ) (z : List ℕ) (c : ℕ) (v : List ℕ) → Goes form p s (sum_claim d (suc n) z c) → Goes form p s (round_claim d n z v)
goes_passed form p s d n z c v h = record { same = h.same; degree = h.degree; left = h.left; lists = h.lists; long = h.long }

pub goes_bound : {S : Type 0} (form : S → Form) (p q : Proving S) (s : Sum) (d n r : ℕ) (z v : List ℕ) → q ≡ record p { left = p.left - 1; lists = map (fold_low r) p.lists }
    → Goes form p s (round_claim d n z v) → Goes form q s (sum_claim d n (z ++ r ∷ []) (at v r))
goes_bound form p q s d n r z v e h =
    let l = h.left in
    let a = length-append z (r ∷ []) in
    let m : length z + suc n ≡ length (z ++ r ∷ []) + n = omega arith in
    let k : p.left - 1 ≡ n = omega arith in
    subst (λ q. Goes form q s (sum_claim d n (z ++ r ∷ []) (at v r))) (sym e)
    (record {
      same = h.same;
      degree = h.degree;
      left = k;
      lists = ap (map (fold_low r)) h.lists ∙ folds_last z r s.lists;
      long = subst (λ m. AllLong (2 ^ m) s.lists) m h.long;
    })

-- ---- at the end
get_or-folds : (z : List ℕ) (i : ℕ) (fs : List (List ℕ)) → i < length fs → get_or (map (fold_all z) fs) i [] ≡ fold_all z (get_or fs i [])
get_or-folds z i [] l = absurd (omega arith)
get_or-folds z zero (f ∷ fs) l = refl
get_or-folds z (suc i) (f ∷ fs) l = get_or-folds z i fs (omega arith)

pub goes_last : {S : Type 0} (form : S → Form) (p : Proving S) (s : Sum) (d i : ℕ) (z : List ℕ) (c : ℕ) → i < length s.lists → Goes form p s (sum_claim d zero z c) → get_or (get_or p.lists i []) 0 0 ≡ extension (get_or s.lists i []) z
goes_last form p s d i z c l h =
    let e : length z + 0 ≡ length z = omega arith in
    let f = get_or s.lists i [] in
    let n : length f ≡ 2 ^ length z = long_at (2 ^ length z) i s.lists (subst (λ m. AllLong (2 ^ m) s.lists) e h.long) l in
    ap (λ t. get_or (get_or t i []) 0 0) h.lists ∙ ap (λ t. get_or t 0 0) (get_or-folds z i s.lists l) ∙ last_value f z n

-- at the start
pub goes_first : {S : Type 0} (form : S → Form) (p : Proving S) (s : Sum) (d n c : ℕ) → form p.summand ≡ s.form → p.degree ≡ d → p.left ≡ n → p.lists ≡ s.lists → AllLong (2 ^ n) s.lists → Goes form p s (sum_claim d n [] c)
goes_first form p s d n c a b l t h =
    let e : n ≡ 0 + n = omega arith in
    record { same = a; degree = b; left = l; lists = t ∙ map_none s.lists; long = subst (λ m. AllLong (2 ^ m) s.lists) e h }

-- ---- what a prover gives where a message is due
pub round_gives : {S T C : Type 0} (X : Summing T C) (form : S → Form) (p q : Proving S) (old new : List ℕ) → 0 < p.left → ((n : ℕ) → p.left ≡ suc n → new ≡ old ++ true_round (sum_of form p) p.degree n []) → q ≡ p
    → (F : Filling) (t : T) (r : Rounds) → Goes form p (X.sum F t) r → AwaitsSome (summed_entries X (adding t r))
    → (new ≡ old ++ summed_honest X F (adding t r)) × Accompanies X form q F (summed_message X (adding t r) (summed_honest X F (adding t r)))
round_gives X form p q old new l o e F t (sum_claim d zero z c) h w = let k = h.left in absurd (omega arith)
round_gives X form p q old new l o e F t (sum_claim d (suc n) z c) h w =
    (o n h.left ∙ ap (λ v. old ++ v) (goes_round form p (X.sum F t) d n z c h), goes_passed form q (X.sum F t) d n z c (true_round (X.sum F t) d n z) (subst (λ q. Goes form q (X.sum F t) (sum_claim d (suc n) z c)) (sym e) h))
round_gives X form p q old new l o e F t (round_claim d n z v) h w = absurd w

pub final_gives : {S T C : Type 0} (X : Summing T C) (form : S → Form) (p q : Proving S) (old new v : List ℕ) → p.left ≡ 0 → new ≡ old ++ v
    → (F : Filling) (t : T) (r : Rounds) → ((d : ℕ) (z : List ℕ) (c : ℕ) → Goes form p (X.sum F t) (sum_claim d zero z c) → v ≡ X.finals F t z) → Goes form p (X.sum F t) r → AwaitsSome (summed_entries X (adding t r))
    → (new ≡ old ++ summed_honest X F (adding t r)) × Accompanies X form q F (summed_message X (adding t r) (summed_honest X F (adding t r)))
final_gives X form p q old new v l o F t (sum_claim d zero z c) f h w = (o ∙ ap (λ v. old ++ v) (f d z c h), tt)
final_gives X form p q old new v l o F t (sum_claim d (suc n) z c) f h w = let k = h.left in absurd (omega arith)
final_gives X form p q old new v l o F t (round_claim d n z u) f h w = absurd w

pub draw_sets : {S T C : Type 0} (X : Summing T C) (form : S → Form) (p q : Proving S) (x : ℕ) → q ≡ record p { left = p.left - 1; lists = map (fold_low x) p.lists }
    → (F : Filling) (t : T) (r : Rounds) → Goes form p (X.sum F t) r → AwaitsDraw (summed_entries X (adding t r)) → Goes form q (X.sum F t) (rounds_draw r x)
draw_sets X form p q x e F t (sum_claim d zero z c) h w = absurd w
draw_sets X form p q x e F t (sum_claim d (suc n) z c) h w = absurd w
draw_sets X form p q x e F t (round_claim d n z v) h w = goes_bound form p q (X.sum F t) d n x z v e h

pub draw_left : {S T C : Type 0} (X : Summing T C) (form : S → Form) (p : Proving S) (F : Filling) (t : T) (r : Rounds) → Goes form p (X.sum F t) r → AwaitsDraw (summed_entries X (adding t r)) → 0 < p.left
draw_left X form p F t (sum_claim d zero z c) h w = absurd w
draw_left X form p F t (sum_claim d (suc n) z c) h w = absurd w
draw_left X form p F t (round_claim d n z v) h w = let l = h.left in omega arith
