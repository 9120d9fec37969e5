-- Steps of the walk and of its prover.
use Rattle.std.proofs.Common.{◌≡◌, ◌∙◌, ◌-◌, ◌<◌, ◌^◌, ℕ, zero, suc, List, [], ◌∷◌, ◌++◌, length, map, get_or, Option, None, Some, refl, sym, ap, subst, arith}
use Rattle.cube_laws.specs.Sums.{tabulate}
use Rattle.cube_laws.specs.Extension.{eq, extension, fold_low, weights}
use Rattle.cube_laws.specs.SumClaim.{AllLong, row}
use Rattle.cube_laws.proofs.Folding.{length-weights}
use Rattle.cube_mle.proofs.Doubling.{weights_are}
use Rattle.sumcheck.specs.declared.column_claim.ColumnClaim.{ColumnClaim}
use Rattle.sumcheck.specs.declared.summand.Pair.{Pair}
use Rattle.sumcheck.specs.Machine.{AwaitsDraw, AwaitsSome, Filling}
use Rattle.sumcheck.specs.Pair.{pair_form}
use Rattle.sumcheck.specs.Proving.{Accompanies, Goes, Proving, sum_of}
use Rattle.sumcheck.specs.Rounds.{Rounds, sum_claim, DrawIsDue, true_round}
use Rattle.sumcheck.specs.Summing.{adding, closed, summed_draw, summed_entries, summed_honest}
use Rattle.sumcheck.proofs.Lawful.{draw_due}
use Rattle.sumcheck.proofs.Following.{draw_sets, final_gives, goes_first, goes_last, round_gives}
use Rattle.walk_example.specs.declared.moved.Moved.{Moved}
use Rattle.walk_example.specs.Move.{Move, move_of, moved_sum, the_sum}

pub bind_due : (t : Moved) (r : Rounds) (o : Option ColumnClaim) (s : Move) → move_of t r o ≡ s → AwaitsDraw (summed_entries the_sum s) → DrawIsDue r
bind_due t r None s e h = draw_due the_sum t r (subst (λ s. AwaitsDraw (summed_entries the_sum s)) (sym e) h)
bind_due t r (Some claim) s e h = absurd (let n : AwaitsDraw [] = subst (λ s. AwaitsDraw (summed_entries the_sum s)) (sym e) h in n)

pub draw_goes_on : (p q : Proving Pair) (x : ℕ) → q ≡ record p { left = p.left - 1; lists = map (fold_low x) p.lists }
    → (F : Filling) (s : Move) → Accompanies the_sum pair_form p F s → AwaitsDraw (summed_entries the_sum s) → Accompanies the_sum pair_form q F (summed_draw s x)
draw_goes_on p q x e F (adding t r) h w = draw_sets the_sum pair_form p q x e F t r h w
draw_goes_on p q x e F (closed claim) h w = absurd w

-- ---- a message
pub round_values : (p : Proving Pair) (old new : List ℕ) → 0 < p.left → ((n : ℕ) → p.left ≡ suc n → new ≡ old ++ true_round (sum_of pair_form p) p.degree n [])
    → (F : Filling) (s : Move) → Accompanies the_sum pair_form p F s → AwaitsSome (summed_entries the_sum s) → new ≡ old ++ summed_honest the_sum F s
round_values p old new l o F (adding t r) h w = (round_gives the_sum pair_form p p old new l o refl F t r h w).0
round_values p old new l o F (closed claim) h w = absurd w

pub last_values : (p : Proving Pair) (v : ℕ) (old new : List ℕ) → p.left ≡ 0 → ((d : ℕ) (z : List ℕ) (c : ℕ) (F : Filling) (t : Moved) → Goes pair_form p (moved_sum F t) (sum_claim d zero z c) → v ≡ extension (F t.claim.table t.claim.column) z) → new ≡ old ++ v ∷ []
    → (F : Filling) (s : Move) → Accompanies the_sum pair_form p F s → AwaitsSome (summed_entries the_sum s) → new ≡ old ++ summed_honest the_sum F s
last_values p v old new l is o F (adding t r) h w = (final_gives the_sum pair_form p p old new (v ∷ []) l o F t r (λ d z c g. ap (λ x. x ∷ []) (is d z c F t g)) h w).0
last_values p v old new l is o F (closed claim) h w = absurd w

pub last_is : (p : Proving Pair) (v : ℕ) (finals : List ℕ) → finals ≡ row p.lists 0 → v ≡ get_or finals 1 v
    → (d : ℕ) (z : List ℕ) (c : ℕ) (F : Filling) (t : Moved) → Goes pair_form p (moved_sum F t) (sum_claim d zero z c) → v ≡ extension (F t.claim.table t.claim.column) z
last_is p v finals e g d z c F t h =
    g ∙ ap (λ fs. get_or fs 1 v) (e ∙ ap (λ ls. row ls 0) h.lists) ∙ sym (ap (λ ls. get_or (get_or ls 1 []) 0 0) h.lists) ∙ goes_last pair_form p (moved_sum F t) d 1 z c (omega arith) h

-- ---- at the start
pub tables_long : (point cells ws : List ℕ) (tables : List (List ℕ)) → length cells ≡ 2 ^ length point → ws ≡ tabulate (2 ^ length point) (eq point) → tables ≡ ws ∷ cells ∷ [] → AllLong (2 ^ length point) tables
tables_long point cells ws tables whole e h =
    subst (AllLong (2 ^ length point)) (sym h) (ap length (e ∙ sym (weights_are point)) ∙ length-weights point, (whole, tt))

pub begins : (p : Proving Pair) (point cells ws : List ℕ) (tables : List (List ℕ)) → length cells ≡ 2 ^ length point → ws ≡ tabulate (2 ^ length point) (eq point) → tables ≡ ws ∷ cells ∷ []
    → p ≡ record { summand = record {}; degree = 2; left = length point; lists = tables }
    → (F : Filling) (t : Moved) (c : ℕ) → t.claim.point ≡ point → F t.claim.table t.claim.column ≡ cells → Goes pair_form p (moved_sum F t) (sum_claim 2 (length point) [] c)
begins p point cells ws tables whole e h is F t c at held =
    let lists : tables ≡ (moved_sum F t).lists = h ∙ (λ i. (e ∙ sym (weights_are point) ∙ ap weights (sym at)) i ∷ held' i ∷ []) in
    goes_first pair_form p (moved_sum F t) 2 (length point) c refl (ap (λ (p : Proving Pair). p.degree) is) (ap (λ (p : Proving Pair). p.left) is) (ap (λ (p : Proving Pair). p.lists) is ∙ lists)
    (subst (AllLong (2 ^ length point)) lists (tables_long point cells ws tables whole e h))
  where
    held' : cells ≡ F t.claim.table t.claim.column
    held' = sym held
