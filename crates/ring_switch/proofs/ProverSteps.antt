-- Steps of the prover.
use Rattle.std.proofs.Common.{◌≡◌, ◌∙◌, ℕ, zero, suc, ◌+◌, ◌-◌, ◌<◌, Some, None, List, [], ◌∷◌, ◌++◌, map, take, length, get_or, set, refl, sym, ap, subst, arith, length-append}
use Rattle.std.proofs.Math.ListN.{length-set}
use Rattle.cube_laws.specs.Extension.{extension, fold_low}
use Rattle.cube_laws.specs.SumClaim.{row}
use Rattle.sumcheck.specs.declared.summand.Pair.{Pair}
use Rattle.sumcheck.specs.Machine.{Filling, AwaitsSome, AwaitsDraw}
use Rattle.sumcheck.specs.Pair.{pair_form}
use Rattle.sumcheck.specs.Proving.{Proving, sum_of}
use Rattle.sumcheck.specs.Rounds.{Rounds, round_claim, rounds_draw, sum_claim, true_round}
use Rattle.sumcheck.specs.Summing.{adding, closed, summed_entries, summed_honest, summed_message}
use Rattle.sumcheck.proofs.Following.{draw_sets, goes_last, goes_passed, goes_round}
use Rattle.ring_switch.specs.declared.switch_prover.SwitchProver.{SwitchProver}
use Rattle.ring_switch.specs.Switching.{PackedValue, Switched, Switching, packed, rowed, setting, summed, switch_sum, switching_draw, switching_entries, valued, waiting}
use Rattle.ring_switch.specs.SwitchProver.{FollowsEnd, FollowsSum, GoesOn, Holds}
use Rattle.ring_switch.proofs.SwitchSteps.{set_last}

-- ---- a draw of a coordinate
pub not_all_drawn : (p : SwitchProver) (F : Filling) (s : Switching) → FollowsSum p None F s → AwaitsDraw (switching_entries s) → p.drawn < 7
not_all_drawn p F (waiting n) h w = absurd h
not_all_drawn p F (valued z s) h w = absurd w
not_all_drawn p F (rowed high prefix rows n) h w = let l = h.0 in let k = h.1.count in omega arith
not_all_drawn p F (summed (adding t (sum_claim d zero z c))) h w = absurd w
not_all_drawn p F (summed (adding t (sum_claim d (suc n) z c))) h w = absurd w
not_all_drawn p F (summed (adding t (round_claim d n z v))) h w = let e = h.0.first in absurd (cc)
not_all_drawn p F (summed (closed c)) h w = absurd h

follows_setting : (p : SwitchProver) (F : Filling) (high prefix rows : List ℕ) (n : ℕ) → length prefix + n ≡ 7 → Holds p (packed F) high prefix → FollowsSum p None F (setting high prefix rows n)
follows_setting p F high prefix rows zero l h = (record { all = omega arith; first = refl }, h)
follows_setting p F high prefix rows (suc n) l h = (l, h)

-- the prover with one more draw
one_drawn : (p next : SwitchProver) (words high prefix : List ℕ) (c : ℕ) → next ≡ record p { switched = record p.switched { combine = set p.switched.combine p.drawn c }; drawn = p.drawn + 1 } → p.drawn < 7 → Holds p words high prefix → Holds next words high (prefix ++ c ∷ [])
one_drawn p next words high prefix c e l h =
    let seven = h.seven in
    let up : p.drawn + 1 ≡ suc p.drawn = omega arith in
    subst (λ (q : SwitchProver). Holds q words high (prefix ++ c ∷ [])) (sym e)
    (record {
      held = h.held;
      whole = h.whole;
      few = h.few;
      placed = h.placed;
      count = let k = h.count in let a = length-append prefix (c ∷ []) in omega arith;
      draws = ap (λ k. take k (set p.switched.combine p.drawn c)) up ∙ set_last p.switched.combine p.drawn c (omega arith) ∙ ap (λ v. v ++ c ∷ []) h.draws;
      seven = length-set p.switched.combine p.drawn c ∙ seven;
      point = h.point;
    })

pub draw_sets_one : (p next : SwitchProver) (c : ℕ) → next ≡ record p { switched = record p.switched { combine = set p.switched.combine p.drawn c }; drawn = p.drawn + 1 } → (F : Filling) (s : Switching) → FollowsSum p None F s → AwaitsDraw (switching_entries s) → FollowsSum next None F (switching_draw s c)
draw_sets_one p next c e F (waiting n) h w = absurd h
draw_sets_one p next c e F (valued z s) h w = absurd w
draw_sets_one p next c e F (rowed high prefix rows n) h w =
    follows_setting next F high (prefix ++ c ∷ []) (fold_low c rows) n (let l = h.0 in let a = length-append prefix (c ∷ []) in omega arith)
    (one_drawn p next (packed F) high prefix c e (let l = h.0 in let k = h.1.count in omega arith) h.1)
draw_sets_one p next c e F (summed (adding t (sum_claim d zero z x))) h w = absurd w
draw_sets_one p next c e F (summed (adding t (sum_claim d (suc n) z x))) h w = absurd w
draw_sets_one p next c e F (summed (adding t (round_claim d n z v))) h w = let k = h.0.first in absurd (cc)
draw_sets_one p next c e F (summed (closed x)) h w = absurd h

-- ---- a draw after a round
abbrev bound_by : ℕ → PackedValue → PackedValue
bound_by c e = record e { point = e.point ++ c ∷ [] }

draw_binds : (p q : Proving Pair) (e f : PackedValue) (c : ℕ) → q ≡ record p { left = p.left - 1; lists = map (fold_low c) p.lists } → f ≡ bound_by c e
    → (F : Filling) (t : Switched) (r : Rounds) → GoesOn p e F t r → AwaitsDraw (summed_entries switch_sum (adding t r)) → GoesOn q f F t (rounds_draw r c)
draw_binds p q e f c a b F t (sum_claim d zero z x) h w = absurd w
draw_binds p q e f c a b F t (sum_claim d (suc n) z x) h w = absurd w
draw_binds p q e f c a b F t (round_claim d n z v) h w = record {
  goes = draw_sets switch_sum pair_form p q c a F t (round_claim d n z v) h.goes w;
  point = ap (λ (x : PackedValue). x.point) b ∙ ap (λ z. z ++ c ∷ []) h.point;
  vars = (let l = h.vars in let k = length-append z (c ∷ []) in omega arith);
  few = h.few;
}

pub draw_goes_on : (now next : SwitchProver) (p q : Proving Pair) (c : ℕ) → q ≡ record p { left = p.left - 1; lists = map (fold_low c) p.lists } → next.ending ≡ bound_by c now.ending → next.drawn ≡ now.drawn
    → (F : Filling) (s : Switching) → FollowsSum now (Some p) F s → AwaitsDraw (switching_entries s) → FollowsSum next (Some q) F (switching_draw s c)
draw_goes_on now next p q c a b d F (waiting n) h w = absurd h
draw_goes_on now next p q c a b d F (valued z s) h w = absurd h
draw_goes_on now next p q c a b d F (rowed high prefix rows n) h w = absurd h
draw_goes_on now next p q c a b d F (summed (adding t r)) h w = (d ∙ h.0, draw_binds p q now.ending next.ending c a b F t r h.1 w)
draw_goes_on now next p q c a b d F (summed (closed x)) h w = absurd w

-- ---- a round, and the last message
-- what `give` says
abbrev pub Gives : Proving Pair → PackedValue → PackedValue → List ℕ → List ℕ → Type 0
Gives p e f old new = (F : Filling) (t : Switched) (r : Rounds) → GoesOn p e F t r → AwaitsSome (summed_entries switch_sum (adding t r))
    → (new ≡ old ++ summed_honest switch_sum F (adding t r)) × FollowsEnd p f F (summed_message switch_sum (adding t r) (summed_honest switch_sum F (adding t r)))

pub round_gives : (p : Proving Pair) (e : PackedValue) (old new : List ℕ) → 0 < p.left → ((n : ℕ) → p.left ≡ suc n → new ≡ old ++ true_round (sum_of pair_form p) p.degree n []) → Gives p e e old new
round_gives p e old new l o F t (sum_claim d zero z c) h w = let k = h.goes.left in absurd (omega arith)
round_gives p e old new l o F t (sum_claim d (suc n) z c) h w =
    let v = true_round (switch_sum.sum F t) d n z in (
      o n h.goes.left ∙ ap (λ v. old ++ v) (goes_round pair_form p (switch_sum.sum F t) d n z c h.goes),
      record { goes = goes_passed pair_form p (switch_sum.sum F t) d n z c v h.goes; point = h.point; vars = h.vars; few = h.few },
    )
round_gives p e old new l o F t (round_claim d n z v) h w = absurd w

second_of : (lists : List (List ℕ)) (finals : List ℕ) (x : ℕ) → length lists ≡ 2 → finals ≡ row lists 0 → get_or finals 1 x ≡ get_or (get_or lists 1 []) 0 0
second_of [] finals x l e = absurd (omega arith)
second_of (f ∷ []) finals x l e = absurd (omega arith)
second_of (f ∷ g ∷ []) finals x l e = ap (λ v. get_or v 1 x) e
second_of (f ∷ g ∷ h ∷ fs) finals x l e = absurd (omega arith)

pub final_gives : (p : Proving Pair) (e f : PackedValue) (old new finals : List ℕ) (v : ℕ) → p.left ≡ 0 → finals ≡ row p.lists 0 → v ≡ get_or finals 1 v → new ≡ old ++ v ∷ [] → f ≡ record e { value = v } → Gives p e f old new
final_gives p e f old new finals v l a at o b F t (sum_claim d (suc n) z c) h w = let k = h.goes.left in absurd (omega arith)
final_gives p e f old new finals v l a at o b F t (round_claim d n z u) h w = absurd w
final_gives p e f old new finals v l a at o b F t (sum_claim d zero z c) h w =
    let is : v ≡ extension (packed F) z = at ∙ second_of p.lists finals v (ap length h.goes.lists) a ∙ goes_last pair_form p (switch_sum.sum F t) d 1 z c (omega arith) h.goes in (
      o ∙ ap (λ v. old ++ v ∷ []) is,
      record { point = ap (λ (x : PackedValue). x.point) b ∙ h.point; value = ap (λ (x : PackedValue). x.value) b ∙ is; holds = refl },
    )
