-- Steps of a prover towards the claim that it leaves.
use Rattle.std.proofs.Common.{◌≡◌, ◌∙◌, ℕ, zero, suc, ◌+◌, ◌-◌, ◌<◌, ◌≤◌, None, Some, List, [], ◌∷◌, ◌++◌, map, length, ap, arith, length-append}
use Rattle.cube_laws.specs.Extension.{fold_low}
use Rattle.cube_laws.specs.SumClaim.{Sum}
use Rattle.sumcheck.specs.declared.summand.Pair.{Pair}
use Rattle.sumcheck.specs.Machine.{Filling, AwaitsDraw}
use Rattle.sumcheck.specs.Pair.{pair_form}
use Rattle.sumcheck.specs.Proving.{Proving}
use Rattle.sumcheck.specs.Rounds.{Rounds, sum_claim, round_claim, rounds_draw, true_round}
use Rattle.sumcheck.specs.Summing.{Summing, adding, summed_entries}
use Rattle.sumcheck.proofs.Following.{draw_sets, goes_passed, goes_round}
use Rattle.eval_reduce.specs.Ending.{CanTell, Ending, Gives, GoesOn, drawn, second, told_claim}

-- ---- draws
pub record CanSet (e : Ending) : Type 0 where
  pub none : e.claim ≡ None
  pub room : length e.draws < e.vars

pub can_set : {T C : Type 0} (X : Summing T C) (p : Proving Pair) (e start : Ending) (s : Sum) (n : ℕ) (t : T) (r : Rounds) → start.claim ≡ None → n ≤ start.vars → GoesOn p e s start n r → AwaitsDraw (summed_entries X (adding t r)) → CanSet e
can_set X p e start s n t (sum_claim d zero z c) u l h w = absurd w
can_set X p e start s n t (sum_claim d (suc m) z c) u l h w = absurd w
can_set X p e start s n t (round_claim d m z v) u l h w =
    let k = h.vars in
    let a = ap (λ (x : Ending). x.vars) h.ending in
    let b = ap (λ (x : Ending). length x.draws) h.ending in
    record { none = ap (λ (x : Ending). x.claim) h.ending ∙ u; room = omega arith }

pub draw_kept : {T C : Type 0} (X : Summing T C) (p q : Proving Pair) (e f start : Ending) (n x : ℕ) → q ≡ record p { left = p.left - 1; lists = map (fold_low x) p.lists } → f ≡ drawn e (e.draws ++ x ∷ [])
    → (F : Filling) (t : T) (r : Rounds) → GoesOn p e (X.sum F t) start n r → AwaitsDraw (summed_entries X (adding t r)) → GoesOn q f (X.sum F t) start n (rounds_draw r x)
draw_kept X p q e f start n x a b F t (sum_claim d zero z c) h w = absurd w
draw_kept X p q e f start n x a b F t (sum_claim d (suc m) z c) h w = absurd w
draw_kept X p q e f start n x a b F t (round_claim d m z v) h w =
    let l = h.vars in
    let k = length-append z (x ∷ []) in
    record {
      goes = draw_sets X pair_form p q x a F t (round_claim d m z v) h.goes w;
      ending = b ∙ ap (λ (y : Ending). drawn y (y.draws ++ x ∷ [])) h.ending;
      vars = omega arith;
    }

-- ---- messages
pub can_tell : (p : Proving Pair) (e start : Ending) (s : Sum) (n : ℕ) (rest : List ℕ) (r : Rounds) → start.claim ≡ None → n + length rest ≤ start.vars → GoesOn p e s start n r → p.left ≡ 0 → CanTell e rest
can_tell p e start s n rest (sum_claim d (suc m) z c) u l h k = let g = h.goes.left in absurd (omega arith)
can_tell p e start s n rest (round_claim d m z v) u l h k = let g = h.goes.left in absurd (omega arith)
can_tell p e start s n rest (sum_claim d zero z c) u l h k =
    let g = h.vars in
    let a = ap (λ (x : Ending). x.vars) h.ending in
    let b = ap (λ (x : Ending). length x.draws) h.ending in
    record { none = ap (λ (x : Ending). x.claim) h.ending ∙ u; short = omega arith }

pub round_passes : (p : Proving Pair) (rest : List ℕ) (e f start : Ending) (old new : List ℕ) (s : Sum) (n d m : ℕ) (z : List ℕ) (c : ℕ) → Gives p rest e f old new → GoesOn p e s start n (sum_claim d (suc m) z c)
    → (new ≡ old ++ true_round s d m z) × GoesOn p f s start n (round_claim d m z (true_round s d m z))
round_passes p rest e f start old new s n d m z c g h =
    let k = g.round m h.goes.left in (
      k.0 ∙ ap (λ v. old ++ v) (goes_round pair_form p s d m z c h.goes),
      record { goes = goes_passed pair_form p s d m z c (true_round s d m z) h.goes; ending = k.1 ∙ h.ending; vars = h.vars },
    )

pub last_told : (p : Proving Pair) (rest : List ℕ) (e f start : Ending) (old new : List ℕ) (s : Sum) (n d : ℕ) (z : List ℕ) (c v : ℕ) → Gives p rest e f old new → GoesOn p e s start n (sum_claim d zero z c) → second p ≡ v
    → (new ≡ old ++ v ∷ []) × (f.claim ≡ Some (told_claim (drawn start z) rest v))
last_told p rest e f start old new s n d z c v g h q =
    let k = g.last h.goes.left in (
      k.0 ∙ ap (λ v. old ++ v ∷ []) q,
      k.1 ∙ (λ i. Some (told_claim (h.ending i) rest (q i))),
    )
