use Rattle.std.proofs.Common.{◌≡◌, ◌∙◌, ℕ, zero, suc, ◌<◌, ◌≤◌, true, Option, Some, None, List, [], ◌∷◌, length, is_none, refl, sym, ap, subst, arith}
use Rattle.cube_laws.specs.SumClaim.{AllLong}
use Rattle.sumcheck.specs.declared.column_claim.ColumnClaim.{ColumnClaim}
use Rattle.sumcheck.specs.declared.summand.Pair.{Pair}
use Rattle.sumcheck.specs.Machine.{Filling, first_entry}
use Rattle.sumcheck.specs.Proving.{Proving}
use Rattle.sumcheck.specs.Rounds.{sum_claim, round_claim}
use Rattle.sumcheck.specs.Summing.{adding, closed}
use Rattle.eval_reduce.specs.declared.merge_prover.MergeProver.{MergeProver}
use Rattle.eval_reduce.specs.Following.{Follows, FollowsSum, IsNew}
use Rattle.eval_reduce.specs.Merge.{AllOn, IsDone, Merge, Takes, merge_entries, opening, points, state_claims, summed, waiting}
use Rattle.reduction_tests.proofs.merges.merge.Goals as goal

takes : (cs : List ColumnClaim) (w : Merge) → (2 ≤ length cs) × (length cs ≤ 32) → AllOn 0 5 2 cs → w ≡ waiting 2 32 → Takes 0 5 cs w
takes cs w h on e = let few = h.1 in subst (Takes 0 5 cs) (sym e) ((h.0, omega arith), on)

all_placed : (n : ℕ) (cs : List ColumnClaim) → AllOn 0 5 n cs → AllLong n (points cs)
all_placed n [] h = tt
all_placed n (c ∷ cs) h = (h.0.1.1, all_placed n cs h.1)

some_told : (cs ds : List ColumnClaim) → points cs ≡ points ds → 2 ≤ length cs → 0 < length ds
some_told [] ds e h = absurd (omega arith)
some_told (c ∷ cs) [] e h = absurd (cc)
some_told (c ∷ cs) (d ∷ ds) e h = omega arith

-- the filling that has the column's values everywhere
followed : (p next : MergeProver) (w v : Merge) (cs ds : List ColumnClaim) → IsNew 2 p → w ≡ waiting 2 32 → (2 ≤ length cs) × (length cs ≤ 32) → AllOn 0 5 2 cs → AllOn 0 5 2 ds × (points cs ≡ points ds)
    → ((F : Filling) (t k : ℕ) (cs : List ColumnClaim) → 0 < length ds → AllOn t k p.vars ds → points cs ≡ points ds → F t k ≡ p.column.items → Follows next F (opening t k p.vars cs))
    → ((t k : ℕ) → Takes t k cs w → v ≡ state_claims t k cs w) → Follows next (λ t k. p.column.items) v
followed p next w v cs ds new e many on told entered stated =
    let F : Filling = λ t k. p.column.items in
    let at = entered F 0 5 cs (some_told cs ds told.1 many.0) (subst (λ n. AllOn 0 5 n ds) (sym new.vars) told.0) told.1 refl in
    subst (Follows next F) (ap (λ n. opening 0 5 n cs) new.vars ∙ sym (stated 0 5 (takes cs w many on e) ∙ ap (state_claims 0 5 cs) e)) at

-- where no entry is due, the one claim is left
ended : (p : MergeProver) (q : Option (Proving Pair)) (F : Filling) (s : Merge) → FollowsSum p q F s → true ≡ is_none (first_entry (merge_entries s)) → (c : ColumnClaim) × (s ≡ summed (closed c))
ended p None F (waiting n o) h e = absurd h
ended p (Some q) F (waiting n o) h e = absurd h
ended p q F (opening t k n cs) h e = absurd (cc)
ended p q F (summed (adding j (sum_claim d zero z c))) h e = absurd (cc)
ended p q F (summed (adding j (sum_claim d (suc n) z c))) h e = absurd (cc)
ended p q F (summed (adding j (round_claim d n z v))) h e = absurd (cc)
ended p q F (summed (closed c)) h e = (c, refl)

pub enter-requires-clause-claims : goal.enter-requires-clause-claims
enter-requires-clause-claims c = (0, 5, takes c.args.claims.now c.in_ok-walk.walk c.requires.many c.requires.on c.in_ok-walk.ensures)

pub enter-requires-2-clause-placed : goal.enter-requires-2-clause-placed
enter-requires-2-clause-placed c = all_placed c.in_ok-prover.prover.vars c.args.told.now (subst (λ n. AllOn 0 5 n c.args.told.now) (sym c.in_ok-prover.ensures.new.vars) c.requires.told.0)

pub meet-requires : goal.meet-requires
meet-requires c =
    let p : MergeProver = c.in_ok-prover.prover in
    ((λ t k. p.column.items), followed p c.enter-2.new.self c.in_ok-walk.walk c.enter.new.self c.args.claims.now c.args.told.now c.in_ok-prover.ensures.new c.in_ok-walk.ensures c.requires.many c.requires.on c.requires.told c.enter-2.ensures c.enter.ensures)

pub claim-requires : goal.claim-requires
claim-requires c =
    let p : MergeProver = c.in_ok-prover.prover in
    let F : Filling = λ t k. p.column.items in
    let start = followed p c.enter-2.new.self c.in_ok-walk.walk c.enter.new.self c.args.claims.now c.args.told.now c.in_ok-prover.ensures.new c.in_ok-walk.ensures c.requires.many c.requires.on c.requires.told c.enter-2.ensures c.enter.ensures in
    let e : c.in_ok-passed.ended ≡ true = cc in
    let now = c.in_ok-passed.ensures.follows e F start in
    let end = ended c.meet.new.prover c.meet.new.prover.sum F c.meet.new.walk now (sym e ∙ c.in_ok-passed.ensures.ends) in
    (F, end.0, subst (Follows c.meet.new.prover F) end.1 now, omega arith)

pub claim-requires-2-clause-done : goal.claim-requires-2-clause-done
claim-requires-2-clause-done c =
    let p : MergeProver = c.in_ok-prover.prover in
    let F : Filling = λ t k. p.column.items in
    let start = followed p c.enter-2.new.self c.in_ok-walk.walk c.enter.new.self c.args.claims.now c.args.told.now c.in_ok-prover.ensures.new c.in_ok-walk.ensures c.requires.many c.requires.on c.requires.told c.enter-2.ensures c.enter.ensures in
    let e : c.in_ok-passed.ended ≡ true = cc in
    let now = c.in_ok-passed.ensures.follows e F start in
    subst IsDone (sym (ended c.meet.new.prover c.meet.new.prover.sum F c.meet.new.walk now (sym e ∙ c.in_ok-passed.ensures.ends)).1) tt
