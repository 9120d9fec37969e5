use Rattle.std.proofs.Common.{◌≡◌, ◌∙◌, ℕ, ◌<◌, ◌≤◌, List, [], ◌∷◌, length, refl, sym, ap, subst, arith}
use Rattle.cube_laws.specs.SumClaim.{AllLong}
use Rattle.sumcheck.specs.declared.column_claim.ColumnClaim.{ColumnClaim}
use Rattle.sumcheck.specs.Machine.{Filling}
use Rattle.eval_reduce.specs.declared.merge_prover.MergeProver.{MergeProver}
use Rattle.eval_reduce.specs.Following.{Follows, IsNew}
use Rattle.eval_reduce.specs.Merge.{AllOn, Merge, Takes, opening, points, room_of, state_claims, waiting}
use Rattle.walk_bench.proofs.begin_merge.Goals as goal

takes : (n : ℕ) (cs : List ColumnClaim) (w : Merge) → (2 ≤ length cs) × (length cs ≤ 3) → AllOn 0 5 n cs → w ≡ waiting n 3 → Takes 0 5 cs w
takes n cs w h on e = let few = h.1 in subst (Takes 0 5 cs) (sym e) ((h.0, omega arith), on)

all_placed : (n : ℕ) (cs : List ColumnClaim) → AllOn 0 5 n cs → AllLong n (points cs)
all_placed n [] h = tt
all_placed n (c ∷ cs) h = (h.0.1.1, all_placed n cs h.1)

-- the filling that has the column's values everywhere
followed : (n : ℕ) (p next : MergeProver) (w v : Merge) (cs : List ColumnClaim) → IsNew n p → w ≡ waiting n 3 → (2 ≤ length cs) × (length cs ≤ 3) → AllOn 0 5 n cs
    → ((F : Filling) (t k : ℕ) (ds : List ColumnClaim) → 0 < length cs → AllOn t k p.vars cs → points ds ≡ points cs → F t k ≡ p.column.items → Follows next F (opening t k p.vars ds))
    → ((t k : ℕ) → Takes t k cs w → v ≡ state_claims t k cs w) → Follows next (λ t k. p.column.items) v
followed n p next w v cs new e many on entered stated =
    let F : Filling = λ t k. p.column.items in
    let two = many.0 in
    let at = entered F 0 5 cs (omega arith) (subst (λ m. AllOn 0 5 m cs) (sym new.vars) on) refl refl in
    subst (Follows next F) (ap (λ m. opening 0 5 m cs) new.vars ∙ sym (stated 0 5 (takes n cs w many on e) ∙ ap (state_claims 0 5 cs) e)) at

pub enter-requires-clause-claims : goal.enter-requires-clause-claims
enter-requires-clause-claims c = (0, 5, takes c.args.log c.args.claims.now c.in-Ok.walk c.requires.many c.requires.on c.in-Ok.ensures)

pub enter-requires-clause-room : goal.enter-requires-clause-room
enter-requires-clause-room c = subst (λ w. length c.args.claims.now ≤ room_of w) (sym c.in-Ok.ensures) c.requires.many.1

pub enter-requires-2-clause-placed : goal.enter-requires-2-clause-placed
enter-requires-2-clause-placed c = all_placed c.in-Ok-begin.prover.vars c.args.claims.now (subst (λ n. AllOn 0 5 n c.args.claims.now) (sym c.in-Ok-begin.ensures.new.vars) c.requires.on)

pub returns : goal.returns
returns c =
    let p : MergeProver = c.in-Ok-begin.prover in
    ((λ t k. p.column.items), followed c.args.log p c.enter-2.new.self c.in-Ok.walk c.enter.new.self c.args.claims.now c.in-Ok-begin.ensures.new c.in-Ok.ensures c.requires.many c.requires.on c.enter-2.ensures c.enter.ensures)
