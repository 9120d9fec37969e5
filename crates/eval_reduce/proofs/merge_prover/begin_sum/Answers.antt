use Rattle.std.proofs.Common.{◌≡◌, ◌∷◌, [], ◌∙◌, List, ℕ, ap, length, arith}
use Rattle.std.proofs.lemmas.Grind.{common_steps}
use Rattle.sumcheck.specs.Proving.{Proving}
use Rattle.sumcheck.specs.declared.summand.Pair.{Pair}
use Rattle.eval_reduce.proofs.ProverSteps.{two_long}
use Rattle.eval_reduce.proofs.merge_prover.begin_sum.Goals as goal

pub begin-requires-clause-long : goal.begin-requires-clause-long
begin-requires-clause-long c =
    let t : c.push-2.new.self ≡ c.from_vec.result ∷ c.from_vec-2.result ∷ [] = grind (arith, common_steps) in
    (c.args.vars, c.requires.few, two_long c.args.vars c.args.mu c.args.claims.now c.from_vec.result c.from_vec-2.result c.push-2.new.self c.requires.placed (c.from_vec.ensures ∙ c.in_ok-weights.ensures) (ap length c.from_vec-2.ensures ∙ c.requires.whole) t)

pub returns : goal.returns
returns c =
    let t : c.push-2.new.self ≡ c.from_vec.result ∷ c.from_vec-2.result ∷ [] = grind (arith, common_steps) in
    let a = c.from_vec.ensures ∙ c.in_ok-weights.ensures in
    let long = two_long c.args.vars c.args.mu c.args.claims.now c.from_vec.result c.from_vec-2.result c.push-2.new.self c.requires.placed a (ap length c.from_vec-2.ensures ∙ c.requires.whole) t in
    c.in_ok-sum.ensures c.args.vars long ∙ ap with_lists (t ∙ (λ i. a i ∷ c.from_vec-2.ensures i ∷ []))
  where
    with_lists : List (List ℕ) → Proving Pair
    with_lists ls = record { summand = record {}; degree = 2; left = c.args.vars; lists = ls }
