use Rattle.std.proofs.Common.{◌≡◌, ◌^◌, ◌∷◌, [], ◌∙◌, List, ℕ, length, ap, subst, sym, arith}
use Rattle.std.proofs.lemmas.Grind.{common_steps}
use Rattle.cube_laws.specs.SumClaim.{AllLong}
use Rattle.sumcheck.specs.Proving.{Proving}
use Rattle.sumcheck.specs.declared.summand.Pair.{Pair}
use Rattle.table_shape.specs.Placement.{places_log}
use Rattle.bit_claim.proofs.ProverSteps.{two_long}
use Rattle.bit_claim.proofs.sum_form.by_tables.Goals as goal

pub begin-requires-clause-long : goal.begin-requires-clause-long
begin-requires-clause-long c =
    let n = places_log c.args.batch.now.blocks in
    let t : c.push-2.new.self ≡ c.from_vec.result ∷ c.from_vec-2.result ∷ [] = grind (arith, common_steps) in
    (n, c.in_ok-table.ensures.few, two_long n c.from_vec.result c.from_vec-2.result c.push-2.new.self (ap length c.from_vec.ensures ∙ c.in_ok-table.ensures.long) (ap length (c.from_vec-2.ensures ∙ c.in_ok-cells.ensures) ∙ c.requires) t)

pub returns-clause-sum : goal.returns-clause-sum
returns-clause-sum c =
    let n = places_log c.args.batch.now.blocks in
    let t : c.push-2.new.self ≡ c.from_vec.result ∷ c.from_vec-2.result ∷ [] = grind (arith, common_steps) in
    let a = c.from_vec.ensures ∙ c.in_ok-table.ensures.table in
    let long = two_long n c.from_vec.result c.from_vec-2.result c.push-2.new.self (ap length c.from_vec.ensures ∙ c.in_ok-table.ensures.long) (ap length (c.from_vec-2.ensures ∙ c.in_ok-cells.ensures) ∙ c.requires) t in
    c.in_ok-sum.ensures n long ∙ ap with_lists (t ∙ (λ i. a i ∷ (c.from_vec-2.ensures ∙ c.in_ok-cells.ensures) i ∷ []))
  where
    with_lists : List (List ℕ) → Proving Pair
    with_lists ls = record { summand = record {}; degree = 2; left = places_log c.args.batch.now.blocks; lists = ls }

pub returns-clause-long : goal.returns-clause-long
returns-clause-long c =
    let n = places_log c.args.batch.now.blocks in
    let t : c.push-2.new.self ≡ c.from_vec.result ∷ c.from_vec-2.result ∷ [] = grind (arith, common_steps) in
    let long = two_long n c.from_vec.result c.from_vec-2.result c.push-2.new.self (ap length c.from_vec.ensures ∙ c.in_ok-table.ensures.long) (ap length (c.from_vec-2.ensures ∙ c.in_ok-cells.ensures) ∙ c.requires) t in
    subst (λ (p : Proving Pair). AllLong (2 ^ n) p.lists) (sym (c.in_ok-sum.ensures n long)) long
