-- The true rounds of a sum, from its tables.
-- Source: docs/REDUCTIONS.md, "Provers".
use Rattle.std.specs.Prelude.{◌≡◌, ℕ, suc, ◌^◌, List, map}
use Rattle.cube_laws.specs.Extension.{fold_low, fold_all}
use Rattle.cube_laws.specs.Form.{Form}
use Rattle.cube_laws.specs.SumClaim.{Sum, AllLong, row}
use Rattle.sumcheck.specs.Machine.{Filling}
use Rattle.sumcheck.specs.Summing.{Summing, Summed, adding, closed}
use Rattle.sumcheck.specs.Rounds.{Rounds, sum_claim, round_claim, bound, variables, round_degree}

-- the numbers of tables at position p once their lowest variable is set to k
abbrev pub row_at : ℕ → List (List ℕ) → ℕ → List ℕ
row_at k lists p = row (map (fold_low k) lists) p

-- what is summed, of which S says the form, and tables of 2 ^ left numbers
pub record Proving (S : Type 0) : Type 0 where
  pub summand : S
  pub degree : ℕ
  pub left : ℕ
  pub lists : List (List ℕ)

abbrev pub sum_of : {S : Type 0} → (S → Form) → Proving S → Sum
sum_of form p = record { form = form p.summand; lists = p.lists }

-- how many variables a round or a draw still sets
abbrev pub unset : Rounds → ℕ
unset (sum_claim d n z c) = n
unset (round_claim d n z v) = suc n

-- a prover of a sum goes along with the rounds of its claim, whatever value is claimed
pub record Goes {S : Type 0} (form : S → Form) (p : Proving S) (s : Sum) (r : Rounds) : Type 0 where
  pub same : form p.summand ≡ s.form
  pub degree : p.degree ≡ round_degree r
  pub left : p.left ≡ unset r
  pub lists : p.lists ≡ map (fold_all (bound r)) s.lists
  pub long : AllLong (2 ^ variables r) s.lists

-- the same of a sum and the message that ends it; after it there is nothing more to prove
abbrev pub Accompanies : {S T C : Type 0} → Summing T C → (S → Form) → Proving S → Filling → Summed T C → Type 0
Accompanies X form p F (adding t r) = Goes form p (X.sum F t) r
Accompanies X form p F (closed c) = Unit {0}
