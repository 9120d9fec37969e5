-- The claim that a prover leaves.
-- Source: docs/REDUCTIONS.md, "Provers of claims on columns".
use Rattle.std.specs.Prelude.{◌≡◌, ◌≤◌, ℕ, suc, ◌+◌, List, [], ◌∷◌, ◌++◌, length, get_or, Option, None, Some}
use Rattle.cube_laws.specs.SumClaim.{Sum}
use Rattle.sumcheck.specs.declared.column_claim.ColumnClaim.{ColumnClaim}
use Rattle.sumcheck.specs.declared.summand.Pair.{Pair}
use Rattle.sumcheck.specs.Column.{ColumnHolds}
use Rattle.sumcheck.specs.Machine.{Filling}
use Rattle.sumcheck.specs.Pair.{pair_form}
use Rattle.sumcheck.specs.Proving.{Proving, Goes, sum_of}
use Rattle.sumcheck.specs.Rounds.{Rounds, bound, true_round, variables}

-- a column, the draws so far, how many coordinates a point may have, and the claim once it is told
pub record Ending : Type 0 where
  pub table : ℕ
  pub column : ℕ
  pub vars : ℕ
  pub draws : List ℕ
  pub claim : Option ColumnClaim

-- before any draw
abbrev pub untold : ℕ → ℕ → ℕ → Ending
untold t k n = record { table = t; column = k; vars = n; draws = []; claim = None }

abbrev pub drawn : Ending → List ℕ → Ending
drawn e z = record e { draws = z }

-- the claim at the draws and then the rest of a point
abbrev pub told_claim : Ending → List ℕ → ℕ → ColumnClaim
told_claim e rest v = record { table = e.table; column = e.column; point = e.draws ++ rest; value = v }

pub record CanTell (e : Ending) (rest : List ℕ) : Type 0 where
  pub none : e.claim ≡ None
  pub short : length e.draws + length rest ≤ e.vars

-- the prover has exactly this claim, and it is true
pub record Tells (e : Ending) (F : Filling) (c : ColumnClaim) : Type 0 where
  pub told : e.claim ≡ Some c
  pub holds : ColumnHolds F c

-- ---- sums of the products of two tables
-- the first value of the second table
abbrev pub second : Proving Pair → ℕ
second p = get_or (get_or p.lists 1 []) 0 0

-- a message is a round; or where none is left the second table's value, with which the claim is told
pub record Gives (p : Proving Pair) (rest : List ℕ) (e f : Ending) (old new : List ℕ) : Type 0 where
  pub round : (n : ℕ) → p.left ≡ suc n → (new ≡ old ++ true_round (sum_of pair_form p) p.degree n []) × (f ≡ e)
  pub last : p.left ≡ 0 → (new ≡ old ++ second p ∷ []) × (f.claim ≡ Some (told_claim e rest (second p)))

-- a prover goes along with the rounds of a sum of n variables, and has their draws
pub record GoesOn (p : Proving Pair) (e : Ending) (s : Sum) (start : Ending) (n : ℕ) (r : Rounds) : Type 0 where
  pub goes : Goes pair_form p s r
  pub ending : e ≡ drawn start (bound r)
  pub vars : variables r ≡ n
