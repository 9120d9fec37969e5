-- A prover of a merge goes along with its walk, whatever values are claimed.
-- Source: docs/REDUCTIONS.md, "Merge".
use Rattle.std.specs.Prelude.{◌≡◌, ◌≤◌, ℕ, ◌^◌, List, [], length, Option, None, Some}
use Rattle.cube_laws.specs.SumClaim.{AllLong}
use Rattle.sumcheck.specs.declared.summand.Pair.{Pair}
use Rattle.sumcheck.specs.Machine.{Filling}
use Rattle.sumcheck.specs.Proving.{Proving}
use Rattle.sumcheck.specs.Rounds.{sum_claim, with_claim}
use Rattle.sumcheck.specs.Summing.{adding, closed}
use Rattle.eval_reduce.specs.declared.merge_prover.MergeProver.{MergeProver}
use Rattle.eval_reduce.specs.Ending.{Ending, GoesOn, Tells, untold}
use Rattle.eval_reduce.specs.Merge.{Joined, Merge, waiting, opening, summed, points, joined_sum}

-- a prover for a column of n variables, before the claims are stated
pub record IsNew (n : ℕ) (p : MergeProver) : Type 0 where
  pub vars : p.vars ≡ n
  pub few : p.vars ≤ 32
  pub whole : length p.column.items ≡ 2 ^ p.vars
  pub room : p.room.vars ≡ p.vars
  pub none : p.sum ≡ None
  pub ending : p.ending ≡ untold 0 0 p.vars

-- before its first message a prover holds the column and the claims' points; their values may differ
pub record Ready (p : MergeProver) (F : Filling) (t k n : ℕ) (ps : List (List ℕ)) : Type 0 where
  pub few : p.vars ≤ 32
  pub all : p.vars ≡ n
  pub at : points p.claims.items ≡ ps
  pub placed : AllLong n ps
  pub held : p.column.items ≡ F t k
  pub whole : length (F t k) ≡ 2 ^ n
  pub ending : p.ending ≡ untold t k n

-- the ending before the sum's first draw
abbrev pub on_column : Joined → Ending
on_column j = untold j.table j.column j.vars

abbrev pub FollowsSum : MergeProver → Option (Proving Pair) → Filling → Merge → Type 0
FollowsSum p q F (waiting n o) = ⊥
FollowsSum p None F (opening t k n cs) = Ready p F t k n (points cs)
FollowsSum p None F (summed (adding j r)) = ((p.mu ≡ Some j.mu) × (with_claim 0 r ≡ sum_claim 2 j.vars [] 0)) × Ready p F j.table j.column j.vars (points j.claims)
FollowsSum p None F (summed (closed c)) = ⊥
FollowsSum p (Some q) F (opening t k n cs) = ⊥
FollowsSum p (Some q) F (summed (adding j r)) = GoesOn q p.ending (joined_sum F j) (on_column j) j.vars r
FollowsSum p (Some q) F (summed (closed c)) = Tells p.ending F c

abbrev pub Follows : MergeProver → Filling → Merge → Type 0
Follows p F s = FollowsSum p p.sum F s
