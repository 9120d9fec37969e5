-- A prover goes along with the walk of its group, whatever is refused.
-- Source: docs/REDUCTIONS.md, "Zerocheck".
use Rattle.std.specs.Prelude.{◌≡◌, ℕ, suc, ◌+◌, ◌^◌, List, [], length, Option, None, Some}
use Rattle.std.specs.List.{AllByRecursion}
use Rattle.cube_laws.specs.SumClaim.{AllLong}
use Rattle.sumcheck.specs.declared.column_claim.ColumnClaim.{ColumnClaim}
use Rattle.sumcheck.specs.Column.{ColumnHolds}
use Rattle.sumcheck.specs.Machine.{Filling}
use Rattle.sumcheck.specs.Proving.{Proving, Goes}
use Rattle.sumcheck.specs.Rounds.{Rounds, sum_claim, with_claim, bound, variables}
use Rattle.sumcheck.specs.Summing.{Summed, adding, closed}
use Rattle.zerocheck.specs.declared.zero_prover.ZeroProver.{ZeroProver}
use Rattle.zerocheck.specs.declared.zero_walk.Stage.{Stage}
use Rattle.zerocheck.specs.declared.zero_walk.Stage.TheVariants.{Waiting, Stated, Drawing}
use Rattle.sumcheck.specs.Ending.{Ending, untold}
use Rattle.zerocheck.specs.Group.{Group}
use Rattle.zerocheck.specs.Zero.{Zero, Zeroed, columns_of, stated, summed, vector, waiting, zero_form, zeroed_sum}

-- ---- before the first message
-- a group of which nothing was drawn
abbrev pub undrawn : Group → Zeroed
undrawn g = record { group = g; beta = 0; point = [] }

-- the prover holds the lists of the group's columns, and what was drawn
pub record Holds (p : ZeroProver) (stage : Stage) (t : Zeroed) (lists : List (List ℕ)) : Type 0 where
  pub opening : p.opening ≡ Some (record { stage = stage; zeroed = t; lists = lists })
  pub none : p.sum ≡ None
  pub long : AllLong (2 ^ t.group.vars) lists
  pub ending : p.ending ≡ untold t.group.table t.group.columns t.group.vars []

-- a prover for a group, before the claim is stated
abbrev pub IsNew : ZeroProver → Group → List (List ℕ) → Type 0
IsNew p g lists = Holds p Waiting (undrawn g) lists

-- ---- from the first message on
-- the prover of the sum goes along with its rounds, and their draws are kept
pub record GoesOn (q : Proving Zeroed) (e : Ending) (F : Filling) (t : Zeroed) (r : Rounds) : Type 0 where
  pub goes : Goes zero_form q (zeroed_sum F t) r
  pub ending : e ≡ untold t.group.table t.group.columns t.group.vars (bound r)
  pub vars : variables r ≡ t.group.vars

-- the prover has exactly these claims, and they are true
pub record Tells (e : Ending) (F : Filling) (cs : List ColumnClaim) : Type 0 where
  pub told : e.claims ≡ cs
  pub hold : AllByRecursion (ColumnHolds F) cs

abbrev pub FollowsEnd : Proving Zeroed → Ending → Filling → Summed Zeroed (List ColumnClaim) → Type 0
FollowsEnd q e F (adding t r) = GoesOn q e F t r
FollowsEnd q e F (closed claims) = Tells e F claims

-- ---- throughout
-- the coordinates are drawn, and no round of the sum has passed
pub record IsDrawn (t : Zeroed) (r : Rounds) : Type 0 where
  pub all : length t.point ≡ t.group.vars
  pub first : with_claim 0 r ≡ sum_claim (t.group.degree + 2) t.group.vars [] 0

abbrev pub FollowsSum : ZeroProver → Option (Proving Zeroed) → Filling → Zero → Type 0
FollowsSum p q F (waiting g) = ⊥
FollowsSum p None F (stated g) = Holds p Stated (undrawn g) (columns_of F g)
FollowsSum p None F (vector g beta prefix n) = (length prefix + suc n ≡ g.vars) × Holds p Drawing (record { group = g; beta = beta; point = prefix }) (columns_of F g)
FollowsSum p None F (summed (adding t r)) = IsDrawn t r × Holds p Drawing t (columns_of F t.group)
FollowsSum p None F (summed (closed claims)) = ⊥
FollowsSum p (Some q) F (stated g) = ⊥
FollowsSum p (Some q) F (vector g beta prefix n) = ⊥
FollowsSum p (Some q) F (summed s) = FollowsEnd q p.ending F s

abbrev pub FollowsZero : ZeroProver → Filling → Zero → Type 0
FollowsZero p F s = FollowsSum p p.sum F s
