-- A filling makes a state true.
-- Source: docs/REDUCTIONS.md, "A reduction".
use Rattle.sumcheck.specs.Machine.{Filling, Machine}

-- the filling has the sizes that a state speaks of, and all its claims are true of it
pub record IsTrueOf {S : Type 0} (M : Machine S) (F : Filling) (s : S) : Type 0 where
  pub fits : M.fits F s
  pub holds : M.holds F s
