-- Memory for the points of claims.
-- Source: docs/REDUCTIONS.md, "Claims".
use Rattle.std.specs.Prelude.{ℕ}

-- memory for that many points of at most `vars` coordinates
pub record Space : Type 0 where
  pub vars : ℕ
  pub count : ℕ
