-- Memory for claims.
-- Source: docs/REDUCTIONS.md, "Merge".
use Rattle.std.specs.Prelude.{ℕ}

-- memory for that many claims at points of at most `vars` coordinates
pub record Space : Type 0 where
  pub vars : ℕ
  pub count : ℕ
