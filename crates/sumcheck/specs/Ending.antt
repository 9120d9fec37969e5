-- The claims that a prover leaves.
-- Source: docs/REDUCTIONS.md, "Provers".
use Rattle.std.specs.Prelude.{ℕ, List, []}
use Rattle.sumcheck.specs.declared.column_claim.ColumnClaim.{ColumnClaim}

-- columns of a table, the draws of rounds, of which there are at most `vars`, and the claims once they are told
pub record Ending : Type 0 where
  pub table : ℕ
  pub vars : ℕ
  pub columns : List ℕ
  pub point : List ℕ
  pub claims : List ColumnClaim

-- before the claims are told
abbrev pub untold : ℕ → List ℕ → ℕ → List ℕ → Ending
untold table columns vars z = record { table = table; vars = vars; columns = columns; point = z; claims = [] }
