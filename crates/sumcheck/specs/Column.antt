-- Claims on columns, and their truth.
-- Source: docs/REDUCTIONS.md, "Claims".
use Rattle.std.specs.Prelude.{◌≡◌, ℕ, ◌^◌, List, [], ◌∷◌, length}
use Rattle.cube_laws.specs.Extension.{extension}
use Rattle.sumcheck.specs.Machine.{Filling}
use Rattle.sumcheck.specs.declared.column_claim.ColumnClaim.{ColumnClaim}

-- the column's extension at the point is the value
abbrev pub ColumnHolds : Filling → ColumnClaim → Type 0
ColumnHolds F claim = extension (F claim.table claim.column) claim.point ≡ claim.value

-- the point has a coordinate for each variable of the column
abbrev pub ColumnFits : Filling → ColumnClaim → Type 0
ColumnFits F claim = length (F claim.table claim.column) ≡ 2 ^ length claim.point

-- a claim on each column of a table, at one point
abbrev pub column_claims : ℕ → List ℕ → List ℕ → List ℕ → List ColumnClaim
column_claims table z [] vs = []
column_claims table z (c ∷ cs) [] = []
column_claims table z (c ∷ cs) (v ∷ vs) = record { table = table; column = c; point = z; value = v } ∷ column_claims table z cs vs
