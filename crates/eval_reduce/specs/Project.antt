-- A claim on a projected column is one on its source.
-- Source: docs/REDUCTIONS.md, "Projected columns".
use Rattle.std.specs.Prelude.{◌≡◌, ◌<◌, ◌+◌, ◌^◌, ◌↔◌, ℕ, List, [], ◌∷◌, ◌++◌, length, Option, None, Some, option_and_then}
use Rattle.cube_laws.specs.Extension.{bits_of}
use Rattle.column_laws.specs.Columns.{projected}
use Rattle.sumcheck.specs.declared.column_claim.ColumnClaim.{ColumnClaim}
use Rattle.sumcheck.specs.Claim.{Claim, column_value}
use Rattle.sumcheck.specs.Column.{ColumnFits, ColumnHolds}
use Rattle.sumcheck.specs.Machine.{Filling, Machine}
use Rattle.table_shape.specs.declared.shape.ShapeForm.TheVariants as form
use Rattle.table_shape.specs.declared.shape.ColumnKind.{ColumnKind}
use Rattle.table_shape.specs.declared.shape.ColumnKind.TheVariants.{Virtual}
use Rattle.table_shape.specs.declared.shape.ColumnShape.{ColumnShape}
use Rattle.table_shape.specs.declared.shape.TableShape.{TableShape}
use Rattle.eval_reduce.specs.declared.projection.Projection.{Projection}
use Rattle.eval_reduce.specs.Virtual.{IsOn, column_of, vars_on}

-- ---- from a shape
abbrev pub projection : ℕ → ℕ → ℕ → ColumnKind → Option Projection
projection t c n (Virtual (form.Project source log index)) = Some (record { table = t; column = c; vars = n; source = source; log = log; index = index })
projection t c n kind = None

-- column c of table t on a number of rows, where it is a projected one
abbrev pub projection_of : List TableShape → ℕ → ℕ → ℕ → Option Projection
projection_of tables rows t c = option_and_then (λ (column : ColumnShape). projection t c (vars_on rows column) column.kind) (column_of tables t c)

-- ---- the step's states
pub data Project : Type 0 where
  -- before the claim is stated
  waiting : Projection → Project
  -- the claim on the source
  closed : ColumnClaim → Project

-- the claim on the source: at the bits of the index, and then the point
abbrev pub projected_claim : Projection → ColumnClaim → ColumnClaim
projected_claim p claim = record { table = p.table; column = p.source; point = bits_of p.log p.index ++ claim.point; value = claim.value }

abbrev pub project_pending : Project → List Claim
project_pending (waiting p) = []
project_pending (closed claim) = column_value claim ∷ []

abbrev pub ProjectFits : Filling → Project → Type 0
ProjectFits F (waiting p) = Unit {0}
ProjectFits F (closed claim) = ColumnFits F claim

abbrev pub ProjectHolds : Filling → Project → Type 0
ProjectHolds F (waiting p) = Unit {0}
ProjectHolds F (closed claim) = ColumnHolds F claim

-- there is neither a message nor a draw
abbrev pub project : Machine Project
project = record {
  entries = λ s. [];
  refusal = λ s v. None;
  after_message = λ s v. s;
  after_draw = λ s r. s;
  pending = project_pending;
  round_claim = λ s. None;
  fits = ProjectFits;
  holds = ProjectHolds;
  honest = λ F s. [];
}

-- the filling has the values of the form on the column
pub record IsProjected (F : Filling) (p : Projection) : Type 0 where
  pub column_is : F p.table p.column ≡ projected p.log p.index (2 ^ p.vars) (F p.table p.source)
  pub source_long : length (F p.table p.source) ≡ 2 ^ (p.log + p.vars)
  pub index_fits : p.index < 2 ^ p.log

-- the claim on the source is as true as that on the column
abbrev pub ProjectsKeepTruth : Type 0
ProjectsKeepTruth =
    (F : Filling) (p : Projection) (claim : ColumnClaim) → IsProjected F p → IsOn p.table p.column p.vars claim
    → ColumnFits F (projected_claim p claim) × (ColumnHolds F claim ↔ ColumnHolds F (projected_claim p claim))

-- ---- what is stated
-- the step takes a claim on its column
abbrev pub ProjectTakes : ColumnClaim → Project → Type 0
ProjectTakes claim (waiting p) = IsOn p.table p.column p.vars claim
ProjectTakes claim (closed other) = ⊥

abbrev pub state_project : ColumnClaim → Project → Project
state_project claim (waiting p) = closed (projected_claim p claim)
state_project claim (closed other) = closed other

-- the step has come to its end
abbrev pub ProjectIsDone : Project → Type 0
ProjectIsDone (waiting p) = ⊥
ProjectIsDone (closed claim) = Unit {0}

-- ---- the step's fields
abbrev pub project_at : Projection → Option ColumnClaim → Project
project_at p None = waiting p
project_at p (Some claim) = closed claim
