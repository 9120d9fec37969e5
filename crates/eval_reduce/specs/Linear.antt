-- A claim on a linear column is one on each of the columns of its terms.
-- Source: docs/REDUCTIONS.md, "Linear columns".
use Rattle.std.specs.Prelude.{◌≡◌, ◌≤◌, ◌^◌, ℕ, Bool, true, false, List, [], ◌∷◌, length, map, Option, None, Some, option_and_then}
use Rattle.std.specs.List.{AllByRecursion}
use Rattle.cube_laws.specs.Extension.{extension}
use Rattle.cube_laws.specs.SumClaim.{AllLong}
use Rattle.column_laws.specs.Columns.{linear, linear_value}
use Rattle.poly_forms.specs.declared.check_kind.CheckKind.TheVariants.{Linear as LinearCheck}
use Rattle.sumcheck.specs.declared.column_claim.ColumnClaim.{ColumnClaim}
use Rattle.sumcheck.specs.declared.entry.Entry.{Entry}
use Rattle.sumcheck.specs.declared.entry.Entry.TheVariants.{Message}
use Rattle.sumcheck.specs.declared.refused.Refused.{Refused}
use Rattle.sumcheck.specs.Claim.{Claim, column_value}
use Rattle.sumcheck.specs.Column.{ColumnFits, ColumnHolds}
use Rattle.sumcheck.specs.Machine.{Filling, Machine}
use Rattle.sumcheck.specs.Rounds.{checked}
use Rattle.table_shape.specs.declared.shape.ShapeTerm.{ShapeTerm}
use Rattle.table_shape.specs.declared.shape.ShapeForm.TheVariants as form
use Rattle.table_shape.specs.declared.shape.ColumnKind.{ColumnKind}
use Rattle.table_shape.specs.declared.shape.ColumnKind.TheVariants.{Virtual}
use Rattle.table_shape.specs.declared.shape.ColumnShape.{ColumnShape}
use Rattle.table_shape.specs.declared.shape.TableShape.{TableShape}
use Rattle.eval_reduce.specs.Virtual.{IsOn, column_of, vars_on}

-- a linear column of a number of variables
pub record Combination : Type 0 where
  pub table : ℕ
  pub column : ℕ
  pub vars : ℕ
  pub constant : ℕ
  pub terms : List ShapeTerm

abbrev pub coefficients : List ShapeTerm → List ℕ
coefficients ts = map (λ (t : ShapeTerm). t.coefficient) ts

-- the lists of the terms' columns
abbrev pub term_lists : Filling → ℕ → List ShapeTerm → List (List ℕ)
term_lists F table ts = map (λ (t : ShapeTerm). F table t.column) ts

-- ---- from a shape
abbrev pub combination : ℕ → ℕ → ℕ → ColumnKind → Option Combination
combination t c n (Virtual (form.Linear constant terms)) = Some (record { table = t; column = c; vars = n; constant = constant; terms = terms })
combination t c n kind = None

-- column c of table t on a number of rows, where it is a linear one
abbrev pub combination_of : List TableShape → ℕ → ℕ → ℕ → Option Combination
combination_of tables rows t c = option_and_then (λ (column : ColumnShape). combination t c (vars_on rows column) column.kind) (column_of tables t c)

-- ---- the step's states
pub data Linear : Type 0 where
  -- before the claim is stated
  waiting : Combination → Linear
  -- the claim on the column
  stated : Combination → ColumnClaim → Linear
  -- a claim for each term
  told : List ColumnClaim → Linear

-- a claim for each term, at the same point
abbrev pub term_claims : ColumnClaim → List ShapeTerm → List ℕ → List ColumnClaim
term_claims claim [] vs = []
term_claims claim (t ∷ ts) [] = []
term_claims claim (t ∷ ts) (v ∷ vs) = record { table = claim.table; column = t.column; point = claim.point; value = v } ∷ term_claims claim ts vs

abbrev pub linear_entries : Linear → List Entry
linear_entries (waiting f) = []
linear_entries (stated f claim) = Message LinearCheck (length f.terms) ∷ []
linear_entries (told cs) = []

abbrev pub linear_refusal : Linear → List ℕ → Option Refused
linear_refusal (waiting f) v = None
linear_refusal (stated f claim) v = checked LinearCheck (linear_value f.constant (coefficients f.terms) v) claim.value
linear_refusal (told cs) v = None

abbrev pub linear_message : Linear → List ℕ → Linear
linear_message (waiting f) v = waiting f
linear_message (stated f claim) v = told (term_claims claim f.terms v)
linear_message (told cs) v = told cs

abbrev pub linear_pending : Linear → List Claim
linear_pending (waiting f) = []
linear_pending (stated f claim) = column_value claim ∷ []
linear_pending (told cs) = map column_value cs

-- the claim is on the column, on which the filling has the values of the form
pub record IsLinear (F : Filling) (f : Combination) (claim : ColumnClaim) : Type 0 where
  pub on : IsOn f.table f.column f.vars claim
  pub column_is : F f.table f.column ≡ linear (2 ^ f.vars) f.constant (coefficients f.terms) (term_lists F f.table f.terms)
  pub long : AllLong (2 ^ f.vars) (term_lists F f.table f.terms)

abbrev pub LinearFits : Filling → Linear → Type 0
LinearFits F (waiting f) = Unit {0}
LinearFits F (stated f claim) = IsLinear F f claim
LinearFits F (told cs) = AllByRecursion (ColumnFits F) cs

abbrev pub LinearHolds : Filling → Linear → Type 0
LinearHolds F (waiting f) = Unit {0}
LinearHolds F (stated f claim) = ColumnHolds F claim
LinearHolds F (told cs) = AllByRecursion (ColumnHolds F) cs

abbrev pub linear_honest : Filling → Linear → List ℕ
linear_honest F (waiting f) = []
linear_honest F (stated f claim) = map (λ c. extension c claim.point) (term_lists F f.table f.terms)
linear_honest F (told cs) = []

abbrev pub linear_step : Machine Linear
linear_step = record {
  entries = linear_entries;
  refusal = linear_refusal;
  after_message = linear_message;
  after_draw = λ s r. s;
  pending = linear_pending;
  round_claim = λ s. None;
  fits = LinearFits;
  holds = LinearHolds;
  honest = linear_honest;
}

-- ---- what is stated
-- the step takes a claim on its column
abbrev pub LinearTakes : ColumnClaim → Linear → Type 0
LinearTakes claim (waiting f) = IsOn f.table f.column f.vars claim
LinearTakes claim (stated f other) = ⊥
LinearTakes claim (told cs) = ⊥

abbrev pub state_linear : ColumnClaim → Linear → Linear
state_linear claim (waiting f) = stated f claim
state_linear claim (stated f other) = stated f other
state_linear claim (told cs) = told cs

-- the step has come to its end
abbrev pub LinearIsDone : Linear → Type 0
LinearIsDone (waiting f) = ⊥
LinearIsDone (stated f claim) = ⊥
LinearIsDone (told cs) = Unit {0}

-- ---- the step's fields
abbrev pub linear_of : Bool → Combination → Option ColumnClaim → List ColumnClaim → Linear
linear_of true f claim cs = told cs
linear_of false f None cs = waiting f
linear_of false f (Some claim) cs = stated f claim

-- the claim's point has at most n coordinates
abbrev pub ClaimIsShort : ℕ → Option ColumnClaim → Type 0
ClaimIsShort n None = Unit {0}
ClaimIsShort n (Some claim) = length claim.point ≤ n
