-- What the judge finds: the first value that isn't 0, part by part, and the least tuple of unequal counts.
-- Source: docs/ARCHITECTURE.md, "Within m3_judge".
use Rattle.std.specs.Prelude.{◌≡◌, ◌≢◌, ℕ, ◌+◌, ◌*◌, ◌^◌, ◌<◌, List, [], slice_get, slice_index, slice_index_or, Some, Option, MatchOption}
use Rattle.counting_laws.specs.Multiset.{Same, count, same_tuple}
use Rattle.table_text.specs.declared.decl.Side.TheVariants.{Push, Pull}
use Rattle.table_shape.specs.declared.shape.ConstraintShape.{ConstraintShape}
use Rattle.table_shape.specs.declared.shape.TableShape.{TableShape}
use Rattle.m3_judge.specs.declared.constraints.Found.{Found}
use Rattle.m3_judge.specs.declared.constraints.NonZero.{NonZero as OwnNonZero}
use Rattle.m3_judge.specs.declared.unequal.Unequal.{Unequal as OwnUnequal}
use Rattle.m3_judge.specs.declared.verdict.Violation.{Violation as OwnViolation}
use Rattle.m3_judge.specs.declared.verdict.Violation.TheVariants.{Constraint, Channel}
use Rattle.m3_judge.specs.declared.verdict.Verdict.{Verdict}
use Rattle.m3_judge.specs.declared.verdict.Verdict.TheVariants.{Satisfied, Violated}
use Rattle.column_store.specs.Column.{ColumnValues, list_of, lists}
use Rattle.table_shape.specs.Value.{value}
use Rattle.table_shape.specs.Filling.{Filling}
use Rattle.table_shape.specs.Parts.{ShapeParts}
use Rattle.table_shape.specs.Channels.{tuples}
use Rattle.table_shape.specs.Satisfies.{AreZero, AreAllZero, NonZero, IsFirstNonZero, Satisfies, Violation, nonzero, unequal, IsFirstViolation}
use Rattle.m3_judge.specs.Order.{IsLeastUnequal}

-- a value that isn't 0 as definitions have it
abbrev pub seen : OwnNonZero → NonZero
seen v = record { table = v.table; constraint = v.constraint; row = v.row; index = v.index; value = v.value }

-- a violation as definitions have it
abbrev pub violation_of : OwnViolation → Violation
violation_of (Constraint table constraint row index value) = nonzero (record { table = table; constraint = constraint; row = row; index = index; value = value })
violation_of (Channel channel tuple pushed pulled) = unequal (record { channel = channel; tuple = tuple; pushed = pushed; pulled = pulled })

-- the value of each of these columns at a position
abbrev pub values_in : List ColumnValues → ℕ → ℕ → ℕ
values_in columns position c = slice_index (list_of (lists columns) c) position

-- the value of a constraint at a row and an index, by the lists of its table's columns
abbrev pub value_of : List (List ℕ) → ConstraintShape → ℕ → ℕ → ℕ
value_of lists constraint row index = value (λ c. slice_index (slice_index_or lists c []) (row * 2 ^ constraint.log_values + index)) constraint.expr

-- a constraint is 0 at each index of each of the first rows
abbrev pub IsZeroOn : List (List ℕ) → ConstraintShape → ℕ → Type 0
IsZeroOn lists constraint rows = (row index : ℕ) → row < rows → index < 2 ^ constraint.log_values → value_of lists constraint row index ≡ 0

-- the first indices of a row, n of them, have the value 0
abbrev pub IsZeroAtIndices : List (List ℕ) → ConstraintShape → ℕ → ℕ → Type 0
IsZeroAtIndices lists constraint row n = (index : ℕ) → index < n → value_of lists constraint row index ≡ 0

-- the first value of a constraint in a row that isn't 0
pub record IsFirstInRow (lists : List (List ℕ)) (constraint : ConstraintShape) (row : ℕ) (found : Found) : Type 0 where
  pub row_is : found.row ≡ row
  pub index : found.index < 2 ^ constraint.log_values
  pub value : found.value ≡ value_of lists constraint row found.index
  pub not_zero : found.value ≢ 0
  pub before : IsZeroAtIndices lists constraint row found.index

-- the first value of a constraint that isn't 0
pub record IsFirstFound (lists : List (List ℕ)) (constraint : ConstraintShape) (rows : ℕ) (found : Found) : Type 0 where
  pub row : found.row < rows
  pub index : found.index < 2 ^ constraint.log_values
  pub value : found.value ≡ value_of lists constraint found.row found.index
  pub not_zero : found.value ≢ 0
  pub rows_before : IsZeroOn lists constraint found.row
  pub indices_before : IsZeroAtIndices lists constraint found.row found.index

-- a search through the first rows finds the first value that isn't 0, or all are 0
abbrev pub FindsFirst : List (List ℕ) → ConstraintShape → ℕ → Option Found → Type 0
FindsFirst lists constraint rows found = MatchOption found (IsZeroOn lists constraint rows) (IsFirstFound lists constraint rows)

-- a constraint of a table whose first value that isn't 0 is this, after constraints that are 0
pub record IsFirstInTable (filling : Filling) (table : TableShape) (rows : ℕ) (v : OwnNonZero) : Type 0 where
  pub constraint : ConstraintShape
  pub is : slice_get table.constraints v.constraint ≡ Some constraint
  pub found : IsFirstFound (slice_index_or filling v.table []) constraint rows (record { row = v.row; index = v.index; value = v.value })
  pub before : AreZero filling v.table table rows v.constraint

abbrev pub FindsFirstInTable : Filling → ℕ → TableShape → ℕ → ℕ → Option OwnNonZero → Type 0
FindsFirstInTable filling t table rows n found = MatchOption found (AreZero filling t table rows n) (λ v. (v.table ≡ t) × IsFirstInTable filling table rows v)

-- a search through all tables finds the first value that isn't 0, or all are 0
abbrev pub FindsFirstNonZero : List TableShape → List ℕ → Filling → Option OwnNonZero → Type 0
FindsFirstNonZero tables rows filling found = MatchOption found (AreAllZero tables rows filling) (λ v. IsFirstNonZero tables rows filling (seen v))

-- the least tuple of a channel that is pushed and pulled unequally often, with both counts
pub record IsLeastOf (shape : ShapeParts) (rows : List ℕ) (filling : Filling) (channel : ℕ) (found : OwnUnequal) : Type 0 where
  pub least : IsLeastUnequal (tuples Push shape rows filling channel) (tuples Pull shape rows filling channel) found.tuple
  pub pushed_is : found.pushed ≡ count same_tuple found.tuple (tuples Push shape rows filling channel)
  pub pulled_is : found.pulled ≡ count same_tuple found.tuple (tuples Pull shape rows filling channel)

-- a search through a channel finds that tuple, or each is pushed as often as it is pulled
abbrev pub FindsLeastUnequal : ShapeParts → List ℕ → Filling → ℕ → Option OwnUnequal → Type 0
FindsLeastUnequal shape rows filling channel found =
    MatchOption found (Same same_tuple (tuples Push shape rows filling channel) (tuples Pull shape rows filling channel)) (IsLeastOf shape rows filling channel)

-- what a verdict says
abbrev pub IsVerdict : ShapeParts → List ℕ → Filling → Verdict → Type 0
IsVerdict shape rows filling Satisfied = Satisfies shape rows filling
IsVerdict shape rows filling (Violated v) = IsFirstViolation shape rows filling (violation_of v)
