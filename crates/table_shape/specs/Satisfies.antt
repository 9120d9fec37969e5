-- When values satisfy tables, and the first place where they don't.
-- Source: docs/LANGUAGE.md, "What a file means".
use Rattle.std.specs.Prelude.{◌≡◌, ◌≢◌, ℕ, ◌+◌, ◌*◌, ◌^◌, ◌<◌, Bool, true, false, cond, ◌==◌, nat_lt, List, [], ◌∷◌, slice_index, slice_get, Some}
use Rattle.counting_laws.specs.Multiset.{count, same_tuple}
use Rattle.table_text.specs.declared.decl.Side.TheVariants.{Push, Pull}
use Rattle.table_shape.specs.declared.shape.ChannelShape.{ChannelShape}
use Rattle.table_shape.specs.declared.shape.ConstraintShape.{ConstraintShape}
use Rattle.table_shape.specs.declared.shape.TableShape.{TableShape}
use Rattle.table_shape.specs.Value.{value}
use Rattle.table_shape.specs.Parts.{ShapeParts}
use Rattle.table_shape.specs.Filling.{Filling, values_at}
use Rattle.table_shape.specs.Channels.{tuples, IsInBalance}

-- the value of a constraint of table t at a row and an index
abbrev pub value_at : Filling → ℕ → ConstraintShape → ℕ → ℕ → ℕ
value_at filling t constraint row index = value (values_at filling t (row * 2 ^ constraint.log_values + index)) constraint.expr

-- a constraint is 0 at each index of each of the first rows
abbrev pub IsZeroOnRows : Filling → ℕ → ConstraintShape → ℕ → Type 0
IsZeroOnRows filling t constraint rows = (row index : ℕ) → row < rows → index < 2 ^ constraint.log_values → value_at filling t constraint row index ≡ 0

-- the first constraints of a table, n of them, are 0
abbrev pub AreZero : Filling → ℕ → TableShape → ℕ → ℕ → Type 0
AreZero filling t table rows n = (z : ℕ) (constraint : ConstraintShape) → z < n → slice_get table.constraints z ≡ Some constraint → IsZeroOnRows filling t constraint rows

-- so are those of the first tables, n of them
abbrev pub TablesAreZero : List TableShape → List ℕ → Filling → ℕ → Type 0
TablesAreZero tables rows filling n =
    (t : ℕ) (table : TableShape) (z : ℕ) (constraint : ConstraintShape) → t < n → slice_get tables t ≡ Some table → slice_get table.constraints z ≡ Some constraint → IsZeroOnRows filling t constraint (slice_index rows t)

-- each constraint is 0 at each row and each index
abbrev pub AreAllZero : List TableShape → List ℕ → Filling → Type 0
AreAllZero tables rows filling =
    (t : ℕ) (table : TableShape) (z : ℕ) (constraint : ConstraintShape) → slice_get tables t ≡ Some table → slice_get table.constraints z ≡ Some constraint → IsZeroOnRows filling t constraint (slice_index rows t)

-- each constraint is 0, and each channel is in balance
pub record Satisfies (shape : ShapeParts) (rows : List ℕ) (filling : Filling) : Type 0 where
  pub zero : AreAllZero shape.tables rows filling
  pub balanced : (channel : ℕ) → IsInBalance shape rows filling channel

-- a value of a constraint, and where it stands
pub record NonZero : Type 0 where
  pub table : ℕ
  pub constraint : ℕ
  pub row : ℕ
  pub index : ℕ
  pub value : ℕ

-- the first value that isn't 0, in the order of table, constraint, row and index
pub record IsFirstNonZero (tables : List TableShape) (rows : List ℕ) (filling : Filling) (v : NonZero) : Type 0 where
  pub table : TableShape
  pub constraint : ConstraintShape
  pub table_is : slice_get tables v.table ≡ Some table
  pub constraint_is : slice_get table.constraints v.constraint ≡ Some constraint
  pub row : v.row < slice_index rows v.table
  pub index : v.index < 2 ^ constraint.log_values
  pub value : v.value ≡ value_at filling v.table constraint v.row v.index
  pub not_zero : v.value ≢ 0
  pub tables_before : TablesAreZero tables rows filling v.table
  pub constraints_before : AreZero filling v.table table (slice_index rows v.table) v.constraint
  pub rows_before : IsZeroOnRows filling v.table constraint v.row
  pub indices_before : (index : ℕ) → index < v.index → value_at filling v.table constraint v.row index ≡ 0

-- tuples by their first numbers, then by their second ones, and so on
abbrev pub is_below : List ℕ → List ℕ → Bool
is_below [] [] = false
is_below [] (y ∷ ys) = true
is_below (x ∷ xs) [] = false
is_below (x ∷ xs) (y ∷ ys) = cond (x == y) (is_below xs ys) (nat_lt x y)

-- a tuple of a channel, and how often it is pushed and pulled
pub record Unequal : Type 0 where
  pub channel : ℕ
  pub tuple : List ℕ
  pub pushed : ℕ
  pub pulled : ℕ

-- the least tuple of unequal counts of the first channel that isn't in balance
pub record IsFirstUnequal (shape : ShapeParts) (rows : List ℕ) (filling : Filling) (v : Unequal) : Type 0 where
  pub channel : ChannelShape
  pub channel_is : slice_get shape.channels v.channel ≡ Some channel
  pub pushed_is : v.pushed ≡ count same_tuple v.tuple (tuples Push shape rows filling v.channel)
  pub pulled_is : v.pulled ≡ count same_tuple v.tuple (tuples Pull shape rows filling v.channel)
  pub unequal : v.pushed ≢ v.pulled
  pub channels_before : (channel : ℕ) → channel < v.channel → IsInBalance shape rows filling channel
  pub tuples_before : (tuple : List ℕ) → is_below tuple v.tuple ≡ true
      → count same_tuple tuple (tuples Push shape rows filling v.channel) ≡ count same_tuple tuple (tuples Pull shape rows filling v.channel)

pub data Violation : Type 0 where
  nonzero : NonZero → Violation
  unequal : Unequal → Violation

-- the first violation: of a constraint where one isn't 0, else of a channel
abbrev pub IsFirstViolation : ShapeParts → List ℕ → Filling → Violation → Type 0
IsFirstViolation shape rows filling (nonzero v) = IsFirstNonZero shape.tables rows filling v
IsFirstViolation shape rows filling (unequal v) = AreAllZero shape.tables rows filling × IsFirstUnequal shape rows filling v
