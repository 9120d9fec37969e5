-- A claim on a shifted column is a sum over a block of its source.
-- Source: docs/REDUCTIONS.md, "Shifted columns".
use Rattle.std.specs.Prelude.{◌≡◌, ◌≤◌, ◌==◌, ◌^◌, ◌↔◌, cond, ℕ, List, [], ◌∷◌, ◌++◌, take, drop, length, slice_index, Option, None, Some, option_and_then}
use Rattle.tower_laws.specs.Tower.{mul}
use Rattle.cube_laws.specs.Extension.{extension}
use Rattle.cube_laws.specs.SumClaim.{Sum}
use Rattle.shift_laws.specs.Shifts.{shift_at, shift_sum, shifted}
use Rattle.cube_mle.specs.Moving.{shift_of}
use Rattle.cube_mle.specs.declared.shift.ShiftKind.TheVariants.{Shl, Shr, Rol}
use Rattle.poly_forms.specs.declared.check_kind.CheckKind.TheVariants.{ShiftFinal}
use Rattle.poly_forms.specs.declared.draw_kind.DrawKind.TheVariants.{ShiftRound}
use Rattle.sumcheck.specs.declared.column_claim.ColumnClaim.{ColumnClaim}
use Rattle.sumcheck.specs.declared.entry.Entry.{Entry}
use Rattle.sumcheck.specs.declared.refused.Refused.{Refused}
use Rattle.sumcheck.specs.Claim.{Claim, column_value, shift_terms}
use Rattle.sumcheck.specs.Column.{ColumnFits, ColumnHolds}
use Rattle.sumcheck.specs.Machine.{Filling, Machine}
use Rattle.sumcheck.specs.Rounds.{Rounds, sum_claim}
use Rattle.sumcheck.specs.Summing.{Summing, Summed, adding, closed, summed_entries, summed_refusal, summed_message, summed_draw, summed_pending, summed_round, SummedFits, SummedHolds, summed_honest}
use Rattle.table_shape.specs.declared.shape.ShapeForm.TheVariants as form
use Rattle.table_shape.specs.declared.shape.ColumnKind.{ColumnKind}
use Rattle.table_shape.specs.declared.shape.ColumnKind.TheVariants.{Virtual}
use Rattle.table_shape.specs.declared.shape.ColumnShape.{ColumnShape}
use Rattle.table_shape.specs.declared.shape.TableShape.{TableShape}
use Rattle.eval_reduce.specs.declared.shifting.Shifting.{Shifting}
use Rattle.eval_reduce.specs.Virtual.{IsOn, column_of, vars_on}

-- ---- from a shape
abbrev pub shifting : ℕ → ℕ → ℕ → ColumnKind → Option Shifting
shifting t c n (Virtual (form.Shl source block offset)) = Some (record { table = t; column = c; vars = n; source = source; kind = Shl; block = block; offset = offset })
shifting t c n (Virtual (form.Shr source block offset)) = Some (record { table = t; column = c; vars = n; source = source; kind = Shr; block = block; offset = offset })
shifting t c n (Virtual (form.Rol source block offset)) = Some (record { table = t; column = c; vars = n; source = source; kind = Rol; block = block; offset = offset })
shifting t c n kind = None

-- column c of table t on a number of rows, where it is a shifted one
abbrev pub shifting_of : List TableShape → ℕ → ℕ → ℕ → Option Shifting
shifting_of tables rows t c = option_and_then (λ (column : ColumnShape). shifting t c (vars_on rows column) column.kind) (column_of tables t c)

-- ---- the sum
-- a shifted column and the point of a claim on it, whose lowest coordinates stand for the place in a block
pub record Shifted : Type 0 where
  pub shifting : Shifting
  pub point : List ℕ

abbrev pub low : Shifted → List ℕ
low t = take t.shifting.block t.point

abbrev pub high : Shifted → List ℕ
high t = drop t.shifting.block t.point

abbrev pub source_of : Filling → Shifting → List ℕ
source_of F s = F s.table s.source

-- the sum over x of shift(low, x) · c(x, high)
abbrev pub shifted_sum : Filling → Shifted → Sum
shifted_sum F t = shift_sum (shift_of t.shifting.kind) t.shifting.block t.shifting.offset (source_of F t.shifting) (low t) (high t)

-- the claim on the source, at the draws and then the high coordinates
abbrev pub unshifted : Shifted → List ℕ → ℕ → ColumnClaim
unshifted t z v = record { table = t.shifting.table; column = t.shifting.source; point = z ++ high t; value = v }

abbrev pub the_sum : Summing Shifted ColumnClaim
the_sum = record {
  kind = ShiftRound;
  check = ShiftFinal;
  count = λ t. 1;
  terms = λ t. shift_terms t.shifting.table t.shifting.column t.point;
  sum = shifted_sum;
  fits = λ F t n. (t.shifting.block ≡ n) × ((t.shifting.block ≤ length t.point) × (length (source_of F t.shifting) ≡ 2 ^ length t.point));
  left = λ t z v. cond (length z == t.shifting.block) (mul (shift_at (shift_of t.shifting.kind) t.shifting.block t.shifting.offset (low t) z) (slice_index v 0)) 0;
  finals = λ F t z. extension (source_of F t.shifting) (z ++ high t) ∷ [];
  closed = λ t z v. unshifted t z (slice_index v 0);
  closed_fits = ColumnFits;
  closed_holds = ColumnHolds;
  closed_pending = λ claim. column_value claim ∷ [];
  rest = λ t. [];
  afterwards = λ claim. [];
}

-- ---- the walk's states
pub data Shift : Type 0 where
  -- before the claim is stated
  waiting : Shifting → Shift
  -- the sum, and then the claim on the source
  summed : Summed Shifted ColumnClaim → Shift

abbrev pub shift_entries : Shift → List Entry
shift_entries (waiting s) = []
shift_entries (summed s) = summed_entries the_sum s

abbrev pub shift_refusal : Shift → List ℕ → Option Refused
shift_refusal (waiting s) v = None
shift_refusal (summed s) v = summed_refusal the_sum s v

abbrev pub shift_message : Shift → List ℕ → Shift
shift_message (waiting s) v = waiting s
shift_message (summed s) v = summed (summed_message the_sum s v)

abbrev pub shift_draw : Shift → ℕ → Shift
shift_draw (waiting s) r = waiting s
shift_draw (summed s) r = summed (summed_draw s r)

abbrev pub shift_pending : Shift → List Claim
shift_pending (waiting s) = []
shift_pending (summed s) = summed_pending the_sum s

abbrev pub shift_round : Shift → Option ℕ
shift_round (waiting s) = None
shift_round (summed s) = summed_round the_sum s

abbrev pub ShiftFits : Filling → Shift → Type 0
ShiftFits F (waiting s) = Unit {0}
ShiftFits F (summed s) = SummedFits the_sum F s

abbrev pub ShiftHolds : Filling → Shift → Type 0
ShiftHolds F (waiting s) = Unit {0}
ShiftHolds F (summed s) = SummedHolds the_sum F s

abbrev pub shift_honest : Filling → Shift → List ℕ
shift_honest F (waiting s) = []
shift_honest F (summed s) = summed_honest the_sum F s

abbrev pub shift : Machine Shift
shift = record {
  entries = shift_entries;
  refusal = shift_refusal;
  after_message = shift_message;
  after_draw = shift_draw;
  pending = shift_pending;
  round_claim = shift_round;
  fits = ShiftFits;
  holds = ShiftHolds;
  honest = shift_honest;
}

-- ---- what is stated
-- the walk takes a claim on its column
abbrev pub ShiftTakes : ColumnClaim → Shift → Type 0
ShiftTakes claim (waiting s) = IsOn s.table s.column s.vars claim
ShiftTakes claim (summed s) = ⊥

-- the claim's value is claimed to be the sum
abbrev pub stated_sum : Shifting → ColumnClaim → Shift
stated_sum s claim = summed (adding (record { shifting = s; point = claim.point }) (sum_claim 2 s.block [] claim.value))

abbrev pub state_shift : ColumnClaim → Shift → Shift
state_shift claim (waiting s) = stated_sum s claim
state_shift claim (summed s) = summed s

-- the walk has come to its end
abbrev pub ShiftIsDone : Shift → Type 0
ShiftIsDone (waiting s) = ⊥
ShiftIsDone (summed (adding t r)) = ⊥
ShiftIsDone (summed (closed claim)) = Unit {0}

-- the filling has the values of the form on the column
pub record IsShifted (F : Filling) (s : Shifting) : Type 0 where
  pub column_is : F s.table s.column ≡ shifted (shift_of s.kind) s.block s.offset (2 ^ s.vars) (source_of F s)
  pub source_long : length (source_of F s) ≡ 2 ^ s.vars
  pub block_fits : s.block ≤ s.vars

-- the sum's claim is as true as that on the column
abbrev pub ShiftsKeepTruth : Type 0
ShiftsKeepTruth = (F : Filling) (s : Shifting) (claim : ColumnClaim) → IsShifted F s → IsOn s.table s.column s.vars claim → ShiftFits F (stated_sum s claim) × (ColumnHolds F claim ↔ ShiftHolds F (stated_sum s claim))

-- ---- the walk's fields
abbrev pub shift_walk_of : Shifting → Option Shifted → Rounds → Option ColumnClaim → Shift
shift_walk_of s None r None = waiting s
shift_walk_of s (Some t) r None = summed (adding t r)
shift_walk_of s t r (Some claim) = summed (closed claim)

-- the point has at most n coordinates
abbrev pub PointIsShort : ℕ → Option Shifted → Type 0
PointIsShort n None = Unit {0}
PointIsShort n (Some t) = length t.point ≤ n
