-- The constraints of a group are 0 on the rows of their table: as a claim, and its reduction to claims on columns.
-- Source: docs/REDUCTIONS.md, "Zerocheck".
use Rattle.std.specs.Prelude.{◌≡◌, ◌≤◌, ◌<◌, ℕ, zero, suc, ◌+◌, ◌*◌, ◌-◌, ◌^◌, ltb, List, [], ◌∷◌, ◌++◌, length, map, drop, Option, None, Some}
use Rattle.std.specs.List.{AllByRecursion}
use Rattle.counting_laws.specs.Counting.{AtMost}
use Rattle.tower_laws.specs.Tower.{mul}
use Rattle.poly_laws.specs.Polynomial.{horner}
use Rattle.cube_laws.specs.Sums.{tabulate}
use Rattle.cube_laws.specs.Extension.{eq_points, extension, fold_all}
use Rattle.cube_laws.specs.Form.{Form, variable, times, moved, value, degree}
use Rattle.cube_laws.specs.SumClaim.{Sum, AllLong}
use Rattle.batch_laws.specs.Batch.{zeros, batch_form, values_of, eq_sum}
use Rattle.shift_laws.specs.Shifts.{flag, step_down}
use Rattle.poly_forms.specs.declared.check_kind.CheckKind.TheVariants.{ZeroFinal}
use Rattle.poly_forms.specs.declared.draw_kind.DrawKind.TheVariants.{ConstraintBatch, ZeroCoordinate, ZeroRound}
use Rattle.sumcheck.specs.declared.column_claim.ColumnClaim.{ColumnClaim}
use Rattle.sumcheck.specs.declared.entry.Entry.{Entry}
use Rattle.sumcheck.specs.declared.entry.Entry.TheVariants.{Message, Draw}
use Rattle.sumcheck.specs.declared.refused.Refused.{Refused}
use Rattle.sumcheck.specs.Claim.{Claim, column_value, group, zero_terms, zero_vector}
use Rattle.sumcheck.specs.Column.{ColumnFits, ColumnHolds, column_claims}
use Rattle.sumcheck.specs.Machine.{Filling, Machine}
use Rattle.sumcheck.specs.Rounds.{Rounds, sum_claim, rounds}
use Rattle.sumcheck.specs.Summing.{Summing, Summed, adding, closed, summed_entries, summed_refusal, summed_message, summed_draw, summed_pending, summed_round, SummedFits, SummedHolds, summed_honest}
use Rattle.zerocheck.specs.declared.zero_walk.Stage.{Stage}
use Rattle.zerocheck.specs.declared.zero_walk.Stage.TheVariants.{Waiting, Stated, Drawing, Adding, Done}
use Rattle.zerocheck.specs.Group.{Group, forms}

-- ---- what is to be 0
-- S: 1 at the positions of rows, 0 at the others
abbrev pub row_steps : Group → List ℕ
row_steps g = tabulate (2 ^ g.vars) (λ p. flag (ltb p (g.rows * 2 ^ g.log_values)))

abbrev pub columns_of : Filling → Group → List (List ℕ)
columns_of F g = map (F g.table) g.columns

abbrev pub lists : Filling → Group → List (List ℕ)
lists F g = row_steps g ∷ columns_of F g

-- S · C, S being the first variable
abbrev pub on_rows : Form → Form
on_rows form = times (variable 0) (moved form)

-- the values of S · C at all positions
abbrev pub values_on_rows : Filling → Group → Form → List ℕ
values_on_rows F g form = values_of (2 ^ g.vars) (on_rows form) (lists F g)

-- each constraint is 0 at each position of a row
abbrev pub AreZeroOnRows : Filling → Group → Type 0
AreZeroOnRows F g = AllByRecursion (λ form. values_on_rows F g form ≡ zeros (2 ^ g.vars)) (forms g)

-- the list of S · (sum of beta ^ j · C_j)
abbrev pub zero_list : Filling → Group → ℕ → List ℕ
zero_list F g beta = values_on_rows F g (batch_form beta (forms g))

-- the columns have a value at each position
pub record GroupFits (F : Filling) (g : Group) : Type 0 where
  pub long : AllLong (2 ^ g.vars) (columns_of F g)
  pub low : AllByRecursion (λ form. degree form ≤ g.degree) (forms g)
  pub within : g.log_values ≤ g.vars

-- ---- the sum
-- a group, the draw that joins its constraints, and the coordinates that were drawn
pub record Zeroed : Type 0 where
  pub group : Group
  pub beta : ℕ
  pub point : List ℕ

-- the sum over x of eq(z, x) · S(x) · (sum of beta ^ j · C_j(x))
abbrev pub zeroed_sum : Filling → Zeroed → Sum
zeroed_sum F t = eq_sum t.point (on_rows (batch_form t.beta (forms t.group))) (lists F t.group)

-- its form
abbrev pub zero_form : Zeroed → Form
zero_form t = times (variable 0) (moved (on_rows (batch_form t.beta (forms t.group))))

abbrev pub zero_sum : Summing Zeroed (List ColumnClaim)
zero_sum = record {
  kind = ZeroRound;
  check = ZeroFinal;
  count = λ t. length t.group.columns;
  terms = λ t. zero_terms t.group.table t.group.log_values t.beta t.point;
  sum = zeroed_sum;
  fits = λ F t n. (t.group.vars ≡ n) × ((length t.point ≡ n) × GroupFits F t.group);
  left = λ t z v. mul (eq_points t.point z) (mul (step_down t.group.rows (drop t.group.log_values z)) (horner (map (λ form. value form v) (forms t.group)) t.beta));
  finals = λ F t z. map (λ list. extension list z) (columns_of F t.group);
  closed = λ t z v. column_claims t.group.table z t.group.columns v;
  closed_fits = λ F claims. AllByRecursion (ColumnFits F) claims;
  closed_holds = λ F claims. AllByRecursion (ColumnHolds F) claims;
  closed_pending = λ claims. map column_value claims;
  rest = λ t. [];
  afterwards = λ claims. [];
}

-- ---- the walk's states
pub data Zero : Type 0 where
  -- before the claim is stated
  waiting : Group → Zero
  -- the constraints are 0 on the rows
  stated : Group → Zero
  -- with the lowest variables set by the prefix, the list is 0. One draw is due, and then `left` more
  vector : Group → (beta : ℕ) → (prefix : List ℕ) → (left : ℕ) → Zero
  -- the sum is 0, and then a claim for each column
  summed : Summed Zeroed (List ColumnClaim) → Zero

-- what is claimed where n coordinates are due
abbrev pub zeroing : Group → ℕ → List ℕ → ℕ → Zero
zeroing g beta prefix zero = summed (adding (record { group = g; beta = beta; point = prefix }) (sum_claim (g.degree + 2) g.vars [] 0))
zeroing g beta prefix (suc n) = vector g beta prefix n

abbrev pub sum_entries : Group → List Entry
sum_entries g = rounds ZeroRound (g.degree + 2) g.vars ++ Message ZeroFinal (length g.columns) ∷ []

-- n draws of coordinates, and the sum
abbrev pub coordinate_entries : Group → ℕ → List Entry
coordinate_entries g zero = sum_entries g
coordinate_entries g (suc n) = Draw ZeroCoordinate 1 ∷ coordinate_entries g n

abbrev pub zero_entries : Zero → List Entry
zero_entries (waiting g) = []
zero_entries (stated g) = Draw ConstraintBatch (length g.constraints - 1) ∷ coordinate_entries g g.vars
zero_entries (vector g beta prefix n) = Draw ZeroCoordinate 1 ∷ coordinate_entries g n
zero_entries (summed s) = summed_entries zero_sum s

abbrev pub zero_refusal : Zero → List ℕ → Option Refused
zero_refusal (waiting g) v = None
zero_refusal (stated g) v = None
zero_refusal (vector g beta prefix n) v = None
zero_refusal (summed s) v = summed_refusal zero_sum s v

abbrev pub zero_message : Zero → List ℕ → Zero
zero_message (waiting g) v = waiting g
zero_message (stated g) v = stated g
zero_message (vector g beta prefix n) v = vector g beta prefix n
zero_message (summed s) v = summed (summed_message zero_sum s v)

abbrev pub zero_draw : Zero → ℕ → Zero
zero_draw (waiting g) r = waiting g
zero_draw (stated g) r = zeroing g r [] g.vars
zero_draw (vector g beta prefix n) r = zeroing g beta (prefix ++ r ∷ []) n
zero_draw (summed s) r = summed (summed_draw s r)

-- what is claimed by a walk whose claim isn't stated yet
abbrev pub unstated : Zero → Option Claim
unstated (waiting g) = Some (group g.table g.log_values)
unstated (stated g) = None
unstated (vector g beta prefix n) = None
unstated (summed s) = None

abbrev pub zero_pending : Zero → List Claim
zero_pending (waiting g) = []
zero_pending (stated g) = group g.table g.log_values ∷ []
zero_pending (vector g beta prefix n) = zero_vector g.table g.log_values beta prefix ∷ []
zero_pending (summed s) = summed_pending zero_sum s

abbrev pub zero_round : Zero → Option ℕ
zero_round (waiting g) = None
zero_round (stated g) = None
zero_round (vector g beta prefix n) = None
zero_round (summed s) = summed_round zero_sum s

abbrev pub ZeroFits : Filling → Zero → Type 0
ZeroFits F (waiting g) = Unit {0}
ZeroFits F (stated g) = GroupFits F g
ZeroFits F (vector g beta prefix n) = (length prefix + suc n ≡ g.vars) × GroupFits F g
ZeroFits F (summed s) = SummedFits zero_sum F s

abbrev pub ZeroHolds : Filling → Zero → Type 0
ZeroHolds F (waiting g) = Unit {0}
ZeroHolds F (stated g) = AreZeroOnRows F g
ZeroHolds F (vector g beta prefix n) = fold_all prefix (zero_list F g beta) ≡ zeros (2 ^ suc n)
ZeroHolds F (summed s) = SummedHolds zero_sum F s

abbrev pub zero_honest : Filling → Zero → List ℕ
zero_honest F (waiting g) = []
zero_honest F (stated g) = []
zero_honest F (vector g beta prefix n) = []
zero_honest F (summed s) = summed_honest zero_sum F s

abbrev pub zerocheck : Machine Zero
zerocheck = record {
  entries = zero_entries;
  refusal = zero_refusal;
  after_message = zero_message;
  after_draw = zero_draw;
  pending = zero_pending;
  round_claim = zero_round;
  fits = ZeroFits;
  holds = ZeroHolds;
  honest = zero_honest;
}

-- ---- several draws
abbrev pub after_draws : Zero → List ℕ → Zero
after_draws s [] = s
after_draws s (r ∷ rs) = after_draws (zero_draw s r) rs

-- of a list of k variables that isn't 0, at most k · 2 ^ (128 · (k - 1)) vectors of k draws make the claim at their end true
abbrev pub VectorsAreCounted : Type 0
VectorsAreCounted =
    (F : Filling) (g : Group) (beta : ℕ) → GroupFits F g → ¬ ZeroHolds F (zeroing g beta [] g.vars)
    → AtMost (g.vars * 2 ^ (128 * (g.vars - 1))) (λ rs. (length rs ≡ g.vars) × AllByRecursion (λ r. r < 2 ^ 128) rs × ZeroHolds F (after_draws (zeroing g beta [] g.vars) rs))

-- ---- what is stated
abbrev pub IsWaiting : Zero → Type 0
IsWaiting (waiting g) = Unit {0}
IsWaiting (stated g) = ⊥
IsWaiting (vector g beta prefix n) = ⊥
IsWaiting (summed s) = ⊥

abbrev pub state_zero : Zero → Zero
state_zero (waiting g) = stated g
state_zero (stated g) = stated g
state_zero (vector g beta prefix n) = vector g beta prefix n
state_zero (summed s) = summed s

-- the walk has come to its end
abbrev pub ZeroIsDone : Zero → Type 0
ZeroIsDone (waiting g) = ⊥
ZeroIsDone (stated g) = ⊥
ZeroIsDone (vector g beta prefix n) = ⊥
ZeroIsDone (summed (adding t r)) = ⊥
ZeroIsDone (summed (closed claims)) = Unit {0}

-- ---- the walk's fields
abbrev pub zero_of : Stage → Zeroed → ℕ → Rounds → List ColumnClaim → Zero
zero_of Waiting t n r claims = waiting t.group
zero_of Stated t n r claims = stated t.group
zero_of Drawing t n r claims = vector t.group t.beta t.point n
zero_of Adding t n r claims = summed (adding t r)
zero_of Done t n r claims = summed (closed claims)

-- before the sum no variable of it is set
abbrev pub IsFresh : Zeroed → Rounds → List ColumnClaim → Type 0
IsFresh t r claims = (r ≡ sum_claim (t.group.degree + 2) t.group.vars [] 0) × (claims ≡ [])

-- what is known in each stage
abbrev pub StageFits : Stage → Zeroed → ℕ → Rounds → List ColumnClaim → Type 0
StageFits Waiting t n r claims = (t.point ≡ []) × IsFresh t r claims
StageFits Stated t n r claims = (t.point ≡ []) × IsFresh t r claims
StageFits Drawing t n r claims = (length t.point + suc n ≡ t.group.vars) × IsFresh t r claims
StageFits Adding t n r claims = claims ≡ []
StageFits Done t n r claims = Unit {0}

-- the claims are still to come
abbrev pub IsOpen : Stage → Type 0
IsOpen Waiting = Unit {0}
IsOpen Stated = Unit {0}
IsOpen Drawing = Unit {0}
IsOpen Adding = Unit {0}
IsOpen Done = ⊥

-- the stage where n coordinates are due
abbrev pub stage_at : ℕ → Stage
stage_at zero = Adding
stage_at (suc n) = Drawing
