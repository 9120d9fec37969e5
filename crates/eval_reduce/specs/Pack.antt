-- A claim on a packed column is one on its source.
-- Source: docs/REDUCTIONS.md, "Packed columns".
use Rattle.std.specs.Prelude.{◌≡◌, ◌<◌, ◌+◌, ◌*◌, ◌-◌, ◌^◌, ℕ, zero, suc, Bool, true, false, List, [], ◌∷◌, ◌++◌, length, slice_index, Option, None, Some, option_and_then, slice_get}
use Rattle.std.specs.List.{AllByRecursion}
use Rattle.counting_laws.specs.Counting.{AtMost}
use Rattle.tower_laws.specs.Tower.{mul}
use Rattle.cube_laws.specs.Sums.{sum_to, tabulate}
use Rattle.cube_laws.specs.Extension.{extension, bits_of, fold_low, fold_all}
use Rattle.column_laws.specs.Columns.{packed}
use Rattle.poly_forms.specs.declared.check_kind.CheckKind.TheVariants.{Pack as PackCheck}
use Rattle.poly_forms.specs.declared.draw_kind.DrawKind.TheVariants.{PackCoordinate}
use Rattle.sumcheck.specs.declared.column_claim.ColumnClaim.{ColumnClaim}
use Rattle.sumcheck.specs.declared.entry.Entry.{Entry}
use Rattle.sumcheck.specs.declared.entry.Entry.TheVariants.{Message, Draw}
use Rattle.sumcheck.specs.declared.refused.Refused.{Refused}
use Rattle.sumcheck.specs.Claim.{Claim, column_value, column_list}
use Rattle.sumcheck.specs.Column.{ColumnFits, ColumnHolds}
use Rattle.sumcheck.specs.Machine.{Filling, Machine}
use Rattle.sumcheck.specs.Rounds.{checked}
use Rattle.table_shape.specs.declared.shape.ShapeForm.TheVariants as form
use Rattle.table_shape.specs.declared.shape.ColumnKind.{ColumnKind}
use Rattle.table_shape.specs.declared.shape.ColumnKind.TheVariants.{Virtual}
use Rattle.table_shape.specs.declared.shape.ColumnShape.{ColumnShape}
use Rattle.table_shape.specs.declared.shape.TableShape.{TableShape}
use Rattle.table_shape.specs.Forms.{level_at}
use Rattle.eval_reduce.specs.declared.packing.Packing.{Packing}
use Rattle.eval_reduce.specs.Virtual.{IsOn, vars_on}

-- ---- from a shape
abbrev pub packing : List ColumnShape → ℕ → ℕ → ℕ → ColumnKind → Option Packing
packing columns t c n (Virtual (form.Pack source log)) = Some (record { table = t; column = c; vars = n; source = source; level = level_at columns source; log = log })
packing columns t c n kind = None

-- column c of table t on a number of rows, where it is a packed one
abbrev pub packing_of : List TableShape → ℕ → ℕ → ℕ → Option Packing
packing_of tables rows t c =
    option_and_then (λ (table : TableShape). option_and_then (λ (column : ColumnShape). packing table.columns t c (vars_on rows column) column.kind) (slice_get table.columns c)) (slice_get tables t)

-- ---- the values of one
-- 2 ^ k values of level i as one: the sum of 2 ^ (u · 2 ^ i) times value u
abbrev pub pack_value : ℕ → ℕ → List ℕ → ℕ
pack_value i k v = sum_to (2 ^ k) (λ u. mul (2 ^ (u * 2 ^ i)) (slice_index v u))

-- the extension of a table at each corner of its k lowest variables, and then a point
abbrev pub corner_values : List ℕ → ℕ → List ℕ → List ℕ
corner_values table k z = tabulate (2 ^ k) (λ u. extension table (bits_of k u ++ z))

-- ---- the walk's states
pub data Pack : Type 0 where
  -- before the claim is stated
  waiting : Packing → Pack
  -- the claim on the column
  stated : Packing → ColumnClaim → Pack
  -- with the lowest variables set by the prefix, the values of the source at the corners and the point. One draw is due, and then `left` more
  listed : Packing → (point prefix values : List ℕ) → (left : ℕ) → Pack
  -- the claim on the source
  closed : ColumnClaim → Pack

-- what is claimed where n draws are due
abbrev pub listing : Packing → List ℕ → List ℕ → List ℕ → ℕ → Pack
listing f z prefix v zero = closed (record { table = f.table; column = f.source; point = prefix ++ z; value = slice_index v 0 })
listing f z prefix v (suc n) = listed f z prefix v n

abbrev pub pack_draws : ℕ → List Entry
pack_draws zero = []
pack_draws (suc n) = Draw PackCoordinate 1 ∷ pack_draws n

abbrev pub pack_entries : Pack → List Entry
pack_entries (waiting f) = []
pack_entries (stated f claim) = Message PackCheck (2 ^ f.log) ∷ pack_draws f.log
pack_entries (listed f z prefix v n) = Draw PackCoordinate 1 ∷ pack_draws n
pack_entries (closed claim) = []

abbrev pub pack_refusal : Pack → List ℕ → Option Refused
pack_refusal (waiting f) v = None
pack_refusal (stated f claim) v = checked PackCheck (pack_value f.level f.log v) claim.value
pack_refusal (listed f z prefix w n) v = None
pack_refusal (closed claim) v = None

abbrev pub pack_message : Pack → List ℕ → Pack
pack_message (waiting f) v = waiting f
pack_message (stated f claim) v = listing f claim.point [] v f.log
pack_message (listed f z prefix w n) v = listed f z prefix w n
pack_message (closed claim) v = closed claim

abbrev pub pack_draw : Pack → ℕ → Pack
pack_draw (waiting f) r = waiting f
pack_draw (stated f claim) r = stated f claim
pack_draw (listed f z prefix v n) r = listing f z (prefix ++ r ∷ []) (fold_low r v) n
pack_draw (closed claim) r = closed claim

abbrev pub pack_pending : Pack → List Claim
pack_pending (waiting f) = []
pack_pending (stated f claim) = column_value claim ∷ []
pack_pending (listed f z prefix v n) = column_list f.table f.source z prefix v ∷ []
pack_pending (closed claim) = column_value claim ∷ []

-- the claim is on the column, on which the filling has the values of the form
pub record IsPacked (F : Filling) (f : Packing) (claim : ColumnClaim) : Type 0 where
  pub on : IsOn f.table f.column f.vars claim
  pub column_is : F f.table f.column ≡ packed f.level f.log (2 ^ f.vars) (F f.table f.source)
  pub source_long : length (F f.table f.source) ≡ 2 ^ (f.log + f.vars)

-- the list has a value for each corner of the variables that aren't set
pub record IsList (F : Filling) (f : Packing) (z prefix v : List ℕ) (n : ℕ) : Type 0 where
  pub left : length prefix + suc n ≡ f.log
  pub long : length v ≡ 2 ^ suc n
  pub source_long : length (F f.table f.source) ≡ 2 ^ (f.log + length z)

abbrev pub PackFits : Filling → Pack → Type 0
PackFits F (waiting f) = Unit {0}
PackFits F (stated f claim) = IsPacked F f claim
PackFits F (listed f z prefix v n) = IsList F f z prefix v n
PackFits F (closed claim) = ColumnFits F claim

abbrev pub PackHolds : Filling → Pack → Type 0
PackHolds F (waiting f) = Unit {0}
PackHolds F (stated f claim) = ColumnHolds F claim
PackHolds F (listed f z prefix v n) = fold_all prefix (corner_values (F f.table f.source) f.log z) ≡ v
PackHolds F (closed claim) = ColumnHolds F claim

abbrev pub pack_honest : Filling → Pack → List ℕ
pack_honest F (waiting f) = []
pack_honest F (stated f claim) = corner_values (F f.table f.source) f.log claim.point
pack_honest F (listed f z prefix v n) = []
pack_honest F (closed claim) = []

abbrev pub pack : Machine Pack
pack = record {
  entries = pack_entries;
  refusal = pack_refusal;
  after_message = pack_message;
  after_draw = pack_draw;
  pending = pack_pending;
  round_claim = λ s. None;
  fits = PackFits;
  holds = PackHolds;
  honest = pack_honest;
}

-- ---- several draws
abbrev pub after_draws : Pack → List ℕ → Pack
after_draws s [] = s
after_draws s (r ∷ rs) = after_draws (pack_draw s r) rs

-- of a list that isn't true, at most k · 2 ^ (128 · (k - 1)) vectors of k draws make the claim at their end true
abbrev pub VectorsAreCounted : Type 0
VectorsAreCounted =
    (F : Filling) (f : Packing) (z v : List ℕ) → length v ≡ 2 ^ f.log → length (F f.table f.source) ≡ 2 ^ (f.log + length z) → ¬ PackHolds F (listing f z [] v f.log)
    → AtMost (f.log * 2 ^ (128 * (f.log - 1))) (λ rs. (length rs ≡ f.log) × AllByRecursion (λ r. r < 2 ^ 128) rs × PackHolds F (after_draws (listing f z [] v f.log) rs))

-- ---- what is stated
-- the walk takes a claim on its column
abbrev pub PackTakes : ColumnClaim → Pack → Type 0
PackTakes claim (waiting f) = IsOn f.table f.column f.vars claim
PackTakes claim (stated f other) = ⊥
PackTakes claim (listed f z prefix v n) = ⊥
PackTakes claim (closed other) = ⊥

abbrev pub state_pack : ColumnClaim → Pack → Pack
state_pack claim (waiting f) = stated f claim
state_pack claim (stated f other) = stated f other
state_pack claim (listed f z prefix v n) = listed f z prefix v n
state_pack claim (closed other) = closed other

-- the walk has come to its end
abbrev pub PackIsDone : Pack → Type 0
PackIsDone (waiting f) = ⊥
PackIsDone (stated f claim) = ⊥
PackIsDone (listed f z prefix v n) = ⊥
PackIsDone (closed claim) = Unit {0}

-- ---- the walk's fields
abbrev pub pack_of : Packing → Option ColumnClaim → Bool → List ℕ → List ℕ → ℕ → Option ColumnClaim → Pack
pack_of f None told draws v n None = waiting f
pack_of f (Some claim) false draws v n None = stated f claim
pack_of f (Some claim) true draws v n None = listed f claim.point draws v n
pack_of f claim told draws v n (Some last) = closed last

-- what is known in each stage
abbrev pub PackStage : Packing → Option ColumnClaim → Bool → List ℕ → List ℕ → ℕ → Option ColumnClaim → Type 0
PackStage f None told draws v n None = (told ≡ false) × (draws ≡ []) × (v ≡ [])
PackStage f (Some claim) false draws v n None = (draws ≡ []) × (v ≡ [])
PackStage f (Some claim) true draws v n None = (length draws + suc n ≡ f.log) × (length v ≡ 2 ^ suc n)
PackStage f None told draws v n (Some last) = ⊥
PackStage f (Some claim) told draws v n (Some last) = Unit {0}
