-- A value of a table of bits, turned into a value of the table of its words.
-- Source: Diamond and Posen, ePrint 2024/504, the section on ring-switching; docs/REDUCTIONS.md, "Ring switch".
use Rattle.std.specs.Prelude.{◌≡◌, ◌↔◌, ◌<◌, ◌≤◌, ◌+◌, ◌*◌, ◌^◌, ℕ, zero, suc, List, [], ◌∷◌, ◌++◌, take, drop, length, slice_index, Option, None}
use Rattle.std.specs.List.{AllByRecursion}
use Rattle.counting_laws.specs.Counting.{AtMost}
use Rattle.tower_laws.specs.Tower.{mul}
use Rattle.tower_laws.specs.Lists.{AllFit}
use Rattle.cube_laws.specs.Sums.{tabulate}
use Rattle.cube_laws.specs.Extension.{dot, extension, weights, fold_low, fold_all}
use Rattle.batch_laws.specs.Batch.{pair_sum}
use Rattle.tensor_laws.specs.Tensor.{column, row, bits_of_table}
use Rattle.tensor_laws.specs.Switch.{transposed, combined}
use Rattle.poly_forms.specs.declared.check_kind.CheckKind.TheVariants.{Constant, Tensor}
use Rattle.poly_forms.specs.declared.draw_kind.DrawKind.TheVariants.{SwitchRound, TensorCoordinate}
use Rattle.sumcheck.specs.declared.entry.Entry.{Entry}
use Rattle.sumcheck.specs.declared.entry.Entry.TheVariants.{Message, Draw}
use Rattle.sumcheck.specs.declared.refused.Refused.{Refused}
use Rattle.sumcheck.specs.Claim.{Claim, bit_value, packed_value, row_values, switch_terms}
use Rattle.sumcheck.specs.Machine.{Filling, Machine}
use Rattle.sumcheck.specs.Rounds.{checked, rounds, sum_claim}
use Rattle.sumcheck.specs.Summing.{Summing, Summed, adding, closed, summed_entries, summed_refusal, summed_message, summed_draw, summed_pending, summed_round, SummedFits, SummedHolds, summed_honest}

-- t', the table of words of 128 bits: the only column that a filling is asked for
abbrev pub packed : Filling → List ℕ
packed F = F 0 0

-- ---- the tensor, which is held by its rows
-- the rows of the tensor with these columns, of which the lowest 128 bits count
abbrev pub rows_of : List ℕ → List ℕ
rows_of columns = transposed 128 columns

abbrev pub columns_of : List ℕ → List ℕ
columns_of rows = transposed 128 rows

-- column v is the extension of the bits v of all words at the high point
abbrev pub true_columns : List ℕ → List ℕ → List ℕ
true_columns high table = tabulate 128 (column (weights high) table)

-- row u is the sum over w of bit u of eq(high, w) times word w
abbrev pub true_rows : List ℕ → List ℕ → List ℕ
true_rows high table = tabulate 128 (row (weights high) table)

-- ---- the sum
-- A is over eq of the high point, combined by the draws that set the rows
pub record Switched : Type 0 where
  pub high : List ℕ
  pub combine : List ℕ

-- the extension of t' at the point is the value
pub record PackedValue : Type 0 where
  pub point : List ℕ
  pub value : ℕ

-- the sum over w of A(w) · t'(w)
abbrev pub switch_sum : Summing Switched PackedValue
switch_sum = record {
  kind = SwitchRound;
  check = Constant;
  count = λ t. 1;
  terms = λ t. switch_terms t.high t.combine;
  sum = λ F t. pair_sum (combined t.high t.combine) (packed F);
  fits = λ F t n. (length t.high ≡ n) × (length (packed F) ≡ 2 ^ n);
  left = λ t z v. mul (extension (combined t.high t.combine) z) (slice_index v 0);
  finals = λ F t z. extension (packed F) z ∷ [];
  closed = λ t z v. record { point = z; value = slice_index v 0 };
  closed_fits = λ F p. length (packed F) ≡ 2 ^ length p.point;
  closed_holds = λ F p. extension (packed F) p.point ≡ p.value;
  closed_pending = λ p. packed_value p.point p.value ∷ [];
  rest = λ t. [];
  afterwards = λ p. [];
}

-- ---- the walk's states
pub data Switching : Type 0 where
  -- before the value is stated, at a point of that many coordinates
  waiting : (vars : ℕ) → Switching
  -- the bits' extension at the point is the value
  valued : (point : List ℕ) → (value : ℕ) → Switching
  -- the tensor's rows with their lowest variables set by the prefix. One draw is due, and then `left` more
  rowed : (high prefix rows : List ℕ) → (left : ℕ) → Switching
  -- a sum over t', and then the value of t'
  summed : Summed Switched PackedValue → Switching

-- what is claimed where n draws are due
abbrev pub setting : List ℕ → List ℕ → List ℕ → ℕ → Switching
setting high prefix rows zero = summed (adding (record { high = high; combine = prefix }) (sum_claim 2 (length high) [] (slice_index rows 0)))
setting high prefix rows (suc n) = rowed high prefix rows n

abbrev pub low_of : List ℕ → List ℕ
low_of point = take 7 point

abbrev pub high_of : List ℕ → List ℕ
high_of point = drop 7 point

-- ---- what is due
abbrev pub sum_entries : ℕ → List Entry
sum_entries n = rounds SwitchRound 2 n ++ Message Constant 1 ∷ []

-- the draws of n coordinates of the rows, and the sum over a table of m variables
abbrev pub coordinate_entries : ℕ → ℕ → List Entry
coordinate_entries zero m = sum_entries m
coordinate_entries (suc n) m = Draw TensorCoordinate 1 ∷ coordinate_entries n m

abbrev pub switching_entries : Switching → List Entry
switching_entries (waiting n) = []
switching_entries (valued z s) = Message Tensor 128 ∷ coordinate_entries 7 (length (high_of z))
switching_entries (rowed h p rows n) = Draw TensorCoordinate 1 ∷ coordinate_entries n (length h)
switching_entries (summed s) = summed_entries switch_sum s

-- ---- the machine
-- the columns under the weights of the low coordinates are to be the value
abbrev pub switching_refusal : Switching → List ℕ → Option Refused
switching_refusal (waiting n) v = None
switching_refusal (valued z s) v = checked Tensor (dot (columns_of (rows_of v)) (weights (low_of z))) s
switching_refusal (rowed h p rows n) v = None
switching_refusal (summed s) v = summed_refusal switch_sum s v

abbrev pub switching_message : Switching → List ℕ → Switching
switching_message (waiting n) v = waiting n
switching_message (valued z s) v = setting (high_of z) [] (rows_of v) 7
switching_message (rowed h p rows n) v = rowed h p rows n
switching_message (summed s) v = summed (summed_message switch_sum s v)

abbrev pub switching_draw : Switching → ℕ → Switching
switching_draw (waiting n) r = waiting n
switching_draw (valued z s) r = valued z s
switching_draw (rowed h p rows n) r = setting h (p ++ r ∷ []) (fold_low r rows) n
switching_draw (summed s) r = summed (summed_draw s r)

abbrev pub switching_pending : Switching → List Claim
switching_pending (waiting n) = []
switching_pending (valued z s) = bit_value z s ∷ []
switching_pending (rowed h p rows n) = row_values h p rows ∷ []
switching_pending (summed s) = summed_pending switch_sum s

abbrev pub switching_round : Switching → Option ℕ
switching_round (waiting n) = None
switching_round (valued z s) = None
switching_round (rowed h p rows n) = None
switching_round (summed s) = summed_round switch_sum s

-- t' has 2 ^ m words, each of 128 bits, and coordinates are elements of level 7
pub record IsPacked (F : Filling) (high : List ℕ) : Type 0 where
  pub size : length (packed F) ≡ 2 ^ length high
  pub words : AllFit 7 (packed F)
  pub elements : AllFit 7 high

pub record RowsFit (F : Filling) (high prefix rows : List ℕ) (left : ℕ) : Type 0 where
  pub packed : IsPacked F high
  pub set : length prefix + suc left ≡ 7
  pub long : length rows ≡ 2 ^ suc left

abbrev pub SwitchingFits : Filling → Switching → Type 0
SwitchingFits F (waiting n) = Unit {0}
SwitchingFits F (valued z s) = (7 ≤ length z) × IsPacked F (high_of z)
SwitchingFits F (rowed h p rows n) = RowsFit F h p rows n
SwitchingFits F (summed s) = SummedFits switch_sum F s

abbrev pub SwitchingHolds : Filling → Switching → Type 0
SwitchingHolds F (waiting n) = Unit {0}
SwitchingHolds F (valued z s) = extension (bits_of_table 128 (packed F)) z ≡ s
SwitchingHolds F (rowed h p rows n) = fold_all p (true_rows h (packed F)) ≡ rows
SwitchingHolds F (summed s) = SummedHolds switch_sum F s

abbrev pub switching_honest : Filling → Switching → List ℕ
switching_honest F (waiting n) = []
switching_honest F (valued z s) = true_columns (high_of z) (packed F)
switching_honest F (rowed h p rows n) = []
switching_honest F (summed s) = summed_honest switch_sum F s

abbrev pub switching : Machine Switching
switching = record {
  entries = switching_entries;
  refusal = switching_refusal;
  after_message = switching_message;
  after_draw = switching_draw;
  pending = switching_pending;
  round_claim = switching_round;
  fits = SwitchingFits;
  holds = SwitchingHolds;
  honest = switching_honest;
}

-- ---- rows and columns
-- a message's columns are the true ones exactly where its rows are
abbrev pub RowsTellColumns : Type 0
RowsTellColumns = (F : Filling) (high v : List ℕ) → IsPacked F high → AllFit 7 v → length v ≡ 128 → (v ≡ true_columns high (packed F)) ↔ (rows_of v ≡ true_rows high (packed F))

-- ---- several draws
abbrev pub after_draws : Switching → List ℕ → Switching
after_draws s [] = s
after_draws s (r ∷ rs) = after_draws (switching_draw s r) rs

-- of rows that aren't true, at most 7 · 2 ^ (128 · 6) vectors of 7 draws make the sum at their end true
abbrev pub VectorsAreCounted : Type 0
VectorsAreCounted =
    (F : Filling) (high rows : List ℕ) → IsPacked F high → length rows ≡ 128 → ¬ SwitchingHolds F (setting high [] rows 7)
    → AtMost (7 * 2 ^ (128 * 6)) (λ rs. (length rs ≡ 7) × AllByRecursion (λ r. r < 2 ^ 128) rs × SwitchingHolds F (after_draws (setting high [] rows 7) rs))

-- ---- what is stated
abbrev pub IsWaiting : ℕ → Switching → Type 0
IsWaiting m (waiting n) = n ≡ m
IsWaiting m (valued z s) = ⊥
IsWaiting m (rowed h p rows n) = ⊥
IsWaiting m (summed s) = ⊥

-- the walk has come to its end
abbrev pub IsDone : Switching → Type 0
IsDone (waiting n) = ⊥
IsDone (valued z s) = ⊥
IsDone (rowed h p rows n) = ⊥
IsDone (summed (adding t r)) = ⊥
IsDone (summed (closed p)) = Unit {0}
