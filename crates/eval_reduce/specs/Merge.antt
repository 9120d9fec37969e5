-- Claims on one column at several points, merged into one.
-- Source: docs/REDUCTIONS.md, "Merge".
use Rattle.std.specs.Prelude.{◌≡◌, ◌≤◌, ◌<◌, ℕ, ◌-◌, ◌^◌, List, [], ◌∷◌, ◌++◌, length, map, slice_index, Option, None, Some}
use Rattle.std.specs.List.{AllByRecursion}
use Rattle.tower_laws.specs.Tower.{mul}
use Rattle.poly_laws.specs.Polynomial.{horner}
use Rattle.cube_laws.specs.Extension.{eq_points, extension, weights}
use Rattle.cube_laws.specs.SumClaim.{Sum, AllLong}
use Rattle.batch_laws.specs.Batch.{batched, pair_sum}
use Rattle.poly_forms.specs.declared.check_kind.CheckKind.TheVariants.{MergeFinal}
use Rattle.poly_forms.specs.declared.draw_kind.DrawKind.TheVariants.{Merge as MergeDraw, MergeRound}
use Rattle.sumcheck.specs.declared.column_claim.ColumnClaim.{ColumnClaim}
use Rattle.sumcheck.specs.declared.entry.Entry.{Entry}
use Rattle.sumcheck.specs.declared.entry.Entry.TheVariants.{Message, Draw}
use Rattle.sumcheck.specs.declared.refused.Refused.{Refused}
use Rattle.sumcheck.specs.Claim.{Claim, column_value, merge_terms}
use Rattle.sumcheck.specs.Column.{ColumnFits, ColumnHolds}
use Rattle.sumcheck.specs.Machine.{Filling, Machine}
use Rattle.sumcheck.specs.Rounds.{Rounds, sum_claim, rounds, with_claim}
use Rattle.sumcheck.specs.Summing.{Summing, Summed, adding, closed, summed_entries, summed_refusal, summed_message, summed_draw, summed_pending, summed_round, SummedFits, SummedHolds, summed_honest}
use Rattle.eval_reduce.specs.Room.{Space}
use Rattle.eval_reduce.specs.declared.merge_walk.Stage.{Stage}
use Rattle.eval_reduce.specs.declared.merge_walk.Stage.TheVariants.{Waiting, Opening, Adding}

abbrev pub points : List ColumnClaim → List (List ℕ)
points cs = map (λ c. c.point) cs

abbrev pub values : List ColumnClaim → List ℕ
values cs = map (λ c. c.value) cs

-- eq of each claim's point and a point
abbrev pub eqs : List ℕ → List ColumnClaim → List ℕ
eqs z cs = map (λ c. eq_points c.point z) cs

-- ---- the sum
-- claims on a column of `vars` variables, and the draw that joins them
pub record Joined : Type 0 where
  pub table : ℕ
  pub column : ℕ
  pub vars : ℕ
  pub claims : List ColumnClaim
  pub mu : ℕ

-- the sum over x of (the sum of mu ^ j · eq(p_j, x)) · c(x)
abbrev pub joined_sum : Filling → Joined → Sum
joined_sum F t = pair_sum (batched (2 ^ t.vars) t.mu (map weights (points t.claims))) (F t.table t.column)

abbrev pub merged : Joined → List ℕ → ℕ → ColumnClaim
merged t z v = record { table = t.table; column = t.column; point = z; value = v }

abbrev pub merge_sum : Summing Joined ColumnClaim
merge_sum = record {
  kind = MergeRound;
  check = MergeFinal;
  count = λ t. 1;
  terms = λ t. merge_terms t.claims t.mu;
  sum = joined_sum;
  fits = λ F t n. (t.vars ≡ n) × ((length (F t.table t.column) ≡ 2 ^ n) × AllLong n (points t.claims));
  left = λ t z v. mul (horner (eqs z t.claims) t.mu) (slice_index v 0);
  finals = λ F t z. extension (F t.table t.column) z ∷ [];
  closed = λ t z v. merged t z (slice_index v 0);
  closed_fits = ColumnFits;
  closed_holds = ColumnHolds;
  closed_pending = λ claim. column_value claim ∷ [];
  rest = λ t. [];
  afterwards = λ claim. [];
}

-- ---- the walk's states
pub data Merge : Type 0 where
  -- before the claims are stated, with room for that many
  waiting : (vars room : ℕ) → Merge
  -- the claims that are to be merged
  opening : (table column vars : ℕ) → List ColumnClaim → Merge
  -- their sum, and then the one claim
  summed : Summed Joined ColumnClaim → Merge

-- all are on that column, at points of n coordinates
abbrev pub AllOn : ℕ → ℕ → ℕ → List ColumnClaim → Type 0
AllOn t k n cs = AllByRecursion (λ c. (c.table ≡ t) × ((c.column ≡ k) × (length c.point ≡ n))) cs

-- the sum of mu ^ j times value j is claimed
abbrev pub join : ℕ → ℕ → ℕ → List ColumnClaim → ℕ → Summed Joined ColumnClaim
join t k n cs mu = adding (record { table = t; column = k; vars = n; claims = cs; mu = mu }) (sum_claim 2 n [] (horner (values cs) mu))

abbrev pub merge_entries : Merge → List Entry
merge_entries (waiting n m) = []
merge_entries (opening t k n cs) = Draw MergeDraw (length cs - 1) ∷ (rounds MergeRound 2 n ++ Message MergeFinal 1 ∷ [])
merge_entries (summed s) = summed_entries merge_sum s

abbrev pub merge_refusal : Merge → List ℕ → Option Refused
merge_refusal (waiting n m) v = None
merge_refusal (opening t k n cs) v = None
merge_refusal (summed s) v = summed_refusal merge_sum s v

abbrev pub merge_message : Merge → List ℕ → Merge
merge_message (waiting n m) v = waiting n m
merge_message (opening t k n cs) v = opening t k n cs
merge_message (summed s) v = summed (summed_message merge_sum s v)

abbrev pub merge_draw : Merge → ℕ → Merge
merge_draw (waiting n m) r = waiting n m
merge_draw (opening t k n cs) r = summed (join t k n cs r)
merge_draw (summed s) r = summed (summed_draw s r)

abbrev pub merge_pending : Merge → List Claim
merge_pending (waiting n m) = []
merge_pending (opening t k n cs) = map column_value cs
merge_pending (summed s) = summed_pending merge_sum s

abbrev pub merge_round : Merge → Option ℕ
merge_round (waiting n m) = None
merge_round (opening t k n cs) = None
merge_round (summed s) = summed_round merge_sum s

abbrev pub MergeFits : Filling → Merge → Type 0
MergeFits F (waiting n m) = Unit {0}
MergeFits F (opening t k n cs) = (length (F t k) ≡ 2 ^ n) × AllOn t k n cs
MergeFits F (summed s) = SummedFits merge_sum F s

abbrev pub MergeHolds : Filling → Merge → Type 0
MergeHolds F (waiting n m) = Unit {0}
MergeHolds F (opening t k n cs) = AllByRecursion (ColumnHolds F) cs
MergeHolds F (summed s) = SummedHolds merge_sum F s

abbrev pub merge_honest : Filling → Merge → List ℕ
merge_honest F (waiting n m) = []
merge_honest F (opening t k n cs) = []
merge_honest F (summed s) = summed_honest merge_sum F s

abbrev pub merge : Machine Merge
merge = record {
  entries = merge_entries;
  refusal = merge_refusal;
  after_message = merge_message;
  after_draw = merge_draw;
  pending = merge_pending;
  round_claim = merge_round;
  fits = MergeFits;
  holds = MergeHolds;
  honest = merge_honest;
}

-- ---- what is stated
-- a walk of n variables takes these claims: two or more on that column, at points of n coordinates
abbrev pub Takes : ℕ → ℕ → List ColumnClaim → Merge → Type 0
Takes t k cs (waiting n m) = ((2 ≤ length cs) × (length cs < 2 ^ 30)) × AllOn t k n cs
Takes t k cs (opening t' k' n ds) = ⊥
Takes t k cs (summed s) = ⊥

-- how many claims can be copied
abbrev pub room_of : Merge → ℕ
room_of (waiting n m) = m
room_of (opening t k n cs) = 0
room_of (summed s) = 0

abbrev pub state_claims : ℕ → ℕ → List ColumnClaim → Merge → Merge
state_claims t k cs (waiting n m) = opening t k n cs
state_claims t k cs (opening t' k' n ds) = opening t' k' n ds
state_claims t k cs (summed s) = summed s

-- the walk has come to its end
abbrev pub IsDone : Merge → Type 0
IsDone (waiting n m) = ⊥
IsDone (opening t k n cs) = ⊥
IsDone (summed (adding t r)) = ⊥
IsDone (summed (closed claim)) = Unit {0}

-- ---- the walk's fields
abbrev pub merge_of : Stage → Joined → Rounds → Option ColumnClaim → Space → Merge
merge_of Waiting t r None m = waiting t.vars m.count
merge_of Opening t r None m = opening t.table t.column t.vars t.claims
merge_of Adding t r None m = summed (adding t r)
merge_of g t r (Some claim) m = summed (closed claim)

-- what is known in each stage
abbrev pub StageFits : Stage → Joined → Rounds → Option ColumnClaim → Space → Type 0
StageFits Waiting t r o m = (o ≡ None) × ((with_claim 0 r ≡ sum_claim 2 t.vars [] 0) × (m.vars ≡ t.vars))
StageFits Opening t r o m = (o ≡ None) × ((with_claim 0 r ≡ sum_claim 2 t.vars [] 0) × ((1 ≤ length t.claims) × (length t.claims < 2 ^ 30)))
StageFits Adding t r o m = Unit {0}
