-- Claims on committed columns, turned into one claim on the table of all bits.
-- Source: Diamond and Posen, ePrint 2023/1784, the section on binary towers; docs/REDUCTIONS.md, "Bits of columns".
use Rattle.std.specs.Prelude.{◌≡◌, ◌<◌, ℕ, ◌-◌, ◌^◌, List, [], ◌∷◌, ◌++◌, length, map, slice_index, Option, None}
use Rattle.std.specs.List.{AllByRecursion}
use Rattle.tower_laws.specs.Tower.{mul}
use Rattle.tower_laws.specs.Lists.{AllFit}
use Rattle.poly_laws.specs.Polynomial.{horner}
use Rattle.cube_laws.specs.Extension.{extension}
use Rattle.batch_laws.specs.Batch.{batched, pair_sum}
use Rattle.poly_forms.specs.declared.check_kind.CheckKind.TheVariants.{BitFinal}
use Rattle.poly_forms.specs.declared.draw_kind.DrawKind.TheVariants.{BitBatch, BitRound}
use Rattle.sumcheck.specs.declared.column_claim.ColumnClaim.{ColumnClaim}
use Rattle.sumcheck.specs.declared.entry.Entry.{Entry}
use Rattle.sumcheck.specs.declared.entry.Entry.TheVariants.{Message, Draw}
use Rattle.sumcheck.specs.declared.refused.Refused.{Refused}
use Rattle.sumcheck.specs.Claim.{Claim, bit_terms, bit_value, column_value}
use Rattle.sumcheck.specs.Column.{ColumnHolds}
use Rattle.sumcheck.specs.Machine.{Filling, Machine}
use Rattle.sumcheck.specs.Rounds.{rounds, sum_claim, bound}
use Rattle.sumcheck.specs.Summing.{Summing, Summed, adding, closed, summed_entries, summed_refusal, summed_message, summed_draw, summed_pending, summed_round, SummedFits, SummedHolds, summed_honest}
use Rattle.table_shape.specs.Placement.{Block, places_log}
use Rattle.bit_claim.specs.Bits.{bits, claim_at, claim_table, IsPlaced, Stands}

-- ---- the sum
-- claims on columns of the blocks, and the draw that joins them
pub record Batched : Type 0 where
  pub blocks : List Block
  pub claims : List ColumnClaim
  pub lambda : ℕ

-- the extension of t at the point is the value
pub record BitValue : Type 0 where
  pub blocks : List Block
  pub point : List ℕ
  pub value : ℕ

-- the table of bits has its size, and the bits of each claim's column stand there
abbrev pub AllStand : Filling → List Block → List ColumnClaim → Type 0
AllStand F bs cs = (length (bits F bs) ≡ 2 ^ places_log bs) × AllByRecursion (Stands F bs) cs

-- the sum over y of (the sum of lambda ^ j · B_j(y)) · t(y)
abbrev pub batch_sum : Summing Batched BitValue
batch_sum = record {
  kind = BitRound;
  check = BitFinal;
  count = λ t. 1;
  terms = λ t. bit_terms t.claims t.lambda;
  sum = λ F t. pair_sum (batched (2 ^ places_log t.blocks) t.lambda (map (claim_table t.blocks) t.claims)) (bits F t.blocks);
  fits = λ F t n. (places_log t.blocks ≡ n) × AllStand F t.blocks t.claims;
  left = λ t z v. mul (horner (map (claim_at t.blocks z) t.claims) t.lambda) (slice_index v 0);
  finals = λ F t z. extension (bits F t.blocks) z ∷ [];
  closed = λ t z v. record { blocks = t.blocks; point = z; value = slice_index v 0 };
  closed_fits = λ F b. (length (bits F b.blocks) ≡ 2 ^ length b.point) × (places_log b.blocks ≡ length b.point);
  closed_holds = λ F b. extension (bits F b.blocks) b.point ≡ b.value;
  closed_pending = λ b. bit_value b.point b.value ∷ [];
  rest = λ t. [];
  afterwards = λ b. [];
}

-- ---- the walk's states
pub data Batching : Type 0 where
  -- before the claims are stated, with room for that many
  waiting : List Block → (room : ℕ) → Batching
  -- the claims on columns
  opening : List Block → List ColumnClaim → Batching
  -- their sum, and then the claim on the bits
  summed : Summed Batched BitValue → Batching

abbrev pub values : List ColumnClaim → List ℕ
values cs = map (λ c. c.value) cs

-- the sum of lambda ^ j times value j is claimed
abbrev pub batch : List Block → List ColumnClaim → ℕ → Summed Batched BitValue
batch bs cs lambda = adding (record { blocks = bs; claims = cs; lambda = lambda }) (sum_claim 2 (places_log bs) [] (horner (values cs) lambda))

-- ---- the machine
abbrev pub batching_entries : Batching → List Entry
batching_entries (waiting bs m) = []
batching_entries (opening bs cs) = Draw BitBatch (length cs - 1) ∷ (rounds BitRound 2 (places_log bs) ++ Message BitFinal 1 ∷ [])
batching_entries (summed s) = summed_entries batch_sum s

abbrev pub batching_refusal : Batching → List ℕ → Option Refused
batching_refusal (waiting bs m) v = None
batching_refusal (opening bs cs) v = None
batching_refusal (summed s) v = summed_refusal batch_sum s v

abbrev pub batching_message : Batching → List ℕ → Batching
batching_message (waiting bs m) v = waiting bs m
batching_message (opening bs cs) v = opening bs cs
batching_message (summed s) v = summed (summed_message batch_sum s v)

abbrev pub batching_draw : Batching → ℕ → Batching
batching_draw (waiting bs m) r = waiting bs m
batching_draw (opening bs cs) r = summed (batch bs cs r)
batching_draw (summed s) r = summed (summed_draw s r)

abbrev pub batching_pending : Batching → List Claim
batching_pending (waiting bs m) = []
batching_pending (opening bs cs) = map column_value cs
batching_pending (summed s) = summed_pending batch_sum s

abbrev pub batching_round : Batching → Option ℕ
batching_round (waiting bs m) = None
batching_round (opening bs cs) = None
batching_round (summed s) = summed_round batch_sum s

-- the point so far, whose coordinates are elements of level 7
abbrev pub PointFits : Summed Batched BitValue → Type 0
PointFits (adding t r) = AllFit 7 (bound r)
PointFits (closed b) = AllFit 7 b.point

abbrev pub BatchingFits : Filling → Batching → Type 0
BatchingFits F (waiting bs m) = Unit {0}
BatchingFits F (opening bs cs) = AllStand F bs cs
BatchingFits F (summed s) = SummedFits batch_sum F s × PointFits s

abbrev pub BatchingHolds : Filling → Batching → Type 0
BatchingHolds F (waiting bs m) = Unit {0}
BatchingHolds F (opening bs cs) = AllByRecursion (ColumnHolds F) cs
BatchingHolds F (summed s) = SummedHolds batch_sum F s

abbrev pub batching_honest : Filling → Batching → List ℕ
batching_honest F (waiting bs m) = []
batching_honest F (opening bs cs) = []
batching_honest F (summed s) = summed_honest batch_sum F s

abbrev pub batching : Machine Batching
batching = record {
  entries = batching_entries;
  refusal = batching_refusal;
  after_message = batching_message;
  after_draw = batching_draw;
  pending = batching_pending;
  round_claim = batching_round;
  fits = BatchingFits;
  holds = BatchingHolds;
  honest = batching_honest;
}

-- ---- what is stated
-- the walk takes these claims, each on a column that has a block
abbrev pub Takes : List ColumnClaim → Batching → Type 0
Takes cs (waiting bs m) = (length cs < 2 ^ 30) × AllByRecursion (IsPlaced bs) cs
Takes cs (opening bs ds) = ⊥
Takes cs (summed s) = ⊥

-- how many claims can be copied
abbrev pub room_of : Batching → ℕ
room_of (waiting bs m) = m
room_of (opening bs cs) = 0
room_of (summed s) = 0

abbrev pub state_claims : List ColumnClaim → Batching → Batching
state_claims cs (waiting bs m) = opening bs cs
state_claims cs (opening bs ds) = opening bs ds
state_claims cs (summed s) = summed s

-- the walk has come to its end
abbrev pub IsDone : Batching → Type 0
IsDone (waiting bs m) = ⊥
IsDone (opening bs cs) = ⊥
IsDone (summed (adding t r)) = ⊥
IsDone (summed (closed b)) = Unit {0}
