-- A claim on a column, moved to the draws: the sum over x of eq(p, x) · c(x) is the extension of c at p.
-- Source: docs/REDUCTIONS.md, "A walk, worked out".
use Rattle.std.specs.Prelude.{◌≡◌, ℕ, ◌^◌, List, [], ◌∷◌, length, slice_index, Option, None, Some}
use Rattle.tower_laws.specs.Tower.{mul}
use Rattle.cube_laws.specs.Extension.{eq_points, extension, weights}
use Rattle.cube_laws.specs.Form.{variable, times}
use Rattle.cube_laws.specs.SumClaim.{Sum}
use Rattle.poly_forms.specs.declared.check_kind.CheckKind.TheVariants.{MergeFinal}
use Rattle.poly_forms.specs.declared.draw_kind.DrawKind.TheVariants.{MergeRound}
use Rattle.sumcheck.specs.declared.column_claim.ColumnClaim.{ColumnClaim}
use Rattle.sumcheck.specs.Claim.{column_value, merge_terms}
use Rattle.sumcheck.specs.Column.{ColumnFits, ColumnHolds}
use Rattle.sumcheck.specs.Machine.{Filling, Machine}
use Rattle.sumcheck.specs.Rounds.{Rounds}
use Rattle.sumcheck.specs.Summing.{Summing, Summed, adding, closed, summing}
use Rattle.walk_example.specs.declared.moved.Moved.{Moved}

abbrev pub moved_sum : Filling → Moved → Sum
moved_sum F t = record { form = times (variable 0) (variable 1); lists = weights t.claim.point ∷ F t.claim.table t.claim.column ∷ [] }

abbrev pub moved_claim : Moved → List ℕ → ℕ → ColumnClaim
moved_claim t z v = record { table = t.claim.table; column = t.claim.column; point = z; value = v }

abbrev pub the_sum : Summing Moved ColumnClaim
the_sum = record {
  kind = MergeRound;
  check = MergeFinal;
  count = λ t. 1;
  terms = λ t. merge_terms (t.claim ∷ []) 0;
  sum = moved_sum;
  fits = λ F t n. (length t.claim.point ≡ n) × (length (F t.claim.table t.claim.column) ≡ 2 ^ n);
  left = λ t z v. mul (eq_points t.claim.point z) (slice_index v 0);
  finals = λ F t z. extension (F t.claim.table t.claim.column) z ∷ [];
  closed = λ t z v. moved_claim t z (slice_index v 0);
  closed_fits = ColumnFits;
  closed_holds = ColumnHolds;
  closed_pending = λ claim. column_value claim ∷ [];
  rest = λ t. [];
  afterwards = λ claim. [];
}

-- the walk's states: the sum with its rounds, and then one claim
abbrev pub Move : Type 0
Move = Summed Moved ColumnClaim

abbrev pub move : Machine Move
move = summing the_sum

-- what the fields of a walk stand for
abbrev pub move_of : Moved → Rounds → Option ColumnClaim → Move
move_of t r None = adding t r
move_of t r (Some claim) = closed claim

-- the walk has come to its end
abbrev pub IsDone : Move → Type 0
IsDone (adding t r) = ⊥
IsDone (closed claim) = Unit {0}

-- the claim that is left has a point of n coordinates
abbrev pub IsAtDraws : ℕ → Move → Type 0
IsAtDraws n (adding t r) = Unit {0}
IsAtDraws n (closed claim) = length claim.point ≡ n

-- each follows from the other
abbrev pub IsSameTruth : Type 0 → Type 0 → Type 0
IsSameTruth P Q = (P → Q) × (Q → P)
