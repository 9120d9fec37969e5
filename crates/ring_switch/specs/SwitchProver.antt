-- A prover of a ring switch goes along with its walk, whatever value is claimed.
-- Source: docs/REDUCTIONS.md, "Ring switch".
use Rattle.std.specs.Prelude.{◌≡◌, ◌≤◌, ◌+◌, ◌-◌, ◌^◌, ℕ, suc, List, [], length, take, Option, None, Some}
use Rattle.cube_laws.specs.Extension.{extension}
use Rattle.sumcheck.specs.declared.summand.Pair.{Pair}
use Rattle.sumcheck.specs.Machine.{Filling}
use Rattle.sumcheck.specs.Pair.{pair_form}
use Rattle.sumcheck.specs.Proving.{Proving, Goes}
use Rattle.sumcheck.specs.Rounds.{Rounds, bound, sum_claim, variables, with_claim}
use Rattle.sumcheck.specs.Summing.{Summed, adding, closed}
use Rattle.ring_switch.specs.declared.switch_prover.SwitchProver.{SwitchProver}
use Rattle.ring_switch.specs.Switching.{PackedValue, Switched, Switching, high_of, packed, rowed, summed, switch_sum, valued, waiting}

-- ---- before the sum
-- the prover holds the words, the high point, and the draws that set the rows
pub record Holds (p : SwitchProver) (words high prefix : List ℕ) : Type 0 where
  pub held : p.words.items ≡ words
  pub whole : length words ≡ 2 ^ length high
  pub few : length high ≤ 17
  pub placed : p.switched.high ≡ high
  pub count : p.drawn ≡ length prefix
  pub draws : take p.drawn p.switched.combine ≡ prefix
  pub seven : length p.switched.combine ≡ 7
  pub point : p.ending.point ≡ []

-- before the value is stated
pub record IsNew (p : SwitchProver) : Type 0 where
  pub large : 8 ≤ p.log_bits
  pub small : p.log_bits ≤ 24
  pub whole : length p.words.items ≡ 2 ^ (p.log_bits - 7)
  pub high : p.switched.high ≡ []
  pub none_drawn : p.drawn ≡ 0
  pub seven : length p.switched.combine ≡ 7
  pub point : p.ending.point ≡ []
  pub none : p.sum ≡ None

-- ---- from the first round on
-- the prover of the sum goes along with its rounds, and their draws are kept
pub record GoesOn (q : Proving Pair) (e : PackedValue) (F : Filling) (t : Switched) (r : Rounds) : Type 0 where
  pub goes : Goes pair_form q (switch_sum.sum F t) r
  pub point : e.point ≡ bound r
  pub vars : variables r ≡ length t.high
  pub few : length t.high ≤ 17

-- the prover has exactly this point and value, and the value is true
pub record Tells (e : PackedValue) (F : Filling) (p : PackedValue) : Type 0 where
  pub point : e.point ≡ p.point
  pub value : e.value ≡ p.value
  pub holds : extension (packed F) p.point ≡ p.value

abbrev pub FollowsEnd : Proving Pair → PackedValue → Filling → Summed Switched PackedValue → Type 0
FollowsEnd q e F (adding t r) = GoesOn q e F t r
FollowsEnd q e F (closed p) = Tells e F p

-- ---- throughout
-- the coordinates are drawn, and no round of the sum has passed
pub record IsDrawn (t : Switched) (r : Rounds) : Type 0 where
  pub all : length t.combine ≡ 7
  pub first : with_claim 0 r ≡ sum_claim 2 (length t.high) [] 0

abbrev pub FollowsSum : SwitchProver → Option (Proving Pair) → Filling → Switching → Type 0
FollowsSum p q F (waiting n) = ⊥
FollowsSum p None F (valued z s) = Holds p (packed F) (high_of z) []
FollowsSum p None F (rowed high prefix rows n) = (length prefix + suc n ≡ 7) × Holds p (packed F) high prefix
FollowsSum p None F (summed (adding t r)) = IsDrawn t r × Holds p (packed F) t.high t.combine
FollowsSum p None F (summed (closed c)) = ⊥
FollowsSum p (Some q) F (valued z s) = ⊥
FollowsSum p (Some q) F (rowed high prefix rows n) = ⊥
FollowsSum p (Some q) F (summed s) = (p.drawn ≡ 7) × FollowsEnd q p.ending F s

abbrev pub FollowsSwitch : SwitchProver → Filling → Switching → Type 0
FollowsSwitch p F s = FollowsSum p p.sum F s
