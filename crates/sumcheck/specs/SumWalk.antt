-- Rounds with the refusal that ended them, if one did.
-- Source: docs/REDUCTIONS.md, "Rounds".
use Rattle.std.specs.Prelude.{ℕ, List, length, Option, None, Some, option_map}
use Rattle.sumcheck.specs.declared.sum_walk.RoundSum.{RoundSum}
use Rattle.sumcheck.specs.Rounds.{Rounds, bound, rounds_refusal}

pub record Walking : Type 0 where
  pub rounds : Rounds
  pub stopped : Option RoundSum

-- the round that is refused, by its number and its two sides
abbrev pub round_sum : Rounds → List ℕ → Option RoundSum
round_sum r v = option_map (λ e. record { index = length (bound r); left = e.left; right = e.right }) (rounds_refusal r v)

-- the first refusal is answered from then on
abbrev pub stop_at : Walking → List ℕ → Option RoundSum
stop_at w v = elim w.stopped [ None ↦ round_sum w.rounds v | Some e ↦ Some e ]
