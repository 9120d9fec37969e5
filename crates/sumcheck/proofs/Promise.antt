-- A round of a false claim that passes is false, and few draws hide it.
use Rattle.std.proofs.Common.{◌≡◌, ℕ, zero, suc, List, length, None, arith}
use Rattle.counting_laws.specs.Counting.{AtMost}
use Rattle.cube_laws.specs.SumClaim.{Sum}
use Rattle.cube_laws.proofs.Rounds.{round_tells, draws_counted}
use Rattle.poly_forms.specs.declared.check_kind.CheckKind.TheVariants.{RoundSum}
use Rattle.sumcheck.specs.Rounds.{Rounds, sum_claim, round_claim, rounds_refusal, rounds_message, rounds_draw, round_degree, RoundIsDue, DrawIsDue, RoundsFit, RoundsHold}
use Rattle.sumcheck.proofs.Lawful.{checks_equal}

pub round_sound : (r : Rounds) (v : List ℕ) → RoundIsDue (length v) r → rounds_refusal r v ≡ None → (s : Sum) → RoundsFit s r → RoundsHold s (rounds_message r v) → RoundsHold s r
round_sound (sum_claim d zero z c) v due p s f h = absurd due
round_sound (sum_claim d (suc n) z c) v due p s f h = let a = f.0 in round_tells s z n c v (omega arith) (checks_equal RoundSum _ c p) h
round_sound (round_claim d n z w) v due p s f h = absurd due

pub round_counted : (r : Rounds) → DrawIsDue r → (s : Sum) → RoundsFit s r → ¬ RoundsHold s r → AtMost (round_degree r) (λ draw. RoundsHold s (rounds_draw r draw))
round_counted (sum_claim d n z c) due s f wrong = absurd due
round_counted (round_claim d n z v) due s f wrong = draws_counted s z n d v f.0.1 f.1 wrong
