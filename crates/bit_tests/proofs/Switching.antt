-- The walk of a ring switch beside a prover that has the words.
use Rattle.std.proofs.Common.{◌≡◌, ℕ, zero, suc, true, false, List, Option, is_none, refl, sym, subst}
use Rattle.sumcheck.specs.declared.summand.Pair.{Pair}
use Rattle.sumcheck.specs.Machine.{Filling, first_entry}
use Rattle.sumcheck.specs.Proving.{Proving}
use Rattle.sumcheck.specs.Rounds.{sum_claim, round_claim}
use Rattle.sumcheck.specs.Summing.{adding, closed}
use Rattle.ring_switch.specs.declared.switch_prover.SwitchProver.{SwitchProver}
use Rattle.ring_switch.specs.SwitchProver.{FollowsSum, FollowsSwitch}
use Rattle.ring_switch.specs.Switching.{PackedValue, Switching, packed, rowed, summed, switching_entries, valued, waiting}

-- the filling that has the words everywhere
abbrev pub holding : List ℕ → Filling
holding words t c = words

pub switch_starts : (p next : SwitchProver) (words z : List ℕ) (s : ℕ) (v : Switching) → p.words.items ≡ words
    → ((F : Filling) (claimed : ℕ) → packed F ≡ p.words.items → FollowsSwitch next F (valued z claimed)) → v ≡ valued z s → FollowsSwitch next (holding words) v
switch_starts p next words z s v held entered stated = subst (FollowsSwitch next (holding words)) (sym stated) (entered (holding words) s (sym held))

-- ---- at the end
some_due : false ≡ true → ⊥
some_due e = cc

-- where nothing is due, the value of the words is told
pub switch_ends : (p : SwitchProver) (q : Option (Proving Pair)) (F : Filling) (s : Switching) → FollowsSum p q F s → is_none (first_entry (switching_entries s)) ≡ true → (c : PackedValue) × (s ≡ summed (closed c))
switch_ends p q F (waiting n) h e = absurd h
switch_ends p q F (valued z v) h e = absurd (some_due e)
switch_ends p q F (rowed high prefix rows n) h e = absurd (some_due e)
switch_ends p q F (summed (adding t (sum_claim d zero z c))) h e = absurd (some_due e)
switch_ends p q F (summed (adding t (sum_claim d (suc n) z c))) h e = absurd (some_due e)
switch_ends p q F (summed (adding t (round_claim d n z v))) h e = absurd (some_due e)
switch_ends p q F (summed (closed c)) h e = (c, refl)
