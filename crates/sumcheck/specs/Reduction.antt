-- A walk that stops at its first refusal.
-- Source: docs/REDUCTIONS.md, "A reduction".
use Rattle.std.specs.Prelude.{ℕ, List, [], ◌∷◌, Option, None, Some}
use Rattle.sumcheck.specs.declared.entry.Entry.{Entry}
use Rattle.sumcheck.specs.declared.entry.Entry.TheVariants.{Message, Draw}
use Rattle.sumcheck.specs.declared.refused.Refused.{Refused}
use Rattle.sumcheck.specs.declared.reduction.Next.{Next}
use Rattle.sumcheck.specs.declared.reduction.Next.TheVariants as next
use Rattle.sumcheck.specs.Machine.{AwaitsMessage, AwaitsDraw}

pub record Stoppable (S : Type 0) : Type 0 where
  pub walk : S
  pub stopped : Option Refused

abbrev pub next_of : Option Refused → List Entry → Next
next_of (Some e) es = next.Stopped e
next_of None [] = next.Done
next_of None (Message check n ∷ es) = next.Message check n
next_of None (Draw kind n ∷ es) = next.Draw kind n

-- what a message is answered: the first refusal stays
abbrev pub answer_of : Option Refused → Option Refused → Option Refused
answer_of (Some e) refusal = Some e
answer_of None refusal = refusal

-- no round is due once a message is refused
abbrev pub claim_unless : Option Refused → Option ℕ → Option ℕ
claim_unless (Some e) claim = None
claim_unless None claim = claim

-- a message of n values is due, or the reduction has stopped
abbrev pub MayTake : ℕ → Option Refused → List Entry → Type 0
MayTake n (Some e) es = Unit {0}
MayTake n None es = AwaitsMessage n es

-- a draw is due, and the reduction has not stopped
abbrev pub MayDraw : Option Refused → List Entry → Type 0
MayDraw (Some e) es = ⊥
MayDraw None es = AwaitsDraw es
