-- A reduction as a machine over values: what remains, what is refused, what is claimed, what is true.
-- Source: docs/REDUCTIONS.md, "A reduction".
use Rattle.std.specs.Prelude.{◌≡◌, ℕ, Bool, true, false, List, [], ◌∷◌, length, Option, None, Some, is_some}
use Rattle.tower_laws.specs.Tower.{Fits}
use Rattle.counting_laws.specs.Counting.{AtMost}
use Rattle.poly_forms.specs.declared.check_kind.CheckKind.{CheckKind}
use Rattle.poly_forms.specs.declared.check_kind.CheckKind.TheVariants.{RoundSum}
use Rattle.poly_forms.specs.declared.draw_kind.DrawKind.{DrawKind}
use Rattle.sumcheck.specs.declared.entry.Entry.{Entry}
use Rattle.sumcheck.specs.declared.entry.Entry.TheVariants.{Message, Draw}
use Rattle.sumcheck.specs.declared.refused.Refused.{Refused}
use Rattle.sumcheck.specs.Claim.{Claim}

-- a list of numbers for each column of each table
abbrev pub Filling : Type 0
Filling = ℕ → ℕ → List ℕ

-- a reduction whose states are S. Truth is a matter of a filling
pub record Machine (S : Type 0) : Type 1 where
  -- the messages and draws that remain
  pub entries : S → List Entry
  -- the check of a message that fails
  pub refusal : S → List ℕ → Option Refused
  -- the state after a message, whether its check passes or not
  pub after_message : S → List ℕ → S
  pub after_draw : S → ℕ → S
  -- the claims that are pending
  pub pending : S → List Claim
  -- the claim of the round that is due
  pub round_claim : S → Option ℕ
  -- the filling has the sizes that the state speaks of
  pub fits : Filling → S → Type 0
  -- all pending claims are true of the filling
  pub holds : Filling → S → Type 0
  -- the true numbers of the message that is due
  pub honest : Filling → S → List ℕ

-- what a reduction owes at a message of n numbers, after which the entries es remain
pub record AtMessage {S : Type 0} (M : Machine S) (s : S) (n : ℕ) (es : List Entry) (F : Filling) : Type 0 where
  pub next : (v : List ℕ) → length v ≡ n → M.entries (M.after_message s v) ≡ es
  pub fits : (v : List ℕ) → length v ≡ n → M.fits F s → M.fits F (M.after_message s v)
  -- where a message passes and leaves a true state, the state before was true
  pub sound : (v : List ℕ) → length v ≡ n → M.fits F s → M.refusal s v ≡ None → M.holds F (M.after_message s v) → M.holds F s
  -- of a true state, the true numbers pass and leave a true state
  pub size : length (M.honest F s) ≡ n
  pub passes : M.fits F s → M.holds F s → M.refusal s (M.honest F s) ≡ None
  pub stays : M.fits F s → M.holds F s → M.holds F (M.after_message s (M.honest F s))

-- what it owes at a draw of count n
pub record AtDraw {S : Type 0} (M : Machine S) (s : S) (n : ℕ) (es : List Entry) (F : Filling) : Type 0 where
  pub next : (r : ℕ) → M.entries (M.after_draw s r) ≡ es
  -- challenges are elements of level 7
  pub fits : (r : ℕ) → Fits 7 r → M.fits F s → M.fits F (M.after_draw s r)
  -- at most n numbers turn a false state true
  pub counted : M.fits F s → ¬ M.holds F s → AtMost n (λ r. M.holds F (M.after_draw s r))
  -- and none turns a true state false
  pub stays : (r : ℕ) → M.fits F s → M.holds F s → M.holds F (M.after_draw s r)

abbrev pub is_round : CheckKind → Bool
is_round RoundSum = true
is_round _ = false

-- there is a claim of a round exactly where a round is due
abbrev pub RoundIsClaimed : List Entry → Option ℕ → Type 0
RoundIsClaimed [] claim = claim ≡ None
RoundIsClaimed (Message check n ∷ es) claim = is_some claim ≡ is_round check
RoundIsClaimed (Draw kind n ∷ es) claim = claim ≡ None

-- what every reduction owes
pub record Lawful {S : Type 0} (M : Machine S) : Type 0 where
  pub message : (F : Filling) (s : S) (check : CheckKind) (n : ℕ) (es : List Entry) → M.entries s ≡ Message check n ∷ es → AtMessage M s n es F
  pub draw : (F : Filling) (s : S) (kind : DrawKind) (n : ℕ) (es : List Entry) → M.entries s ≡ Draw kind n ∷ es → AtDraw M s n es F
  pub round : (s : S) → RoundIsClaimed (M.entries s) (M.round_claim s)

-- ---- what is due
abbrev pub first_entry : List Entry → Option Entry
first_entry [] = None
first_entry (e ∷ es) = Some e

-- a message of n numbers is due
abbrev pub AwaitsMessage : ℕ → List Entry → Type 0
AwaitsMessage n [] = ⊥
AwaitsMessage n (Message check m ∷ es) = n ≡ m
AwaitsMessage n (Draw kind m ∷ es) = ⊥

-- some message is due
abbrev pub AwaitsSome : List Entry → Type 0
AwaitsSome [] = ⊥
AwaitsSome (Message check m ∷ es) = Unit {0}
AwaitsSome (Draw kind m ∷ es) = ⊥

-- a draw is due
abbrev pub AwaitsDraw : List Entry → Type 0
AwaitsDraw [] = ⊥
AwaitsDraw (Message check m ∷ es) = ⊥
AwaitsDraw (Draw kind m ∷ es) = Unit {0}
