-- How far the reading of a proof has come.
-- Source: docs/PROOF.md, "The verdict".
use Rattle.std.specs.Prelude.{ℕ, ◌*◌, List, [], ◌∷◌, ◌++◌, take, drop}
use Rattle.std.specs.Int.{from_le_bytes, w128}
use Rattle.poly_forms.specs.declared.draw_kind.DrawKind.{DrawKind}
use Rattle.poly_forms.specs.declared.draw_kind.DrawKind.TheVariants.{SwitchRound}
use Rattle.sumcheck.specs.Machine.{Machine}
use Rattle.transcript.specs.Transcript.{after_absorb, after_draw, shown}
use Rattle.proof_format.specs.Values.{values_of}

-- the states of the reductions are S
pub record Progress (S : Type 0) : Type 0 where
  pub state : S
  pub transcript : List ℕ
  -- those that are left
  pub bytes : List ℕ
  pub roots : List (List ℕ)
  -- the draws with which the word is folded
  pub folds : List ℕ
  pub constant : ℕ
  -- with how many draws the word is folded in all
  pub rounds : ℕ

-- what is absorbed under which tag; the head under 0
abbrev pub root_tag : ℕ
root_tag = 1

abbrev pub message_tag : ℕ
message_tag = 2

abbrev pub constant_tag : ℕ
constant_tag = 3

-- ---- roots
abbrev pub after_root : {S : Type 0} → Progress S → Progress S
after_root p = record p { transcript = after_absorb p.transcript root_tag (take 32 p.bytes); bytes = drop 32 p.bytes; roots = p.roots ++ take 32 p.bytes ∷ [] }

-- ---- messages
-- the next n values
abbrev pub said : {S : Type 0} → ℕ → Progress S → List ℕ
said n p = values_of n (take (16 * n) p.bytes)

-- a message of n values, absorbed before anything else is drawn
abbrev pub after_said : {S : Type 0} → Machine S → ℕ → ℕ → Progress S → Progress S
after_said M tag n p = record p { state = M.after_message p.state (said n p); transcript = after_absorb p.transcript tag (take (16 * n) p.bytes); bytes = drop (16 * n) p.bytes }

abbrev pub after_constant : {S : Type 0} → Machine S → Progress S → Progress S
after_constant M p = record (after_said M constant_tag 1 p) { constant = from_le_bytes w128 (take 16 p.bytes) }

-- ---- draws
abbrev pub challenge : {S : Type 0} → Progress S → ℕ
challenge p = shown (after_draw p.transcript)

-- those of the rounds of the ring switch fold the word
abbrev pub with_fold : DrawKind → ℕ → List ℕ → List ℕ
with_fold SwitchRound r folds = folds ++ r ∷ []
with_fold _ r folds = folds

abbrev pub after_challenge : {S : Type 0} → Machine S → DrawKind → Progress S → Progress S
after_challenge M kind p = record p { state = M.after_draw p.state (challenge p); transcript = after_draw p.transcript; folds = with_fold kind (challenge p) p.folds }
