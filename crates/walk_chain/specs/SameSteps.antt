-- Two machines whose steps are the same, whatever each says of truth.
-- Source: docs/REDUCTIONS.md, "One after another".
use Rattle.std.specs.Prelude.{◌≡◌, ℕ, List}
use Rattle.sumcheck.specs.Machine.{Filling, Machine}

pub record SameSteps {S : Type 0} (M N : Machine S) : Type 0 where
  pub entries : (s : S) → M.entries s ≡ N.entries s
  pub refusal : (s : S) (v : List ℕ) → M.refusal s v ≡ N.refusal s v
  pub after_message : (s : S) (v : List ℕ) → M.after_message s v ≡ N.after_message s v
  pub after_draw : (s : S) (r : ℕ) → M.after_draw s r ≡ N.after_draw s r
  pub pending : (s : S) → M.pending s ≡ N.pending s
  pub round_claim : (s : S) → M.round_claim s ≡ N.round_claim s
  pub honest : (F : Filling) (s : S) → M.honest F s ≡ N.honest F s
