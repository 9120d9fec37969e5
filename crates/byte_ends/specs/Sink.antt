-- What a sink means, and what a put does.
-- Source: docs/ENDS.md, "What they mean" and "What the calls do".
use Rattle.std.specs.Prelude.{◌≡◌, ℕ, ◌++◌, Bool, IsTrue, List, take}

-- what a sink means: the bytes that were put so far, and how often a put has failed
pub record SinkState : Type 0 where
  -- whether the sink tells its bytes
  pub told : Bool
  pub bytes : List ℕ
  pub faults : ℕ

-- a sink that tells its bytes has these more
abbrev pub Puts : SinkState → SinkState → List ℕ → Type 0
Puts old new added = IsTrue old.told → new.bytes ≡ old.bytes ++ added

-- a sink that tells its bytes has a first part of this piece more
pub record PutsPrefix (old new : SinkState) (piece : List ℕ) : Type 0 where
  pub prefix : IsTrue old.told → (count : ℕ) × (new.bytes ≡ old.bytes ++ take count piece)
