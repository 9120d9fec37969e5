-- Challenges as a function of all that came before them.
-- Source: docs/COMMITMENTS.md, "Transcript"; FIPS 180-4 for SHA-256.
use Rattle.std.specs.Prelude.{◌≡◌, ℕ, List, [], ◌∷◌, ◌++◌, take, replicate, length}
use Rattle.std.specs.List.{flat_map}
use Rattle.std.specs.Int.{w64, w128, to_le_bytes, from_le_bytes}
use Rattle.sha2.specs.Sha256.{sha256}

-- what happens to a transcript: bytes are absorbed under a tag, or a challenge is drawn
pub data Event : Type 0 where
  absorbed : ℕ → List ℕ → Event
  drawn : Event

-- the first state
abbrev pub start : List ℕ
start = replicate 32 0

-- the state after bytes under a tag: the hash of the state, byte 0, the tag, the number of the bytes, and the bytes
abbrev pub after_absorb : List ℕ → ℕ → List ℕ → List ℕ
after_absorb state tag bytes = sha256 (state ++ 0 ∷ tag ∷ (to_le_bytes w64 (length bytes) ++ bytes))

-- the state after a draw: the hash of the state and byte 1
abbrev pub after_draw : List ℕ → List ℕ
after_draw state = sha256 (state ++ 1 ∷ [])

-- the state after an event
abbrev pub after : List ℕ → Event → List ℕ
after state (absorbed tag bytes) = after_absorb state tag bytes
after state drawn = after_draw state

-- the state after events, one after the other
abbrev pub after_all : List ℕ → List Event → List ℕ
after_all state [] = state
after_all state (e ∷ es) = after_all (after state e) es

-- the number that a state shows after a draw: its first 16 bytes, the lowest first
abbrev pub shown : List ℕ → ℕ
shown state = from_le_bytes w128 (take 16 state)

-- the challenge that is drawn after these events
abbrev pub challenge : List Event → ℕ
challenge es = shown (after_all start (es ++ drawn ∷ []))

-- the bytes of values, 16 each, the lowest first
abbrev pub bytes_of : List ℕ → List ℕ
bytes_of values = flat_map (to_le_bytes w128) values

-- the calls, each of which knows the state before it alone, follow the list of all events
pub record FollowsEvents : Type 0 where
  pub absorb : (es : List Event) (tag : ℕ) (bytes : List ℕ) → after_absorb (after_all start es) tag bytes ≡ after_all start (es ++ absorbed tag bytes ∷ [])
  pub draw : (es : List Event) → after_draw (after_all start es) ≡ after_all start (es ++ drawn ∷ [])
  pub answer : (es : List Event) → shown (after_draw (after_all start es)) ≡ challenge es
