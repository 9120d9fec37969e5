-- A sink in memory.
-- Source: docs/ENDS.md, "The kinds".
use Rattle.std.specs.Prelude.{ℕ, ◌-◌, ◌<◌, ◌≤◌, ◌++◌, min, ◌⊎◌, true, Contains, List, length, take}
use Rattle.byte_ends.specs.Counts.{raised}
use Rattle.byte_ends.specs.Sink.{SinkState}

-- a sink in memory
pub record MemSinkState : Type 0 where
  -- a put takes at most so many bytes
  pub chunk : ℕ
  -- the numbers of the calls that fail
  pub failing : List ℕ
  -- the number of the next call
  pub calls : ℕ
  pub bytes : List ℕ
  -- the sink takes so many bytes in all
  pub room : ℕ
  pub faults : ℕ

-- what contracts see of it as a sink
abbrev pub sink_state : MemSinkState → SinkState
sink_state sink = record { told = true; bytes = sink.bytes; faults = sink.faults }

-- a put fails: by its number, or since the room is used up and the piece is not empty
abbrev pub PutFails : MemSinkState → List ℕ → Type 0
PutFails sink piece =
    Contains sink.failing sink.calls ⊎ ((sink.room ≤ length sink.bytes) × (0 < length piece))

-- how many bytes of a piece a put takes
abbrev pub put_count : MemSinkState → List ℕ → ℕ
put_count sink piece = min sink.chunk (min (length piece) (sink.room - length sink.bytes))

-- after a put that took so many bytes of a piece
abbrev pub after_put : MemSinkState → List ℕ → ℕ → MemSinkState
after_put sink piece count =
    record sink { calls = raised sink.calls; bytes = sink.bytes ++ take count piece }

-- after a put that failed
abbrev pub after_failed_put : MemSinkState → MemSinkState
after_failed_put sink = record sink { calls = raised sink.calls; faults = raised sink.faults }
