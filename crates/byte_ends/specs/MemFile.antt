-- A file in memory, and its place among others.
-- Source: docs/ENDS.md, "The kinds".
use Rattle.std.specs.Prelude.{ℕ, ◌-◌, ◌<◌, ◌≤◌, ◌++◌, ◌⊎◌, min, IsNone, if◌then◌else◌, Option, None, Some, unwrap_or, List, [], ◌∷◌, length}
use Rattle.std.specs.Str.{bytes_eq}

-- a name that was put or reserved
pub record FileState : Type 0 where
  pub name : List ℕ
  -- the bytes; None where no file was made yet
  pub bytes : Option (List ℕ)
  -- the file may grow to so many bytes
  pub room : ℕ
  pub read_faults : ℕ
  pub write_faults : ℕ

-- the bytes, none where no file was made yet
abbrev pub bytes_in : FileState → List ℕ
bytes_in file = unwrap_or file.bytes []

-- a piece can't be added: no file was made, or its room is used up and the piece is not empty
abbrev pub TakesNothing : FileState → List ℕ → Type 0
TakesNothing file piece = IsNone file.bytes ⊎ ((file.room ≤ length (bytes_in file)) × (0 < length piece))

-- how many bytes of a piece an append takes, by at most so many
abbrev pub taken_count : FileState → List ℕ → ℕ → ℕ
taken_count file piece chunk = min chunk (min (length piece) (file.room - length (bytes_in file)))

-- with these bytes added
abbrev pub with_bytes : FileState → List ℕ → FileState
with_bytes file added = record file { bytes = Some (bytes_in file ++ added) }

-- the first of this name
abbrev pub find_file : List FileState → List ℕ → Option FileState
find_file [] name = None
find_file (file ∷ files) name = if bytes_eq file.name name then Some file else find_file files name

-- a file in place of the first of its name, or behind the others where there is none
abbrev pub place_file : List FileState → FileState → List FileState
place_file [] file = file ∷ []
place_file (first ∷ files) file =
    if bytes_eq first.name file.name then file ∷ files else first ∷ place_file files file
