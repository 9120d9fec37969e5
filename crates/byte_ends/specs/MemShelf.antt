-- Files in memory as a shelf.
-- Source: docs/ENDS.md, "The kinds".
use Rattle.std.specs.Prelude.{ℕ, ◌-◌, min, ◌⊎◌, true, None, IsNone, unwrap_or, Contains, List, length}
use Rattle.std.specs.Option.{option_map_or}
use Rattle.byte_ends.specs.Counts.{raised}
use Rattle.byte_ends.specs.MemFile.{FileState, bytes_in, TakesNothing, find_file, place_file}
use Rattle.byte_ends.specs.Shelf.{ShelfState}

-- files in memory
pub record MemShelfState : Type 0 where
  -- a call gives or takes at most so many bytes
  pub chunk : ℕ
  -- the numbers of the calls that fail
  pub failing : List ℕ
  -- the number of the next call
  pub calls : ℕ
  -- the names that were put or reserved
  pub files : List FileState
  pub read_faults : ℕ
  pub write_faults : ℕ
  -- the counts that all other names share
  pub other_read_faults : ℕ
  pub other_write_faults : ℕ

-- a name that was neither put nor reserved
abbrev pub other_file : MemShelfState → List ℕ → FileState
other_file shelf name = record {
  name = name;
  bytes = None;
  room = 0;
  read_faults = shelf.other_read_faults;
  write_faults = shelf.other_write_faults;
}

-- the file of this name
abbrev pub file_of : MemShelfState → List ℕ → FileState
file_of shelf name = unwrap_or (find_file shelf.files name) (other_file shelf name)

-- what contracts see of the files as a shelf
abbrev pub shelf_state : MemShelfState → ShelfState
shelf_state shelf = record {
  told = true;
  file = λ name. (file_of shelf name).bytes;
  read_faults = shelf.read_faults;
  write_faults = shelf.write_faults;
  read_faults_of = λ name. (file_of shelf name).read_faults;
  write_faults_of = λ name. (file_of shelf name).write_faults;
}

-- the number of the next call is listed
abbrev pub IsListed : MemShelfState → Type 0
IsListed shelf = Contains shelf.failing shelf.calls

-- a read fails: by its number, or since the file is not there
abbrev pub ReadFails : MemShelfState → List ℕ → Type 0
ReadFails shelf name = IsListed shelf ⊎ IsNone (file_of shelf name).bytes

-- a create fails: by its number, or since the name was neither put nor reserved
abbrev pub CreateFails : MemShelfState → List ℕ → Type 0
CreateFails shelf name = IsListed shelf ⊎ IsNone (find_file shelf.files name)

-- an append fails: by its number, or since the file is not there or is full
abbrev pub AppendFails : MemShelfState → List ℕ → List ℕ → Type 0
AppendFails shelf name piece = IsListed shelf ⊎ TakesNothing (file_of shelf name) piece

-- how many bytes a read gives
abbrev pub given_count : MemShelfState → List ℕ → ℕ → List ℕ → ℕ
given_count shelf name at into =
    min shelf.chunk (min (length into) (length (bytes_in (file_of shelf name)) - at))

-- with this file in place of the one of its name
abbrev pub with_file : MemShelfState → FileState → MemShelfState
with_file shelf file = record shelf { files = place_file shelf.files file }

-- after one more call
abbrev pub called : MemShelfState → MemShelfState
called shelf = record shelf { calls = raised shelf.calls }

-- after a read fault of this name
abbrev pub read_faulted : MemShelfState → List ℕ → MemShelfState
read_faulted shelf name =
    let counted = record shelf { read_faults = raised shelf.read_faults } in
    option_map_or (λ file. with_file counted (record file { read_faults = raised file.read_faults }))
    (find_file shelf.files name)
    (record counted { other_read_faults = raised shelf.other_read_faults })

-- after a write fault of this name
abbrev pub write_faulted : MemShelfState → List ℕ → MemShelfState
write_faulted shelf name =
    let counted = record shelf { write_faults = raised shelf.write_faults } in
    option_map_or (λ file. with_file counted (record file { write_faults = raised file.write_faults }))
    (find_file shelf.files name)
    (record counted { other_write_faults = raised shelf.other_write_faults })
