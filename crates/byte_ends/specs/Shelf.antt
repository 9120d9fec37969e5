-- What a shelf means, and what its calls do.
-- Source: docs/ENDS.md, "What they mean" and "What the calls do".
use Rattle.std.specs.Prelude.{◌≡◌, ◌≢◌, ℕ, ◌<◌, ◌≤◌, ◌++◌, Bool, IsTrue, List, [], Option, Some, unwrap_or, length, take, drop}
use Rattle.byte_ends.specs.Counts.{Rose}

-- what a shelf means: its files, and how often a read and a write have failed, in all and by the file's name
pub record ShelfState : Type 0 where
  -- whether the shelf tells its files
  pub told : Bool
  -- the bytes of the file of this name; None stands for no bytes
  pub file : List ℕ → Option (List ℕ)
  pub read_faults : ℕ
  pub write_faults : ℕ
  pub read_faults_of : List ℕ → ℕ
  pub write_faults_of : List ℕ → ℕ

-- the bytes of the file of this name, none where there is no such file
abbrev pub bytes_of : ShelfState → List ℕ → List ℕ
bytes_of shelf name = unwrap_or (shelf.file name) []

-- both shelves tell the same files
pub record SameFiles (old new : ShelfState) : Type 0 where
  pub each : (name : List ℕ) → new.file name ≡ old.file name

-- every file but the one of this name is as before
pub record SameOtherFiles (old new : ShelfState) (name : List ℕ) : Type 0 where
  pub each : (other : List ℕ) → other ≢ name → new.file other ≡ old.file other

-- no read fault was counted, in all or of any name
pub record SameReadFaults (old new : ShelfState) : Type 0 where
  pub all : new.read_faults ≡ old.read_faults
  pub of_name : (name : List ℕ) → new.read_faults_of name ≡ old.read_faults_of name

-- no write fault was counted, in all or of any name
pub record SameWriteFaults (old new : ShelfState) : Type 0 where
  pub all : new.write_faults ≡ old.write_faults
  pub of_name : (name : List ℕ) → new.write_faults_of name ≡ old.write_faults_of name

-- no fault was counted
pub record SameFaults (old new : ShelfState) : Type 0 where
  pub reads : SameReadFaults old new
  pub writes : SameWriteFaults old new

-- no count of faults fell
pub record NoCountFalls (old new : ShelfState) : Type 0 where
  pub read_faults : old.read_faults ≤ new.read_faults
  pub write_faults : old.write_faults ≤ new.write_faults
  pub read_faults_of : (name : List ℕ) → old.read_faults_of name ≤ new.read_faults_of name
  pub write_faults_of : (name : List ℕ) → old.write_faults_of name ≤ new.write_faults_of name

-- the count of read faults rose, and that of this name where the shelf tells its files before and after
pub record ReadFailed (old new : ShelfState) (name : List ℕ) : Type 0 where
  pub all : Rose old.read_faults new.read_faults
  pub of_name : IsTrue old.told → IsTrue new.told → Rose (old.read_faults_of name) (new.read_faults_of name)

-- the count of write faults rose, and that of this name where the shelf tells its files before and after
pub record WriteFailed (old new : ShelfState) (name : List ℕ) : Type 0 where
  pub all : Rose old.write_faults new.write_faults
  pub of_name : IsTrue old.told → IsTrue new.told → Rose (old.write_faults_of name) (new.write_faults_of name)

-- what reading leaves as it was: whether files are told, the files that are told, and the counts of write faults
pub record ReadsOnly (old new : ShelfState) : Type 0 where
  pub told : new.told ≡ old.told
  pub files : IsTrue old.told → SameFiles old new
  pub write_faults : SameWriteFaults old new
  pub counts : NoCountFalls old new

-- a shelf that doesn't tell its files doesn't tell them later
abbrev pub TellsNoMore : ShelfState → ShelfState → Type 0
TellsNoMore old new = IsTrue new.told → IsTrue old.told

-- so many bytes were given: those of the file from `at` on, and none only where none fit or none are left
pub record Gives (file into : List ℕ) (at count : ℕ) : Type 0 where
  pub bytes : take count into ≡ take count (drop at file)
  pub some : 0 < length into → at < length file → 0 < count

-- a shelf that tells its files has emptied the file of this name, and changed no other
pub record Empties (old new : ShelfState) (name : List ℕ) : Type 0 where
  pub named : IsTrue new.told → new.file name ≡ Some []
  pub others : IsTrue new.told → SameOtherFiles old new name

-- a shelf that tells its files has added these bytes to the file of this name, and changed no other
pub record Appends (old new : ShelfState) (name added : List ℕ) : Type 0 where
  pub named : IsTrue new.told → bytes_of new name ≡ bytes_of old name ++ added
  pub others : IsTrue new.told → SameOtherFiles old new name

-- a shelf that tells its files has added a first part of these bytes to the file of this name, and changed no other
pub record AppendsPrefix (old new : ShelfState) (name bytes : List ℕ) : Type 0 where
  pub prefix : (count : ℕ) × Appends old new name (take count bytes)

-- so many bytes of a piece were taken: at most all of them, and at least one where there is one
pub record Takes (piece : List ℕ) (count : ℕ) : Type 0 where
  pub at_most : count ≤ length piece
  pub some : 0 < length piece → 0 < count
