use Rattle.std.proofs.Common.{◌≡◌, ◌≢◌, ℕ, ◌≤◌, Bool, true, false, cond, List, [], ◌∷◌, Option, None, Some, refl, ap, ◌∙◌, sym, subst, arith}
use Rattle.std.specs.Prelude.{unwrap_or}
use Rattle.std.specs.Option.{option_map_or}
use Rattle.std.specs.Str.{bytes_eq}
use Rattle.std.proofs.lemmas.Slice.Eq.{bytes_eq-Decides}
use Rattle.byte_ends.specs.Counts.{raised, Rose}
use Rattle.byte_ends.specs.MemFile.{FileState, find_file, place_file}
use Rattle.byte_ends.specs.MemShelf.{MemShelfState, file_of, other_file, with_file, read_faulted, write_faulted}

keep_same : (here there : Bool) (F G R : Option FileState) → there ≡ here → cond here F R ≡ cond here F (cond there G R)
keep_same true there F G R e = refl
keep_same false true F G R e = cc
keep_same false false F G R e = refl

keep_other : (here there : Bool) (F G R : Option FileState) → (here ≡ true → there ≡ false)
    → cond there G (cond here F R) ≡ cond here F (cond there G R)
keep_other true true F G R e = let no : true ≡ false = e refl in cc
keep_other true false F G R e = refl
keep_other false true F G R e = refl
keep_other false false F G R e = refl

-- what is found after a file was placed
pub find_file-place_file : (files : List FileState) (file : FileState) (name : List ℕ)
    → find_file (place_file files file) name ≡ cond (bytes_eq file.name name) (Some file) (find_file files name)
find_file-place_file [] file name = refl
find_file-place_file (first ∷ files) file name =
    elim (bytes_eq first.name file.name) as (λ b. bytes_eq first.name file.name ≡ b
    → find_file (cond b (file ∷ files) (first ∷ place_file files file)) name
    ≡ cond (bytes_eq file.name name) (Some file) (cond (bytes_eq first.name name) (Some first) (find_file files name))) [
      | true ↦ λ e. keep_same (bytes_eq file.name name) (bytes_eq first.name name) (Some file) (Some first) (find_file files name)
          (ap (λ n. bytes_eq n name) ((bytes_eq-Decides first.name file.name).0 e))
      | false ↦ λ e. ap (λ rest. cond (bytes_eq first.name name) (Some first) rest) (find_file-place_file files file name)
          ∙ keep_other (bytes_eq file.name name) (bytes_eq first.name name) (Some file) (Some first) (find_file files name)
          (other_name first file name e)
    ] refl
  where
    other_name : (first file : FileState) (name : List ℕ) → bytes_eq first.name file.name ≡ false
        → bytes_eq file.name name ≡ true → bytes_eq first.name name ≡ false
    other_name first file name e h =
        ap (λ n. bytes_eq first.name n) (sym ((bytes_eq-Decides file.name name).0 h)) ∙ e

-- what is found has the name
pub find_file-name : (files : List FileState) (name : List ℕ) (file : FileState)
    → find_file files name ≡ Some file → file.name ≡ name
find_file-name [] name file h = absurd (no_file file h)
  where
    no_file : (file : FileState) → None ≡ Some file → ⊥
    no_file file h = cc
find_file-name (first ∷ files) name file h =
    elim (bytes_eq first.name name) as (λ b. bytes_eq first.name name ≡ b
    → cond b (Some first) (find_file files name) ≡ Some file → file.name ≡ name)
    [ true ↦ λ e found. same first file name e found | false ↦ λ e found. find_file-name files name file found ] refl h
  where
    same : (first file : FileState) (name : List ℕ) → bytes_eq first.name name ≡ true → Some first ≡ Some file → file.name ≡ name
    same first file name e found =
        let one : first ≡ file = cc in ap (λ f. f.name) (sym one) ∙ (bytes_eq-Decides first.name name).0 e

pub file_of-name : (shelf : MemShelfState) (name : List ℕ) → (file_of shelf name).name ≡ name
file_of-name shelf name =
    elim (find_file shelf.files name) as (λ found. find_file shelf.files name ≡ found
    → (unwrap_or found (other_file shelf name)).name ≡ name)
    [ None ↦ λ e. refl | Some file ↦ λ e. find_file-name shelf.files name file e ] refl

-- the files after one was placed
pub file_of-with_file : (shelf : MemShelfState) (file : FileState) (name : List ℕ)
    → file_of (with_file shelf file) name ≡ cond (bytes_eq file.name name) file (file_of shelf name)
file_of-with_file shelf file name =
    ap (λ found. unwrap_or found (other_file shelf name)) (find_file-place_file shelf.files file name)
    ∙ over (bytes_eq file.name name)
  where
    over : (b : Bool) → unwrap_or (cond b (Some file) (find_file shelf.files name)) (other_file shelf name)
        ≡ cond b file (file_of shelf name)
    over true = refl
    over false = refl

pub placed_here : (shelf : MemShelfState) (name : List ℕ) (file : FileState)
    → file.name ≡ name → file_of (with_file shelf file) name ≡ file
placed_here shelf name file named =
    file_of-with_file shelf file name
    ∙ ap (λ b. cond b file (file_of shelf name)) ((bytes_eq-Decides file.name name).1 named)

pub placed_elsewhere : (shelf : MemShelfState) (name : List ℕ) (file : FileState)
    → file.name ≡ name → (other : List ℕ) → other ≢ name → file_of (with_file shelf file) other ≡ file_of shelf other
placed_elsewhere shelf name file named other ne =
    file_of-with_file shelf file other
    ∙ elim (bytes_eq file.name other) as (λ b. bytes_eq file.name other ≡ b → cond b file (file_of shelf other) ≡ file_of shelf other)
    [ true ↦ λ e. absurd (ne (sym ((bytes_eq-Decides file.name other).0 e) ∙ named)) | false ↦ λ e. refl ] refl

-- what a file keeps when it is placed, each file keeps
pub kept_by : {Y : Type 0} (get : FileState → Y) (shelf : MemShelfState) (name : List ℕ) (file : FileState)
    → file.name ≡ name → get file ≡ get (file_of shelf name)
    → (other : List ℕ) → get (file_of (with_file shelf file) other) ≡ get (file_of shelf other)
kept_by get shelf name file named same other =
    ap get (file_of-with_file shelf file other)
    ∙ elim (bytes_eq file.name other) as (λ b. bytes_eq file.name other ≡ b → get (cond b file (file_of shelf other)) ≡ get (file_of shelf other)) [
      | true ↦ λ e. same ∙ ap (λ n. get (file_of shelf n)) (sym named ∙ (bytes_eq-Decides file.name other).0 e)
      | false ↦ λ e. refl
    ] refl

-- a relation of the files before and after a fault was counted
pub faulted_by : (P : FileState → FileState → Type 0) (raise : FileState → FileState) (shelf counted other_counted : MemShelfState)
    → ((file : FileState) → P file file)
    → ((file : FileState) → P file (raise file))
    → ((file : FileState) → (raise file).name ≡ file.name)
    → ((name : List ℕ) → file_of counted name ≡ file_of shelf name)
    → ((name : List ℕ) → P (file_of shelf name) (file_of other_counted name))
    → (name other : List ℕ)
    → P (file_of shelf other)
    (file_of (option_map_or (λ file. with_file counted (raise file)) (find_file shelf.files name) other_counted) other)
faulted_by P raise shelf counted other_counted same raises keeps_name kept others name other =
    elim (find_file shelf.files name) as (λ found. find_file shelf.files name ≡ found
    → P (file_of shelf other) (file_of (option_map_or (λ file. with_file counted (raise file)) found other_counted) other)) [
      | None ↦ λ e. others other
      | Some file ↦ λ e.
          let after : FileState → Type 0 = λ f. P (file_of shelf other) f in
          subst after (sym (file_of-with_file counted (raise file) other))
          (elim (bytes_eq (raise file).name other) as (λ b. bytes_eq (raise file).name other ≡ b
          → P (file_of shelf other) (cond b (raise file) (file_of counted other))) [
            | true ↦ λ h. let before : FileState → Type 0 = λ f. P f (raise file) in
                subst before (sym (found_here file e ((sym (keeps_name file)) ∙ (bytes_eq-Decides (raise file).name other).0 h))) (raises file)
            | false ↦ λ h. subst after (sym (kept other)) (same (file_of shelf other))
          ] refl)
    ] refl
  where
    found_here : (file : FileState) → find_file shelf.files name ≡ Some file → file.name ≡ other → file_of shelf other ≡ file
    found_here file e h =
        ap (λ n. unwrap_or (find_file shelf.files n) (other_file shelf n)) (sym h ∙ find_file-name shelf.files name file e)
        ∙ ap (λ found. unwrap_or found (other_file shelf name)) e

-- what a read fault leaves of a file
pub record AfterReadFault (old new : FileState) : Type 0 where
  pub bytes : new.bytes ≡ old.bytes
  pub reads : old.read_faults ≤ new.read_faults
  pub writes : new.write_faults ≡ old.write_faults

-- what a write fault leaves of a file
pub record AfterWriteFault (old new : FileState) : Type 0 where
  pub bytes : new.bytes ≡ old.bytes
  pub reads : new.read_faults ≡ old.read_faults
  pub writes : old.write_faults ≤ new.write_faults

not_below : (n : ℕ) → n ≤ n
not_below n = omega arith

raised_above : (n : ℕ) → n ≤ raised n
raised_above n = omega arith

raised_rose : (n : ℕ) → Rose n (raised n)
raised_rose n = omega arith

pub read_faulted-files : (shelf : MemShelfState) (name other : List ℕ)
    → AfterReadFault (file_of shelf other) (file_of (read_faulted shelf name) other)
read_faulted-files shelf name other =
    faulted_by AfterReadFault (λ file. record file { read_faults = raised file.read_faults }) shelf
    (record shelf { read_faults = raised shelf.read_faults })
    (record shelf { read_faults = raised shelf.read_faults; other_read_faults = raised shelf.other_read_faults })
    (λ file. record { bytes = refl; reads = not_below file.read_faults; writes = refl })
    (λ file. record { bytes = refl; reads = raised_above file.read_faults; writes = refl })
    (λ file. refl)
    (λ n. refl)
    (λ n. others (find_file shelf.files n) n)
    name other
  where
    others : (found : Option FileState) (n : List ℕ) → AfterReadFault (unwrap_or found (other_file shelf n))
        (unwrap_or found (record (other_file shelf n) { read_faults = raised shelf.other_read_faults }))
    others None n = record { bytes = refl; reads = raised_above shelf.other_read_faults; writes = refl }
    others (Some file) n = record { bytes = refl; reads = not_below file.read_faults; writes = refl }

pub write_faulted-files : (shelf : MemShelfState) (name other : List ℕ)
    → AfterWriteFault (file_of shelf other) (file_of (write_faulted shelf name) other)
write_faulted-files shelf name other =
    faulted_by AfterWriteFault (λ file. record file { write_faults = raised file.write_faults }) shelf
    (record shelf { write_faults = raised shelf.write_faults })
    (record shelf { write_faults = raised shelf.write_faults; other_write_faults = raised shelf.other_write_faults })
    (λ file. record { bytes = refl; reads = refl; writes = not_below file.write_faults })
    (λ file. record { bytes = refl; reads = refl; writes = raised_above file.write_faults })
    (λ file. refl)
    (λ n. refl)
    (λ n. others (find_file shelf.files n) n)
    name other
  where
    others : (found : Option FileState) (n : List ℕ) → AfterWriteFault (unwrap_or found (other_file shelf n))
        (unwrap_or found (record (other_file shelf n) { write_faults = raised shelf.other_write_faults }))
    others None n = record { bytes = refl; reads = refl; writes = raised_above shelf.other_write_faults }
    others (Some file) n = record { bytes = refl; reads = refl; writes = not_below file.write_faults }

-- the totals after a fault
pub read_faulted-all : (shelf : MemShelfState) (name : List ℕ)
    → ((read_faulted shelf name).read_faults ≡ raised shelf.read_faults) × ((read_faulted shelf name).write_faults ≡ shelf.write_faults)
read_faulted-all shelf name =
    elim (find_file shelf.files name) as (λ found. let after = option_map_or
    (λ file. with_file (record shelf { read_faults = raised shelf.read_faults }) (record file { read_faults = raised file.read_faults })) found
    (record shelf { read_faults = raised shelf.read_faults; other_read_faults = raised shelf.other_read_faults }) in
    (after.read_faults ≡ raised shelf.read_faults) × (after.write_faults ≡ shelf.write_faults))
    [ None ↦ (refl, refl) | Some file ↦ (refl, refl) ]

pub write_faulted-all : (shelf : MemShelfState) (name : List ℕ)
    → ((write_faulted shelf name).write_faults ≡ raised shelf.write_faults) × ((write_faulted shelf name).read_faults ≡ shelf.read_faults)
write_faulted-all shelf name =
    elim (find_file shelf.files name) as (λ found. let after = option_map_or
    (λ file. with_file (record shelf { write_faults = raised shelf.write_faults }) (record file { write_faults = raised file.write_faults })) found
    (record shelf { write_faults = raised shelf.write_faults; other_write_faults = raised shelf.other_write_faults }) in
    (after.write_faults ≡ raised shelf.write_faults) × (after.read_faults ≡ shelf.read_faults))
    [ None ↦ (refl, refl) | Some file ↦ (refl, refl) ]

-- the counts of the named file after a fault
pub read_faulted-named : (shelf : MemShelfState) (name : List ℕ)
    → (file_of (read_faulted shelf name) name).read_faults ≡ raised (file_of shelf name).read_faults
read_faulted-named shelf name =
    elim (find_file shelf.files name) as (λ found. find_file shelf.files name ≡ found
    → (file_of (option_map_or
    (λ file. with_file (record shelf { read_faults = raised shelf.read_faults }) (record file { read_faults = raised file.read_faults })) found
    (record shelf { read_faults = raised shelf.read_faults; other_read_faults = raised shelf.other_read_faults })) name).read_faults
    ≡ raised (unwrap_or found (other_file shelf name)).read_faults) [
      | None ↦ λ e. ap (λ found. (unwrap_or found (record (other_file shelf name) { read_faults = raised shelf.other_read_faults })).read_faults) e
      | Some file ↦ λ e. ap (λ f. f.read_faults)
          (placed_here (record shelf { read_faults = raised shelf.read_faults }) name (record file { read_faults = raised file.read_faults })
          (find_file-name shelf.files name file e))
    ] refl

pub write_faulted-named : (shelf : MemShelfState) (name : List ℕ)
    → (file_of (write_faulted shelf name) name).write_faults ≡ raised (file_of shelf name).write_faults
write_faulted-named shelf name =
    elim (find_file shelf.files name) as (λ found. find_file shelf.files name ≡ found
    → (file_of (option_map_or
    (λ file. with_file (record shelf { write_faults = raised shelf.write_faults }) (record file { write_faults = raised file.write_faults })) found
    (record shelf { write_faults = raised shelf.write_faults; other_write_faults = raised shelf.other_write_faults })) name).write_faults
    ≡ raised (unwrap_or found (other_file shelf name)).write_faults) [
      | None ↦ λ e. ap (λ found. (unwrap_or found (record (other_file shelf name) { write_faults = raised shelf.other_write_faults })).write_faults) e
      | Some file ↦ λ e. ap (λ f. f.write_faults)
          (placed_here (record shelf { write_faults = raised shelf.write_faults }) name (record file { write_faults = raised file.write_faults })
          (find_file-name shelf.files name file e))
    ] refl
