use Rattle.std.proofs.Common.{◌≡◌, ℕ, ◌-◌, ◌<◌, ◌≤◌, List, [], ◌++◌, Some, length, take, drop, refl, ap, ◌∙◌, sym, subst, arith, length-drop}
use Rattle.std.specs.Prelude.{unwrap_or}
use Rattle.std.proofs.lemmas.List.{take_at, length-take}
use Rattle.byte_ends.specs.Counts.{raised, Rose}
use Rattle.byte_ends.specs.MemFile.{bytes_in, with_bytes}
use Rattle.byte_ends.specs.MemShelf.{MemShelfState, file_of, shelf_state, with_file, called, read_faulted, write_faulted}
use Rattle.byte_ends.specs.Shelf.{ShelfState, SameFiles, SameOtherFiles, SameReadFaults, SameFaults, NoCountFalls, ReadFailed, WriteFailed, ReadsOnly, Gives, Empties, Appends}
use Rattle.byte_ends.proofs.MemShelfSteps.{file_of-name, placed_here, placed_elsewhere, kept_by, read_faulted-files, write_faulted-files, read_faulted-all, write_faulted-all, read_faulted-named, write_faulted-named}

no_higher : (a b : ℕ) → a ≡ b → b ≤ a
no_higher a b e = omega arith

raised_above : (a b : ℕ) → a ≡ raised b → b ≤ a
raised_above a b e = omega arith

raised_rose : (a b : ℕ) → a ≡ raised b → Rose b a
raised_rose a b e = omega arith

-- counts that stay do not fall
counts_stay : (old new : ShelfState) → SameFaults old new → NoCountFalls old new
counts_stay old new same = record {
  read_faults = no_higher new.read_faults old.read_faults same.reads.all;
  write_faults = no_higher new.write_faults old.write_faults same.writes.all;
  read_faults_of = λ name. no_higher (new.read_faults_of name) (old.read_faults_of name) (same.reads.of_name name);
  write_faults_of = λ name. no_higher (new.write_faults_of name) (old.write_faults_of name) (same.writes.of_name name);
}

-- a read that gave bytes

pub read_ok-reads_only : (old new : MemShelfState) → new ≡ called old → ReadsOnly (shelf_state old) (shelf_state new)
read_ok-reads_only old new e =
    let P : MemShelfState → Type 0 = λ s. ReadsOnly (shelf_state old) (shelf_state s) in
    subst P (sym e) (record {
      told = refl;
      files = λ _. record { each = λ name. refl };
      write_faults = record { all = refl; of_name = λ name. refl };
      counts = counts_stay (shelf_state old) (shelf_state (called old)) (record {
        reads = record { all = refl; of_name = λ name. refl };
        writes = record { all = refl; of_name = λ name. refl };
      });
    })

pub given_bytes : (file before into : List ℕ) (at count : ℕ)
    → count ≤ length file - at → into ≡ take count (drop at file) ++ drop count before
    → (0 < length into → at < length file → 0 < count) → Gives file into at count
given_bytes file before into at count fits e some = record {
  bytes = ap (λ xs. take count xs) e
      ∙ take_at (take count (drop at file)) (drop count before) count (omega (arith, length-take count (drop at file), length-drop at file));
  some = some;
}

-- a read that failed

pub read_err-reads_only : (old new : MemShelfState) (name : List ℕ)
    → new ≡ read_faulted (called old) name → ReadsOnly (shelf_state old) (shelf_state new)
read_err-reads_only old new name e =
    let P : MemShelfState → Type 0 = λ s. ReadsOnly (shelf_state old) (shelf_state s) in
    let after = read_faulted (called old) name in
    let all = read_faulted-all (called old) name in
    subst P (sym e) (record {
      told = refl;
      files = λ _. record { each = λ other. (read_faulted-files (called old) name other).bytes };
      write_faults = record { all = all.1; of_name = λ other. (read_faulted-files (called old) name other).writes };
      counts = record {
        read_faults = raised_above after.read_faults old.read_faults all.0;
        write_faults = no_higher after.write_faults old.write_faults all.1;
        read_faults_of = λ other. (read_faulted-files (called old) name other).reads;
        write_faults_of = λ other. no_higher (file_of after other).write_faults (file_of old other).write_faults
            (read_faulted-files (called old) name other).writes;
      };
    })

pub read_err-failed : (old new : MemShelfState) (name : List ℕ)
    → new ≡ read_faulted (called old) name → ReadFailed (shelf_state old) (shelf_state new) name
read_err-failed old new name e =
    let P : MemShelfState → Type 0 = λ s. ReadFailed (shelf_state old) (shelf_state s) name in
    let after = read_faulted (called old) name in
    subst P (sym e) (record {
      all = raised_rose after.read_faults old.read_faults (read_faulted-all (called old) name).0;
      of_name = λ _ _. raised_rose (file_of after name).read_faults (file_of old name).read_faults
          (read_faulted-named (called old) name);
    })

-- a file that was changed, with its counts as they were

pub changed-quiet : (old new : MemShelfState) (name : List ℕ) (bytes : List ℕ)
    → new ≡ with_file (called old) (record (file_of old name) { bytes = Some bytes })
    → SameFaults (shelf_state old) (shelf_state new)
changed-quiet old new name bytes e =
    let P : MemShelfState → Type 0 = λ s. SameFaults (shelf_state old) (shelf_state s) in
    let file = record (file_of old name) { bytes = Some bytes } in
    subst P (sym e) (record {
      reads = record { all = refl; of_name = λ other. kept_by (λ f. f.read_faults) (called old) name file (file_of-name old name) refl other };
      writes = record { all = refl; of_name = λ other. kept_by (λ f. f.write_faults) (called old) name file (file_of-name old name) refl other };
    })

pub changed-counts : (old new : MemShelfState) (name : List ℕ) (bytes : List ℕ)
    → new ≡ with_file (called old) (record (file_of old name) { bytes = Some bytes })
    → NoCountFalls (shelf_state old) (shelf_state new)
changed-counts old new name bytes e = counts_stay (shelf_state old) (shelf_state new) (changed-quiet old new name bytes e)

pub changed-named : (old new : MemShelfState) (name : List ℕ) (bytes : List ℕ)
    → new ≡ with_file (called old) (record (file_of old name) { bytes = Some bytes })
    → (shelf_state new).file name ≡ Some bytes
changed-named old new name bytes e =
    ap (λ s. (file_of s name).bytes) e
    ∙ ap (λ f. f.bytes) (placed_here (called old) name (record (file_of old name) { bytes = Some bytes }) (file_of-name old name))

pub changed-others : (old new : MemShelfState) (name : List ℕ) (bytes : List ℕ)
    → new ≡ with_file (called old) (record (file_of old name) { bytes = Some bytes })
    → SameOtherFiles (shelf_state old) (shelf_state new) name
changed-others old new name bytes e = record {
  each = λ other ne.
      ap (λ s. (file_of s other).bytes) e
      ∙ ap (λ f. f.bytes) (placed_elsewhere (called old) name (record (file_of old name) { bytes = Some bytes }) (file_of-name old name) other ne);
}

pub create_ok-empties : (old new : MemShelfState) (name : List ℕ)
    → new ≡ with_file (called old) (record (file_of old name) { bytes = Some [] })
    → Empties (shelf_state old) (shelf_state new) name
create_ok-empties old new name e = record {
  named = λ _. changed-named old new name [] e;
  others = λ _. changed-others old new name [] e;
}

pub append_ok-appends : (old new : MemShelfState) (name added : List ℕ)
    → new ≡ with_file (called old) (with_bytes (file_of old name) added)
    → Appends (shelf_state old) (shelf_state new) name added
append_ok-appends old new name added e = record {
  named = λ _. ap (λ file. unwrap_or file []) (changed-named old new name (bytes_in (file_of old name) ++ added) e);
  others = λ _. changed-others old new name (bytes_in (file_of old name) ++ added) e;
}

-- a create or an append that failed

pub write_err-failed : (old new : MemShelfState) (name : List ℕ)
    → new ≡ write_faulted (called old) name → WriteFailed (shelf_state old) (shelf_state new) name
write_err-failed old new name e =
    let P : MemShelfState → Type 0 = λ s. WriteFailed (shelf_state old) (shelf_state s) name in
    let after = write_faulted (called old) name in
    subst P (sym e) (record {
      all = raised_rose after.write_faults old.write_faults (write_faulted-all (called old) name).0;
      of_name = λ _ _. raised_rose (file_of after name).write_faults (file_of old name).write_faults
          (write_faulted-named (called old) name);
    })

pub write_err-files : (old new : MemShelfState) (name : List ℕ)
    → new ≡ write_faulted (called old) name → SameFiles (shelf_state old) (shelf_state new)
write_err-files old new name e =
    let P : MemShelfState → Type 0 = λ s. SameFiles (shelf_state old) (shelf_state s) in
    subst P (sym e) (record { each = λ other. (write_faulted-files (called old) name other).bytes })

pub write_err-reads : (old new : MemShelfState) (name : List ℕ)
    → new ≡ write_faulted (called old) name → SameReadFaults (shelf_state old) (shelf_state new)
write_err-reads old new name e =
    let P : MemShelfState → Type 0 = λ s. SameReadFaults (shelf_state old) (shelf_state s) in
    subst P (sym e) (record {
      all = (write_faulted-all (called old) name).1;
      of_name = λ other. (write_faulted-files (called old) name other).reads;
    })

pub write_err-counts : (old new : MemShelfState) (name : List ℕ)
    → new ≡ write_faulted (called old) name → NoCountFalls (shelf_state old) (shelf_state new)
write_err-counts old new name e =
    let P : MemShelfState → Type 0 = λ s. NoCountFalls (shelf_state old) (shelf_state s) in
    let after = write_faulted (called old) name in
    let all = write_faulted-all (called old) name in
    subst P (sym e) (record {
      read_faults = no_higher after.read_faults old.read_faults all.1;
      write_faults = raised_above after.write_faults old.write_faults all.0;
      read_faults_of = λ other. no_higher (file_of after other).read_faults (file_of old other).read_faults
          (write_faulted-files (called old) name other).reads;
      write_faults_of = λ other. (write_faulted-files (called old) name other).writes;
    })
