use Rattle.std.proofs.Common.{◌≡◌, ℕ, ◌+◌, List, [], ◌++◌, take, drop, ap, ◌∙◌, sym, subst, arith}
use Rattle.std.specs.Prelude.{IsTrue, unwrap_or}
use Rattle.byte_ends.specs.Counts.{Rose}
use Rattle.byte_ends.specs.Shelf.{ShelfState, bytes_of, SameFaults, ReadFailed, ReadsOnly, Gives}
use Rattle.byte_ends.proofs.Pieces.{take-add}
use Rattle.byte_ends.proofs.PutSteps.{told_along}

-- one read and then another leave what each leaves
pub reads_then : {a b c : ShelfState} → ReadsOnly a b → ReadsOnly b c → ReadsOnly a c
reads_then {a} {b} {c} p q = record {
  told = q.told ∙ p.told;
  files = λ told. record { each = λ name. (q.files (told_along b.told a.told p.told told)).each name ∙ (p.files told).each name };
  write_faults = record {
    all = q.write_faults.all ∙ p.write_faults.all;
    of_name = λ name. q.write_faults.of_name name ∙ p.write_faults.of_name name;
  };
  counts = record {
    read_faults = omega (arith, p.counts.read_faults, q.counts.read_faults);
    write_faults = omega (arith, p.counts.write_faults, q.counts.write_faults);
    read_faults_of = λ name. omega (arith, p.counts.read_faults_of name, q.counts.read_faults_of name);
    write_faults_of = λ name. omega (arith, p.counts.write_faults_of name, q.counts.write_faults_of name);
  };
}

-- the counts stay over two calls that leave them
pub faults_then : {a b c : ShelfState} → SameFaults a b → SameFaults b c → SameFaults a c
faults_then p q = record {
  reads = record {
    all = q.reads.all ∙ p.reads.all;
    of_name = λ name. q.reads.of_name name ∙ p.reads.of_name name;
  };
  writes = record {
    all = q.writes.all ∙ p.writes.all;
    of_name = λ name. q.writes.of_name name ∙ p.writes.of_name name;
  };
}

-- a read that failed after calls that left the counts has failed since their start
pub failed_since : {a b c : ShelfState} {name : List ℕ} → ReadsOnly a b → SameFaults a b → ReadFailed b c name → ReadFailed a c name
failed_since {a} {b} {c} {name} kept same failed = record {
  all = let P : ℕ → Type 0 = λ n. Rose n c.read_faults in subst P same.reads.all failed.all;
  of_name = λ before after.
      let P : ℕ → Type 0 = λ n. Rose n (c.read_faults_of name) in
      subst P (same.reads.of_name name) (failed.of_name (told_along b.told a.told kept.told before) after);
}

-- the bytes of a told file after reads
pub bytes_kept : {a b : ShelfState} → ReadsOnly a b → IsTrue a.told → (name : List ℕ) → bytes_of b name ≡ bytes_of a name
bytes_kept {a} {b} kept told name = ap (λ file. unwrap_or file []) ((kept.files told).each name)

-- what was read and what a read then gives are a longer first part of the file
pub read_more : {a b : ShelfState} {into : List ℕ} (name bytes : List ℕ) (at count : ℕ)
    → ReadsOnly a b → IsTrue a.told → bytes ≡ take at (bytes_of a name)
    → (IsTrue b.told → Gives (bytes_of b name) into at count)
    → bytes ++ take count into ≡ take (at + count) (bytes_of a name)
read_more {a} {b} {into} name bytes at count kept told e given =
    ap (λ front. front ++ take count into) e
    ∙ ap (λ back. take at (bytes_of a name) ++ back) (given (told_along b.told a.told kept.told told)).bytes
    ∙ ap (λ file. take at (bytes_of a name) ++ take count (drop at file)) (bytes_kept kept told name)
    ∙ sym (take-add at count (bytes_of a name))
