use Rattle.std.proofs.Common.{ℕ, ◌+◌, List, [], ◌++◌, take, drop, ap, ◌∙◌, sym, subst, arith, append_assoc}
use Rattle.std.specs.Prelude.{IsTrue, unwrap_or}
use Rattle.byte_ends.specs.Counts.{Rose}
use Rattle.byte_ends.specs.Shelf.{ShelfState, bytes_of, SameFiles, SameReadFaults, SameFaults, NoCountFalls, WriteFailed, TellsNoMore, Appends}
use Rattle.byte_ends.proofs.Pieces.{take-add}

-- a first part of the bytes, and then a first part of the others, is a longer first part
pub append_more : {a b c : ShelfState} {name : List ℕ} (bytes : List ℕ) (done count : ℕ)
    → Appends a b name (take done bytes) → Appends b c name (take count (drop done bytes)) → TellsNoMore b c
    → Appends a c name (take (done + count) bytes)
append_more {a} {b} {c} {name} bytes done count begun more telling = record {
  named = λ told.
      more.named told
      ∙ ap (λ front. front ++ take count (drop done bytes)) (begun.named (telling told))
      ∙ append_assoc (bytes_of a name) (take done bytes) (take count (drop done bytes))
      ∙ ap (λ back. bytes_of a name ++ back) (sym (take-add done count bytes));
  others = λ told. record {
    each = λ other ne. (more.others told).each other ne ∙ (begun.others (telling told)).each other ne;
  };
}

-- what was added before a call that adds nothing
pub appended_before : {a b c : ShelfState} {name added : List ℕ}
    → Appends a b name added → (IsTrue c.told → SameFiles b c) → TellsNoMore b c → Appends a c name added
appended_before {a} {b} {c} {name} begun same telling = record {
  named = λ told. ap (λ file. unwrap_or file []) ((same told).each name) ∙ begun.named (telling told);
  others = λ told. record {
    each = λ other ne. (same told).each other ∙ (begun.others (telling told)).each other ne;
  };
}

-- a write that failed after calls that left the counts has failed since their start
pub write_failed_since : {a b c : ShelfState} {name : List ℕ}
    → SameFaults a b → WriteFailed b c name → TellsNoMore b c → WriteFailed a c name
write_failed_since {a} {b} {c} {name} same failed telling = record {
  all = let P : ℕ → Type 0 = λ n. Rose n c.write_faults in subst P same.writes.all failed.all;
  of_name = λ before after.
      let P : ℕ → Type 0 = λ n. Rose n (c.write_faults_of name) in
      subst P (same.writes.of_name name) (failed.of_name (telling after) after);
}

-- the counts of reads stay over two calls that leave them
pub read_faults_then : {a b c : ShelfState} → SameReadFaults a b → SameReadFaults b c → SameReadFaults a c
read_faults_then p q = record {
  all = q.all ∙ p.all;
  of_name = λ name. q.of_name name ∙ p.of_name name;
}

-- counts that stay, and then do not fall, do not fall
pub no_fall_since : {a b c : ShelfState} → SameFaults a b → NoCountFalls b c → NoCountFalls a c
no_fall_since {a} {b} {c} same kept = record {
  read_faults = omega (arith, same.reads.all, kept.read_faults);
  write_faults = omega (arith, same.writes.all, kept.write_faults);
  read_faults_of = λ name. omega (arith, same.reads.of_name name, kept.read_faults_of name);
  write_faults_of = λ name. omega (arith, same.writes.of_name name, kept.write_faults_of name);
}
