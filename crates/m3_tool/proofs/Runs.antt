-- What the answer to words says of a run.
use Rattle.std.proofs.Common.{◌≡◌, ◌≢◌, ℕ, List, true, false, Option, Some, None, Result, Ok, Err, refl, sym, ◌∙◌, ap, subst, arith, inl, inr}
use Rattle.std.specs.Prelude.{◌⊎◌, IsTrue, IfOk, IsSome, OnOk}
use Rattle.std.specs.Option.{option_map}
use Rattle.byte_ends.specs.Shelf.{ShelfState, bytes_of, ReadFailed, SameFaults, ReadsOnly}
use Rattle.table_text.specs.Canonical.{canonical}
use Rattle.m3_tool.specs.declared.status.Status.{Status}
use Rattle.m3_tool.specs.declared.status.Status.TheVariants.{Yes, No, Words, Tables, Witness, ReadFault, WriteFault, TooLarge, NoMemory, TooLong}
use Rattle.m3_tool.specs.declared.tables.Stop.{Stop}
use Rattle.m3_tool.specs.declared.tables.Stop.TheVariants as ended
use Rattle.m3_tool.specs.declared.answer.Answer.{Answer as OwnAnswer}
use Rattle.m3_tool.specs.Command.{Command, lower, count}
use Rattle.m3_tool.specs.Checking.{EndsCheck, EndsCount, OnReadFault, UnlessReadFault}
use Rattle.m3_tool.specs.Run.{Answer, answer, HasWitness, IsCountAnswer, IsDue, IsNoneOrCount, ReadsFailed, fileless_answer, is_outside}
use Rattle.m3_tool.specs.Lines.{satisfied_line, count_text}
use Rattle.m3_tool.specs.Headline.{EndsWith, MayPut, SaysWhether}
use Rattle.m3_tool.specs.Answer.{IsFileReadOnce, IsCommandReadOnce, IsAnswered, Stops, answer_of}
use Rattle.m3_tool.proofs.OneAnswerDue.{due_once}
use Rattle.m3_tool.proofs.Verdicts.{satisfied_due, violated_due, print_due, lowered_due, counted_due}

-- a status that a command ends with by the bytes of its files: that of words only where it is a count
abbrev pub EndsSo : Option Command → Status → Type 0
EndsSo c s = EndsCheck s ⊎ ((s ≡ Words) × IsNoneOrCount c)

pub ends_check : (c : Option Command) (r : Result OwnAnswer Stop) → IfOk r (λ x. EndsCheck x.status) → IfOk r (λ x. EndsSo c x.status)
ends_check c (Ok x) ends = inl ends
ends_check c (Err s) ends = ends

pub ends_count : (tables rows : List ℕ) (r : Result OwnAnswer Stop) → IfOk r (λ x. EndsCount x.status) → IfOk r (λ x. EndsSo (Some (count tables rows)) x.status)
ends_count tables rows (Ok x) (inl ends) = inl ends
ends_count tables rows (Ok x) (inr is) = inr (is, inr (tables, rows, refl))
ends_count tables rows (Err s) ends = ends

ends_words : (c : Option Command) (s : Status) → EndsSo c s → s ≡ Words → IsNoneOrCount c
ends_words c s (inl ends) is = absurd (subst EndsCheck is ends)
ends_words c s (inr (words, fits)) is = fits

not_reading : (c : Option Command) (s : Status) → EndsSo c s → s ≡ ReadFault → ⊥
not_reading c s (inl ends) is = subst EndsCheck is ends
not_reading c s (inr (words, fits)) is = apart (sym words ∙ is)
  where
    apart : Words ≡ ReadFault → ⊥
    apart e = cc

not_writing : (c : Option Command) (s : Status) → EndsSo c s → s ≡ WriteFault → ⊥
not_writing c s (inl ends) is = subst EndsCheck is ends
not_writing c s (inr (words, fits)) is = apart (sym words ∙ is)
  where
    apart : Words ≡ WriteFault → ⊥
    apart e = cc

not_memory : (c : Option Command) (s : Status) → EndsSo c s → s ≡ NoMemory → ⊥
not_memory c s (inl ends) is = subst EndsCheck is ends
not_memory c s (inr (words, fits)) is = apart (sym words ∙ is)
  where
    apart : Words ≡ NoMemory → ⊥
    apart e = cc

-- a command that ends by the bytes of its files
pub answered : (c d : Option Command) (old new : ShelfState) (a : Answer) → c ≡ d → d ≢ None → fileless_answer d ≡ None
    → (IsTrue old.told → IsDue d old a) → (IsTrue old.told → IsCommandReadOnce d old) → EndsSo d a.status → SameFaults old new → ReadsOnly old new → IsAnswered c old new a
answered c d old new a is fits files due once ends quiet reads_only = subst (λ (e : Option Command). IsAnswered e old new a) (sym is) (record {
  due = λ told inside. due told;
  once = λ told inside. once told;
  fileless = λ b e. absurd (none_some (sym files ∙ e));
  fits = λ s. ends_words d a.status ends s;
  read_fault = λ s. absurd (not_reading d a.status ends s);
  no_memory = λ s. absurd (not_memory d a.status ends s);
  no_write = λ s. not_writing d a.status ends s;
  quiet = λ _. quiet;
  reads_only = reads_only;
})
  where
    none_some : {X : Type 0} {x : X} → None ≡ Some x → ⊥
    none_some e = cc

-- a command that a failed read, or want of memory, has stopped
pub stopped : (c d : Option Command) (old new : ShelfState) (s : Stop) (a : Answer) → c ≡ d → d ≢ None → fileless_answer d ≡ None → Stops (Err s) a
    → (s ≡ ended.ReadFault → ReadsFailed d old new) → (s ≢ ended.ReadFault → SameFaults old new) → ReadsOnly old new → IsAnswered c old new a
stopped c d old new ended.ReadFault a is fits files stops failed quiet reads_only = subst (λ (e : Option Command). IsAnswered e old new a) (sym is) (record {
  due = λ told inside. absurd (outside (sym (ap (λ (x : Answer). is_outside x.status) stops) ∙ inside));
  once = λ told inside. absurd (outside (sym (ap (λ (x : Answer). is_outside x.status) stops) ∙ inside));
  fileless = λ b e. absurd (none_some (sym files ∙ e));
  fits = λ s. absurd (reading_words (sym (ap (λ (x : Answer). x.status) stops) ∙ s));
  read_fault = λ _. (failed refl, ap (λ (x : Answer). x.line) stops);
  no_memory = λ s. absurd (reading_memory (sym (ap (λ (x : Answer). x.status) stops) ∙ s));
  no_write = λ s. reading_writing (sym (ap (λ (x : Answer). x.status) stops) ∙ s);
  quiet = λ other. absurd (other (ap (λ (x : Answer). x.status) stops));
  reads_only = reads_only;
})
  where
    none_some : {X : Type 0} {x : X} → None ≡ Some x → ⊥
    none_some e = cc

    outside : true ≡ false → ⊥
    outside e = cc

    reading_words : ReadFault ≡ Words → ⊥
    reading_words e = cc

    reading_memory : ReadFault ≡ NoMemory → ⊥
    reading_memory e = cc

    reading_writing : ReadFault ≡ WriteFault → ⊥
    reading_writing e = cc
stopped c d old new ended.NoMemory a is fits files stops failed quiet reads_only = subst (λ (e : Option Command). IsAnswered e old new a) (sym is) (record {
  due = λ told inside. absurd (outside (sym (ap (λ (x : Answer). is_outside x.status) stops) ∙ inside));
  once = λ told inside. absurd (outside (sym (ap (λ (x : Answer). is_outside x.status) stops) ∙ inside));
  fileless = λ b e. absurd (none_some (sym files ∙ e));
  fits = λ s. absurd (memory_words (sym (ap (λ (x : Answer). x.status) stops) ∙ s));
  read_fault = λ s. absurd (memory_reading (sym (ap (λ (x : Answer). x.status) stops) ∙ s));
  no_memory = λ _. ap (λ (x : Answer). x.line) stops;
  no_write = λ s. memory_writing (sym (ap (λ (x : Answer). x.status) stops) ∙ s);
  quiet = λ _. quiet (λ e. cc);
  reads_only = reads_only;
})
  where
    none_some : {X : Type 0} {x : X} → None ≡ Some x → ⊥
    none_some e = cc

    outside : true ≡ false → ⊥
    outside e = cc

    memory_words : NoMemory ≡ Words → ⊥
    memory_words e = cc

    memory_reading : NoMemory ≡ ReadFault → ⊥
    memory_reading e = cc

    memory_writing : NoMemory ≡ WriteFault → ⊥
    memory_writing e = cc

-- what a command answered, or what stopped it
pub concluded : (c d : Option Command) (old new : ShelfState) (r : Result OwnAnswer Stop) (a : Answer) → c ≡ d → d ≢ None → fileless_answer d ≡ None → Stops r a
    → (IsTrue old.told → IfOk r (λ x. IsDue d old (answer_of x))) → (IsTrue old.told → OnOk r (IsCommandReadOnce d old)) → IfOk r (λ x. EndsSo d x.status)
    → OnReadFault r (ReadsFailed d old new) → UnlessReadFault r (SameFaults old new) → ReadsOnly old new → IsAnswered c old new a
concluded c d old new (Ok x) a is fits files stops due once ends failed quiet reads_only =
    subst (IsAnswered c old new) (sym stops) (answered c d old new (answer_of x) is fits files due once ends quiet reads_only)
concluded c d old new (Err ended.ReadFault) a is fits files stops due once ends failed quiet reads_only =
    stopped c d old new ended.ReadFault a is fits files stops (λ _. failed) (λ other. absurd (other refl)) reads_only
concluded c d old new (Err ended.NoMemory) a is fits files stops due once ends failed quiet reads_only =
    stopped c d old new ended.NoMemory a is fits files stops (λ e. absurd (apart e)) (λ _. quiet) reads_only
  where
    apart : ended.NoMemory ≡ ended.ReadFault → ⊥
    apart e = cc

at_rows : (rows : List ℕ) (counts : Option (List ℕ)) (text : List ℕ) (r : Result OwnAnswer Stop) → counts ≡ Some rows → IfOk r (λ x. (ns : List ℕ) → counts ≡ Some ns → IsCountAnswer ns text (answer_of x))
    → IfOk r (λ x. IsCountAnswer rows text (answer_of x))
at_rows rows counts text (Ok x) is due = due rows is
at_rows rows counts text (Err s) is due = due

-- what a count of words that spell numbers of rows answered, or what stopped it
pub count_concluded : (c : Option Command) (tables : List ℕ) (counts : Option (List ℕ)) (old new : ShelfState) (r : Result OwnAnswer Stop) (a : Answer) → c ≡ option_map (count tables) counts → IsSome counts → Stops r a
    → (IsTrue old.told → IfOk r (λ x. (rows : List ℕ) → counts ≡ Some rows → IsCountAnswer rows (bytes_of old tables) (answer_of x))) → (IsTrue old.told → OnOk r (IsFileReadOnce (bytes_of old tables))) → IfOk r (λ x. EndsCount x.status)
    → OnReadFault r (ReadFailed old new tables) → UnlessReadFault r (SameFaults old new) → ReadsOnly old new → IsAnswered c old new a
count_concluded c tables None old new r a is some stops due once ends failed quiet reads_only = absurd cc
count_concluded c tables (Some rows) old new r a is some stops due once ends failed quiet reads_only =
    concluded c (Some (count tables rows)) old new r a is (λ e. cc) refl stops (λ told. at_rows rows (Some rows) (bytes_of old tables) r refl (due told)) once (ends_count tables rows r ends) failed quiet reads_only

pub no_fault : (shelf : ShelfState) → SameFaults shelf shelf
no_fault shelf = record {
  reads = record { all = refl; of_name = λ name. refl };
  writes = record { all = refl; of_name = λ name. refl };
}

pub reads_nothing : (shelf : ShelfState) → ReadsOnly shelf shelf
reads_nothing shelf = record {
  told = refl;
  files = λ told. record { each = λ name. refl };
  write_faults = record { all = refl; of_name = λ name. refl };
  counts = record { read_faults = omega arith; write_faults = omega arith; read_faults_of = λ name. omega arith; write_faults_of = λ name. omega arith };
}

-- a fixed text that is due whatever the files are
pub printed : (c d : Option Command) (shelf : ShelfState) (line : List ℕ) (a : Answer) → c ≡ d → d ≢ None → IsCommandReadOnce d shelf → fileless_answer d ≡ Some (answer Yes line) → IsDue d shelf a → a ≡ answer Yes line
    → IsAnswered c shelf shelf a
printed c d shelf line a is fits once at_once due same = subst (λ (e : Option Command). IsAnswered e shelf shelf a) (sym is) (record {
  due = λ told inside. due;
  once = λ told inside. once;
  fileless = λ b e. same ∙ some_same (sym at_once ∙ e);
  fits = λ s. absurd (yes_words (sym (ap (λ (x : Answer). x.status) same) ∙ s));
  read_fault = λ s. absurd (yes_reading (sym (ap (λ (x : Answer). x.status) same) ∙ s));
  no_memory = λ s. absurd (yes_memory (sym (ap (λ (x : Answer). x.status) same) ∙ s));
  no_write = λ s. yes_writing (sym (ap (λ (x : Answer). x.status) same) ∙ s);
  quiet = λ _. no_fault shelf;
  reads_only = reads_nothing shelf;
})
  where
    some_same : {x y : Answer} → Some x ≡ Some y → x ≡ y
    some_same e = cc

    yes_words : Yes ≡ Words → ⊥
    yes_words e = cc

    yes_reading : Yes ≡ ReadFault → ⊥
    yes_reading e = cc

    yes_writing : Yes ≡ WriteFault → ⊥
    yes_writing e = cc

    yes_memory : Yes ≡ NoMemory → ⊥
    yes_memory e = cc

-- what an answer puts is due, or is the line of a fault of the outside
pub may_put : (c : Option Command) (old new : ShelfState) (a : Answer) → IsAnswered c old new a → MayPut c old new a.line
may_put c old new a is =
    elim a.status as (λ (s : Status). a.status ≡ s → MayPut c old new a.line) [
      | Yes ↦ λ e. inl (λ told. (a, is.due told (ap is_outside e), refl))
      | No ↦ λ e. inl (λ told. (a, is.due told (ap is_outside e), refl))
      | Words ↦ λ e. inl (λ told. (a, is.due told (ap is_outside e), refl))
      | Tables ↦ λ e. inl (λ told. (a, is.due told (ap is_outside e), refl))
      | Witness ↦ λ e. inl (λ told. (a, is.due told (ap is_outside e), refl))
      | ReadFault ↦ λ e. inr (inl (is.read_fault e))
      | WriteFault ↦ λ e. absurd (is.no_write e)
      | TooLarge ↦ λ e. inl (λ told. (a, is.due told (ap is_outside e), refl))
      | NoMemory ↦ λ e. inr (inr (is.no_memory e))
      | TooLong ↦ λ e. inl (λ told. (a, is.due told (ap is_outside e), refl))
    ] refl

-- the status of an answer that is due, unless the outside ends the run
ends_with : (c : Option Command) (old new : ShelfState) (a b : Answer) → IsAnswered c old new a → IsTrue old.told → IsDue c old b → EndsWith b.status a.status
ends_with c old new a b is told due =
    elim (is_outside a.status) as (λ t. is_outside a.status ≡ t → EndsWith b.status a.status) [
      | true ↦ λ e. inr e
      | false ↦ λ e. inl (sym (due_once c old a b (is.once told e) (is.due told e) due))
    ] refl

-- a lower whose files are accepted says Yes, unless the outside ends the run
ends_lowered : (c : Option Command) (tables witness : List ℕ) (alpha gamma : ℕ) (old new : ShelfState) (a : Answer) → IsAnswered c old new a → c ≡ Some (lower tables witness alpha gamma) → IsTrue old.told
    → HasWitness (bytes_of old tables) (bytes_of old witness) → EndsWith Yes a.status
ends_lowered c tables witness alpha gamma old new a is named told has =
    elim (is_outside a.status) as (λ t. is_outside a.status ≡ t → EndsWith Yes a.status) [
      | true ↦ λ e. inr e
      | false ↦ λ e. inl
          (lowered_due alpha gamma (bytes_of old tables) (bytes_of old witness) a has (subst (λ (d : Option Command). IsCommandReadOnce d old) named (is.once told e))
          (subst (λ (d : Option Command). IsDue d old a) named (is.due told e)))
    ] refl

-- a command whose files are accepted is answered by what they come to
pub says_whether : (c : Option Command) (old new : ShelfState) (a : Answer) → IsAnswered c old new a → SaysWhether c old a.status
says_whether c old new a is = record {
  yes = λ tables witness e told s. ends_with c old new a (answer Yes satisfied_line) is told (subst (λ (d : Option Command). IsDue d old (answer Yes satisfied_line)) (sym e) (satisfied_due (bytes_of old tables) (bytes_of old witness) s));
  printed = λ tables e told has. ends_with c old new a (answer Yes (canonical has.decls)) is told (subst (λ (d : Option Command). IsDue d old (answer Yes (canonical has.decls))) (sym e) (print_due (bytes_of old tables) has));
  no = λ tables witness line e told v. ends_with c old new a (answer No line) is told (subst (λ (d : Option Command). IsDue d old (answer No line)) (sym e) (violated_due (bytes_of old tables) (bytes_of old witness) line v));
  lowered = λ tables witness alpha gamma e told has. ends_lowered c tables witness alpha gamma old new a is e told has;
  counted = λ tables rows e told has. ends_with c old new a (answer Yes (count_text has.shape.parts rows)) is told
      (subst (λ (d : Option Command). IsDue d old (answer Yes (count_text has.shape.parts rows))) (sym e) (counted_due (bytes_of old tables) rows has));
}
