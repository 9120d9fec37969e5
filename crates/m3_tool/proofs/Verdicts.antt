-- A command that answers Yes or No has read its files, and one whose files are accepted is answered so.
use Rattle.std.proofs.Common.{◌≡◌, ◌≤◌, ℕ, List, length, Bool, true, false, cond, Result, Ok, Err, refl, sym, ◌∙◌, ap, subst, inl, inr, arith}
use Rattle.std.specs.Prelude.{◌==◌, nat_lt, IfOk, IsTrue, MatchResult}
use Rattle.std.specs.Bool.{MatchBool}
use Rattle.std.proofs.lemmas.Bool.{eqb-true}
use Rattle.std.proofs.lemmas.Bool.Decides.{nat_tests}
use Rattle.table_text.specs.declared.decl.Decl.{Decl}
use Rattle.table_text.specs.declared.fault.TextFault.{TextFault}
use Rattle.table_text.specs.Canonical.{canonical}
use Rattle.table_text.specs.Faults.{IsTablesText}
use Rattle.m3_tool.specs.Limits.{max_tables_file, max_witness_file}
use Rattle.table_shape.specs.Limits.{max_size_log}
use Rattle.table_shape.specs.Parts.{ShapeParts}
use Rattle.table_shape.specs.declared.fault.ShapeFault.{ShapeFault}
use Rattle.witness_reader.specs.declared.fault.WitnessStop.{WitnessStop}
use Rattle.witness_reader.specs.declared.fault.WitnessStop.TheVariants as stop
use Rattle.m3_tool.specs.declared.status.Status.{Status}
use Rattle.m3_tool.specs.declared.status.Status.TheVariants.{Yes, No, Words, Tables, Witness, ReadFault, WriteFault, TooLarge, NoMemory, TooLong}
use Rattle.table_shape.specs.Shape.{shape_of}
use Rattle.table_shape.specs.Size.{size_log}
use Rattle.witness_reader.specs.Witness.{WitnessData, witness_of, filling_of}
use Rattle.m3_tool.specs.Lines.{satisfied_line, count_text, words_line, too_large_line, too_long_line, shape_fault_line}
use Rattle.m3_tool.specs.Run.{Answer, answer, ToShape, ToValues, WitnessReadsFailed, IsJudgement, IsLowered, IsWitnessAnswer, IsWitnessFileAnswer, IsCounted, IsShapeAnswer, IsTextAnswer, IsResolvedAnswer, IsReadAnswer, IsCheckAnswer, IsLowerAnswer, IsPrinted, IsPrintAnswer, IsCountAnswer, HasCounts, HasDecls, HasShape, HasWitness, IsSatisfied, IsViolated, witness_refusal}
use Rattle.m3_tool.specs.declared.shapes.Shaped.TheVariants as shaped
use Rattle.m3_tool.specs.declared.shapes.Shaped.{Shaped}
use Rattle.m3_tool.specs.declared.tables.Stop.{Stop}
use Rattle.m3_tool.specs.declared.tables.Stop.TheVariants as ended
use Rattle.m3_tool.specs.declared.answer.Answer.{Answer as OwnAnswer}
use Rattle.m3_tool.specs.Answer.{IsFileReadOnce, answer_of}
use Rattle.m3_tool.specs.declared.witness.Question.{Question}
use Rattle.m3_tool.specs.Checking.{Answering, IsShapedFile, OnReadFault}
use Rattle.byte_ends.specs.Shelf.{ShelfState, bytes_of, ReadFailed, ReadsOnly, SameFaults}
use Rattle.byte_ends.proofs.PutSteps.{told_along}
use Rattle.byte_ends.proofs.ReadSteps.{bytes_kept, failed_since}
use Rattle.m3_tool.proofs.AnswerSteps.{resolved_file, sized_answer, within_limit, within_witness}
use Rattle.table_shape.proofs.MeantShape.{shaped_where_meant}
use Rattle.witness_reader.proofs.GivenWitness.{read_where_given}

-- a status that a judged witness ends with
abbrev pub IsVerdictStatus : Status → Type 0
IsVerdictStatus Yes = Unit {0}
IsVerdictStatus No = Unit {0}
IsVerdictStatus Words = ⊥
IsVerdictStatus Tables = ⊥
IsVerdictStatus Witness = ⊥
IsVerdictStatus ReadFault = ⊥
IsVerdictStatus WriteFault = ⊥
IsVerdictStatus TooLarge = ⊥
IsVerdictStatus NoMemory = ⊥
IsVerdictStatus TooLong = ⊥

verdict_of : (a b : Answer) → a ≡ b → IsVerdictStatus a.status → IsVerdictStatus b.status
verdict_of a b e h = subst (λ (x : Answer). IsVerdictStatus x.status) e h

not_longer : (limit len : ℕ) → nat_lt limit len ≡ false → len ≤ limit
not_longer limit len e = grind (arith, nat_tests)

refusal : (s : WitnessStop) → IsVerdictStatus (witness_refusal s).status → ⊥
refusal (stop.Fault fault) h = h
refusal (stop.TooLarge log_bits) h = h
refusal stop.NoMemory h = h

-- tables were read, and their shape was answered
pub record IsResolvedSo (Answers : ToShape) (text : List ℕ) (a : Answer) : Type 0 where
  pub shape : HasShape text
  pub answered : Answers shape.parts a

of_shape : (Answers : ToShape) (text : List ℕ) (decls : List Decl) (a : Answer) (r : Result ShapeParts ShapeFault) → length text ≤ max_tables_file → IsTablesText text decls → shape_of decls ≡ r
    → MatchResult r (λ shape. Answers shape a) (λ fault. a ≡ answer Tables (shape_fault_line fault)) → IsVerdictStatus a.status → IsResolvedSo Answers text a
of_shape Answers text decls a (Ok tables) within is shaped p h = record {
  shape = record { decls = decls; parts = tables; within = within; text_is = is; shape_is = (shaped_where_meant decls tables).0 shaped };
  answered = p;
}
of_shape Answers text decls a (Err fault) within is shaped p h = absurd (verdict_of a (answer Tables (shape_fault_line fault)) p h)

of_text : (Answers : ToShape) (text : List ℕ) (a : Answer) → length text ≤ max_tables_file → IsTextAnswer text (IsShapeAnswer Answers) a → IsVerdictStatus a.status → IsResolvedSo Answers text a
of_text Answers text a within (inl (fault, is, p)) h = absurd (verdict_of a _ p h)
of_text Answers text a within (inr (decls, is, p)) h = of_shape Answers text decls a (shape_of decls) within is refl p h

of_tables : (Answers : ToShape) (text : List ℕ) (a : Answer) (t : Bool) → nat_lt max_tables_file (length text) ≡ t → MatchBool t (a ≡ answer TooLong (too_long_line max_tables_file)) (IsTextAnswer text (IsShapeAnswer Answers) a) → IsVerdictStatus a.status
    → IsResolvedSo Answers text a
of_tables Answers text a true long p h = absurd (verdict_of a (answer TooLong (too_long_line max_tables_file)) p h)
of_tables Answers text a false long p h = of_text Answers text a (not_longer max_tables_file (length text) long) p h

resolved : (Answers : ToShape) (text : List ℕ) (a : Answer) → IsResolvedAnswer Answers text a → IsVerdictStatus a.status → IsResolvedSo Answers text a
resolved Answers text a p h = of_tables Answers text a (nat_lt max_tables_file (length text)) refl p h

-- tables and a witness were read, and the values were answered
pub record IsAnsweredSo (Answers : ToValues) (text witness : List ℕ) (a : Answer) : Type 0 where
  pub read : HasWitness text witness
  pub answered : Answers read.shape.parts read.given.rows (filling_of read.shape.parts.tables read.given) a

of_witness : (Answers : ToValues) (text witness : List ℕ) (shape : HasShape text) (a : Answer) (r : Result WitnessData WitnessStop) → length witness ≤ max_witness_file → witness_of shape.parts.tables witness ≡ r
    → MatchResult r (λ (w : WitnessData). Answers shape.parts w.rows (filling_of shape.parts.tables w) a) (λ stop. a ≡ witness_refusal stop) → IsVerdictStatus a.status → IsAnsweredSo Answers text witness a
of_witness Answers text witness shape a (Ok w) within read p h = record {
  read = record { shape = shape; given = w; within = within; witness_is = (read_where_given shape.parts.tables witness w).0 read };
  answered = p;
}
of_witness Answers text witness shape a (Err s) within read p h = absurd (refusal s (verdict_of a (witness_refusal s) p h))

of_file : (Answers : ToValues) (text witness : List ℕ) (shape : HasShape text) (a : Answer) (t : Bool) → nat_lt max_witness_file (length witness) ≡ t
    → MatchBool t (a ≡ answer TooLong (too_long_line max_witness_file)) (IsWitnessAnswer Answers shape.parts witness a) → IsVerdictStatus a.status → IsAnsweredSo Answers text witness a
of_file Answers text witness shape a true long p h = absurd (verdict_of a (answer TooLong (too_long_line max_witness_file)) p h)
of_file Answers text witness shape a false long p h = of_witness Answers text witness shape a (witness_of shape.parts.tables witness) (not_longer max_witness_file (length witness) long) refl p h

answered : (Answers : ToValues) (text witness : List ℕ) (a : Answer) → IsReadAnswer Answers text witness a → IsVerdictStatus a.status → IsAnsweredSo Answers text witness a
answered Answers text witness a p h =
    let s = resolved (λ shape b. IsWitnessFileAnswer Answers shape witness b) text a p h in
    of_file Answers text witness s.shape a (nat_lt max_witness_file (length witness)) refl s.answered h

yes_or_no : (a : Answer) (s : Status) → a.status ≡ s → IsVerdictStatus s → IsVerdictStatus a.status
yes_or_no a s e h = subst IsVerdictStatus (sym e) h

apart : Yes ≡ No → ⊥
apart e = cc

pub satisfied : (text witness : List ℕ) (a : Answer) → IsCheckAnswer text witness a → a.status ≡ Yes → IsSatisfied text witness × (a.line ≡ satisfied_line)
satisfied text witness a p is_yes = let j = answered IsJudgement text witness a p (yes_or_no a Yes is_yes tt) in by_judgement j j.answered
  where
    by_judgement : (j : IsAnsweredSo IsJudgement text witness a) → IsJudgement j.read.shape.parts j.read.given.rows (filling_of j.read.shape.parts.tables j.read.given) a → IsSatisfied text witness × (a.line ≡ satisfied_line)
    by_judgement j (inl q) = (record { read = j.read; satisfies = q.0 }, ap (λ (x : Answer). x.line) q.1)
    by_judgement j (inr (v, first, q)) = absurd (apart (sym is_yes ∙ ap (λ (x : Answer). x.status) q))

pub violated : (text witness : List ℕ) (a : Answer) → IsCheckAnswer text witness a → a.status ≡ No → IsViolated text witness a.line
violated text witness a p is_no = let j = answered IsJudgement text witness a p (yes_or_no a No is_no tt) in by_judgement j j.answered
  where
    by_judgement : (j : IsAnsweredSo IsJudgement text witness a) → IsJudgement j.read.shape.parts j.read.given.rows (filling_of j.read.shape.parts.tables j.read.given) a → IsViolated text witness a.line
    by_judgement j (inl q) = absurd (apart (sym (ap (λ (x : Answer). x.status) q.1) ∙ is_no))
    by_judgement j (inr (v, first, q)) = record { read = j.read; violation = v; first = first; line_is = ap (λ (x : Answer). x.line) q }

-- a lower that says Yes has read values, whose products it puts
pub lowered : (alpha gamma : ℕ) (text witness : List ℕ) (a : Answer) → IsLowerAnswer alpha gamma text witness a → a.status ≡ Yes → IsAnsweredSo (IsLowered alpha gamma) text witness a
lowered alpha gamma text witness a p is_yes = answered (IsLowered alpha gamma) text witness a p (yes_or_no a Yes is_yes tt)

-- what answers a shape is due to the tables that have it
resolved_due : (Answers : ToShape) (text : List ℕ) (a : Answer) (shape : HasShape text) → Answers shape.parts a → IsResolvedAnswer Answers text a
resolved_due Answers text a shape answered =
    let shaped = (shaped_where_meant shape.decls shape.parts).1 shape.shape_is in
    within_limit text a (IsTextAnswer text (IsShapeAnswer Answers) a) shape.within
    (inr (shape.decls, shape.text_is, subst (λ (r : Result ShapeParts ShapeFault). MatchResult r (λ s. Answers s a) (λ fault. a ≡ answer Tables (shape_fault_line fault))) (sym shaped) answered))

-- what the values are judged to be is due to the files that give them
judgement_due : (text witness : List ℕ) (a : Answer) (read : HasWitness text witness) → IsJudgement read.shape.parts read.given.rows (filling_of read.shape.parts.tables read.given) a → IsCheckAnswer text witness a
judgement_due text witness a read judged =
    let given = (read_where_given read.shape.parts.tables witness read.given).1 read.witness_is in
    let witness_due : IsWitnessAnswer IsJudgement read.shape.parts witness a =
    subst (λ (r : Result WitnessData WitnessStop). MatchResult r (λ (w : WitnessData). IsJudgement read.shape.parts w.rows (filling_of read.shape.parts.tables w) a) (λ stop. a ≡ witness_refusal stop)) (sym given) judged in
    resolved_due (λ shape b. IsWitnessFileAnswer IsJudgement shape witness b) text a read.shape (within_witness IsJudgement read.shape.parts witness a read.within witness_due)

pub satisfied_due : (text witness : List ℕ) → IsSatisfied text witness → IsCheckAnswer text witness (answer Yes satisfied_line)
satisfied_due text witness is = judgement_due text witness (answer Yes satisfied_line) is.read (inl (is.satisfies, refl))

pub violated_due : (text witness line : List ℕ) → IsViolated text witness line → IsCheckAnswer text witness (answer No line)
violated_due text witness line is = judgement_due text witness (answer No line) is.read (inr (is.violation, is.first, ap (answer No) is.line_is))

of_short : (limit len : ℕ) (A B : Type 0) → len ≤ limit → MatchBool (nat_lt limit len) A B → B
of_short limit len A B within p = let short : nat_lt limit len ≡ false = grind (arith, nat_tests) in subst (λ t. MatchBool t A B) short p

of_ok : {X E : Type 0} (r : Result X E) (x : X) (P : X → Type 0) (Q : E → Type 0) → r ≡ Ok x → MatchResult r P Q → P x
of_ok r x P Q e p = subst (λ s. MatchResult s P Q) e p

-- tables that are accepted have the answer to their shape
shape_answered : (Answers : ToShape) (text : List ℕ) (a : Answer) (shape : HasShape text) → IsFileReadOnce text → IsResolvedAnswer Answers text a → Answers shape.parts a
shape_answered Answers text a shape once p = by_text (of_short max_tables_file (length text) (a ≡ answer TooLong (too_long_line max_tables_file)) (IsTextAnswer text (IsShapeAnswer Answers) a) shape.within p)
  where
    not_both : (f : TextFault) (d : List Decl) → ◌≡◌ {A = Result (List Decl) TextFault} (Err f) (Ok d) → ⊥
    not_both f d e = cc

    same_decls : (d e : List Decl) → ◌≡◌ {A = Result (List Decl) TextFault} (Ok d) (Ok e) → d ≡ e
    same_decls d e h = cc

    by_text : IsTextAnswer text (IsShapeAnswer Answers) a → Answers shape.parts a
    by_text (inl (fault, is, q)) = absurd (not_both fault shape.decls (sym ((once shape.within).fault fault is) ∙ (once shape.within).decls shape.decls shape.text_is))
    by_text (inr (decls, is, q)) =
        let same : decls ≡ shape.decls = same_decls decls shape.decls (sym ((once shape.within).decls decls is) ∙ (once shape.within).decls shape.decls shape.text_is) in
        let own : IsShapeAnswer Answers shape.decls a = subst (λ (ds : List Decl). IsShapeAnswer Answers ds a) same q in
        let shaped = (shaped_where_meant shape.decls shape.parts).1 shape.shape_is in
        of_ok (shape_of shape.decls) shape.parts (λ s. Answers s a) (λ fault. a ≡ answer Tables (shape_fault_line fault)) shaped own

-- files that are accepted have the answer to their values
given_answered : (Answers : ToValues) (text witness : List ℕ) (a : Answer) (read : HasWitness text witness) → IsFileReadOnce text → IsReadAnswer Answers text witness a
    → Answers read.shape.parts read.given.rows (filling_of read.shape.parts.tables read.given) a
given_answered Answers text witness a read once p =
    let file : IsWitnessFileAnswer Answers read.shape.parts witness a = shape_answered (λ shape b. IsWitnessFileAnswer Answers shape witness b) text a read.shape once p in
    let short : IsWitnessAnswer Answers read.shape.parts witness a =
    of_short max_witness_file (length witness) (a ≡ answer TooLong (too_long_line max_witness_file)) (IsWitnessAnswer Answers read.shape.parts witness a) read.within file in
    let given = (read_where_given read.shape.parts.tables witness read.given).1 read.witness_is in
    of_ok (witness_of read.shape.parts.tables witness) read.given (λ (w : WitnessData). Answers read.shape.parts w.rows (filling_of read.shape.parts.tables w) a) (λ stop. a ≡ witness_refusal stop) given short

-- a lower whose files are accepted says Yes
pub lowered_due : (alpha gamma : ℕ) (text witness : List ℕ) (a : Answer) → HasWitness text witness → IsFileReadOnce text → IsLowerAnswer alpha gamma text witness a → a.status ≡ Yes
lowered_due alpha gamma text witness a read once p = ap (λ (x : Answer). x.status) (given_answered (IsLowered alpha gamma) text witness a read once p).is

-- a print that says Yes has read tables
pub printed : (text : List ℕ) (a : Answer) → IsPrintAnswer text a → a.status ≡ Yes → (decls : List Decl) × IsTablesText text decls × (a.line ≡ canonical decls)
printed text a p is_yes = by_length (nat_lt max_tables_file (length text)) p
  where
    too_long : Yes ≡ TooLong → ⊥
    too_long e = cc

    refused : Yes ≡ Tables → ⊥
    refused e = cc

    by_length : (t : Bool) → MatchBool t (a ≡ answer TooLong (too_long_line max_tables_file)) (IsTextAnswer text IsPrinted a) → (decls : List Decl) × IsTablesText text decls × (a.line ≡ canonical decls)
    by_length true q = absurd (too_long (sym is_yes ∙ ap (λ (x : Answer). x.status) q))
    by_length false (inl (fault, is, q)) = absurd (refused (sym is_yes ∙ ap (λ (x : Answer). x.status) q))
    by_length false (inr (decls, is, q)) = (decls, is, ap (λ (x : Answer). x.line) q)

pub print_due : (text : List ℕ) (has : HasDecls text) → IsPrintAnswer text (answer Yes (canonical has.decls))
print_due text has = let a = answer Yes (canonical has.decls) in within_limit text a (IsTextAnswer text IsPrinted a) has.within (inr (has.decls, has.text_is, refl))

-- a count that says Yes has read tables, one for each number of rows, whose columns aren't too large
pub counted : (rows text : List ℕ) (a : Answer) → IsCountAnswer rows text a → a.status ≡ Yes → (has : HasCounts text rows) × (a.line ≡ count_text has.shape.parts rows)
counted rows text a p is_yes =
    let s = resolved (IsCounted rows) text a p (yes_or_no a Yes is_yes tt) in
    let parts = s.shape.parts in
    by_tests s.shape (length rows == length parts.tables) (nat_lt max_size_log (size_log parts.tables rows)) refl refl s.answered
  where
    other_rows : Yes ≡ Words → ⊥
    other_rows e = cc

    too_large : Yes ≡ TooLarge → ⊥
    too_large e = cc

    by_tests : (shape : HasShape text) (each large : Bool) → (length rows == length shape.parts.tables) ≡ each → nat_lt max_size_log (size_log shape.parts.tables rows) ≡ large
        → a ≡ cond each (cond large (answer TooLarge (too_large_line (size_log shape.parts.tables rows))) (answer Yes (count_text shape.parts rows))) (answer Words words_line)
        → (has : HasCounts text rows) × (a.line ≡ count_text has.shape.parts rows)
    by_tests shape false large e f q = absurd (other_rows (sym is_yes ∙ ap (λ (x : Answer). x.status) q))
    by_tests shape true true e f q = absurd (too_large (sym is_yes ∙ ap (λ (x : Answer). x.status) q))
    by_tests shape true false e f q = (record { shape = shape; each = eqb-true _ _ e; sized = not_longer max_size_log (size_log shape.parts.tables rows) f }, ap (λ (x : Answer). x.line) q)

pub counted_due : (text rows : List ℕ) (has : HasCounts text rows) → IsCountAnswer rows text (answer Yes (count_text has.shape.parts rows))
counted_due text rows has = resolved_due (IsCounted rows) text (answer Yes (count_text has.shape.parts rows)) has.shape (sym (sized_answer has.shape.parts rows has.each has.sized))

-- the file of tables whose shape was found
pub has_shape : (text : List ℕ) (tables : ShapeParts) → IsShapedFile text (shaped.Shape tables) → HasShape text
has_shape text tables (within, once, (decls, is, shape)) = record { decls = decls; parts = tables; within = within; text_is = is; shape_is = (shaped_where_meant decls tables).0 shape }

on_read_fault : {X : Type 0} (r : Result X Stop) (P Q : Type 0) → (P → Q) → OnReadFault r P → OnReadFault r Q
on_read_fault (Ok x) P Q f p = p
on_read_fault (Err ended.ReadFault) P Q f p = f p
on_read_fault (Err ended.NoMemory) P Q f p = p

-- a read of the witness that failed after the shape was found
pub witness_read_failed : (old mid new : ShelfState) (tables witness : List ℕ) (shape : Shaped) (shapes : ShapeParts) (r : Result OwnAnswer Stop) → shape ≡ shaped.Shape shapes
    → (IsTrue old.told → IsShapedFile (bytes_of old tables) shape) → ReadsOnly old mid → SameFaults old mid → OnReadFault r (ReadFailed mid new witness) → OnReadFault r (WitnessReadsFailed old new tables witness)
witness_read_failed old mid new tables witness shape shapes r is found kept same failed =
    on_read_fault r (ReadFailed mid new witness) (WitnessReadsFailed old new tables witness)
    (λ f. inr (failed_since kept same f, λ told. has_shape (bytes_of old tables) shapes (subst (IsShapedFile (bytes_of old tables)) is (found told)))) failed

-- the answer to a witness that was read after the shape was found
pub witness_answered : (old mid : ShelfState) (tables witness : List ℕ) (question : Question) (shape : Shaped) (shapes : ShapeParts) (r : Result OwnAnswer Stop) → shape ≡ shaped.Shape shapes
    → (IsTrue old.told → IsShapedFile (bytes_of old tables) shape) → ReadsOnly old mid
    → (IsTrue mid.told → IfOk r (λ x. IsWitnessFileAnswer (Answering question) shapes (bytes_of mid witness) (answer_of x)))
    → IsTrue old.told → IfOk r (λ x. IsReadAnswer (Answering question) (bytes_of old tables) (bytes_of old witness) (answer_of x))
witness_answered old mid tables witness question shape shapes (Ok x) is found kept due told =
    let file : IsShapedFile (bytes_of old tables) (shaped.Shape shapes) = subst (IsShapedFile (bytes_of old tables)) is (found told) in
    let answered : IsWitnessFileAnswer (Answering question) shapes (bytes_of old witness) (answer_of x) =
    subst (λ (w : List ℕ). IsWitnessFileAnswer (Answering question) shapes w (answer_of x)) (bytes_kept kept told witness) (due (told_along mid.told old.told kept.told told)) in
    resolved_file (λ s b. IsWitnessFileAnswer (Answering question) s (bytes_of old witness) b) (bytes_of old tables) shapes (answer_of x) file answered
witness_answered old mid tables witness question shape shapes (Err s) is found kept due told = due (told_along mid.told old.told kept.told told)
