-- Steps towards the answer to files.
use Rattle.std.proofs.Common.{◌≡◌, ◌≢◌, ◌≤◌, ℕ, List, length, Bool, true, false, cond, Result, Ok, Err, refl, sym, subst, inl, inr, arith}
use Rattle.std.specs.Prelude.{◌==◌, nat_lt, MatchResult}
use Rattle.std.specs.Bool.{MatchBool}
use Rattle.std.proofs.lemmas.Bool.Decides.{nat_tests}
use Rattle.table_text.specs.declared.decl.Decl.{Decl}
use Rattle.table_text.specs.declared.fault.TextFault.{TextFault}
use Rattle.table_text.specs.declared.fault.TextStop.{TextStop}
use Rattle.table_text.specs.declared.fault.TextStop.TheVariants.{Fault, NoMemory}
use Rattle.table_text.specs.Faults.{IsTablesText, IsFirstFault}
use Rattle.m3_tool.specs.Limits.{max_tables_file, max_witness_file}
use Rattle.m3_tool.specs.declared.status.Status.TheVariants.{Yes, Words, Tables, TooLarge, TooLong}
use Rattle.witness_reader.specs.declared.fault.WitnessStop.{WitnessStop}
use Rattle.table_shape.specs.declared.fault.ShapeFault.{ShapeFault}
use Rattle.m3_tool.specs.declared.tables.Parsed.{Parsed}
use Rattle.m3_tool.specs.declared.tables.Parsed.TheVariants as parsed
use Rattle.m3_tool.specs.declared.shapes.Shaped.{Shaped}
use Rattle.m3_tool.specs.declared.shapes.Shaped.TheVariants as shaped
use Rattle.m3_tool.specs.declared.witness.Question.{Question}
use Rattle.witness_reader.specs.Witness.{WitnessData, IsOf, filling_of}
use Rattle.m3_tool.specs.Checking.{Answering, of_witness, of_rows, OfShape, IsParsed, IsParsedFile, IsShapedTables, IsShapedFile}
use Rattle.table_shape.specs.Limits.{max_size_log}
use Rattle.table_shape.specs.Parts.{ShapeParts}
use Rattle.table_shape.specs.Size.{size_log}
use Rattle.table_shape.specs.Filling.{Filling}
use Rattle.m3_tool.specs.Lines.{count_text, words_line, too_large_line, too_long_line, shape_fault_line}
use Rattle.m3_tool.specs.Run.{Answer, answer, ToShape, ToValues, IsWitnessAnswer, IsWitnessFileAnswer, IsShapeAnswer, IsTextRefusal, IsTextAnswer, OfTablesFile, IsTablesAnswer, IsResolvedAnswer, IsReadAnswer, IsPrinted, IsPrintAnswer, IsCountAnswer, count_answer, witness_refusal}
use Rattle.m3_tool.specs.Answer.{IsReadOnce, answer_of}
use Rattle.m3_tool.specs.declared.answer.Answer.{Answer as OwnAnswer}

-- a reader that answers every text's declarations and every fault reads each text once
pub read_once : (text : List ℕ) (r : Result (List Decl) TextStop) → r ≢ Err NoMemory
    → ((decls : List Decl) → IsTablesText text decls → r ≢ Err NoMemory → r ≡ Ok decls)
    → ((fault : TextFault) → IsFirstFault text fault → r ≢ Err NoMemory → r ≡ Err (Fault fault)) → IsReadOnce text
read_once text (Ok decls) memory reads refuses = record {
  reading = Ok decls;
  decls = λ found is. let e = reads found is memory in same_ok decls found e;
  fault = λ fault is. let e = refuses fault is memory in absurd (apart decls fault e);
}
  where
    same_ok : (a b : List Decl) → ◌≡◌ {A = Result (List Decl) TextStop} (Ok a) (Ok b) → ◌≡◌ {A = Result (List Decl) TextFault} (Ok a) (Ok b)
    same_ok a b e = cc

    apart : (a : List Decl) (f : TextFault) → ◌≡◌ {A = Result (List Decl) TextStop} (Ok a) (Err (Fault f)) → ⊥
    apart a f e = cc
read_once text (Err (Fault fault)) memory reads refuses = record {
  reading = Err fault;
  decls = λ found is. let e = reads found is memory in absurd (apart found fault e);
  fault = λ other is. let e = refuses other is memory in same_err fault other e;
}
  where
    same_err : (a b : TextFault) → ◌≡◌ {A = Result (List Decl) TextStop} (Err (Fault a)) (Err (Fault b)) → ◌≡◌ {A = Result (List Decl) TextFault} (Err a) (Err b)
    same_err a b e = cc

    apart : (a : List Decl) (f : TextFault) → ◌≡◌ {A = Result (List Decl) TextStop} (Err (Fault f)) (Ok a) → ⊥
    apart a f e = cc
read_once text (Err NoMemory) memory reads refuses = absurd (memory refl)

-- the values of a witness, answered
pub answered_witness : (Answers : ToValues) (shape stored : ShapeParts) (file rows : List ℕ) (filling : Filling) (a : Answer) → stored ≡ shape → IsOf shape.tables file rows filling → Answers stored rows filling a → IsWitnessAnswer Answers shape file a
answered_witness Answers shape stored file rows filling a same (w, read, rows_are, filling_is) answered =
    let at : Answers shape w.rows (filling_of shape.tables w) a =
    subst (λ (s : ShapeParts). Answers s w.rows (filling_of shape.tables w) a) same
    (subst (λ (f : Filling). Answers stored w.rows f a) filling_is (subst (λ (r : List ℕ). Answers stored r filling a) rows_are answered)) in
    subst (λ (r : Result WitnessData WitnessStop). MatchResult r (λ (w : WitnessData). Answers shape w.rows (filling_of shape.tables w) a) (λ stop. a ≡ witness_refusal stop)) (sym read) at

-- a file within its limit is judged by what stands in it
pub within_limit : (text : List ℕ) (a : Answer) (P : Type 0) → length text ≤ max_tables_file → P → OfTablesFile text a P
within_limit text a P within is =
    let short : nat_lt max_tables_file (length text) ≡ false = grind (arith, nat_tests) in
    subst (λ b. MatchBool b (a ≡ answer TooLong (too_long_line max_tables_file)) P) (sym short) is

-- what is said of a file's text, said otherwise
of_tables_file : (t : Bool) (a : Answer) (P Q : Type 0) → (P → Q) → MatchBool t (a ≡ answer TooLong (too_long_line max_tables_file)) P → MatchBool t (a ≡ answer TooLong (too_long_line max_tables_file)) Q
of_tables_file true a P Q f p = p
of_tables_file false a P Q f p = f p

-- a file whose text is refused has that answer, whatever its declarations would have
pub refused_file : (text : List ℕ) (Answers : List Decl → Answer → Type 0) (a : Answer) → OfTablesFile text a (IsTextRefusal text a) → IsTablesAnswer text Answers a
refused_file text Answers a p = of_tables_file (nat_lt max_tables_file (length text)) a (IsTextRefusal text a) (IsTextAnswer text Answers a) (λ refusal. inl refusal) p

-- a file within its limit whose text was judged
pub parsed_file : (text file : List ℕ) (p : Parsed) → text ≡ file → length text ≤ max_tables_file → IsParsed text p → IsReadOnce text → IsParsedFile file p
parsed_file text file (parsed.Tables decls) same within is once = subst (λ (t : List ℕ). IsParsedFile t (parsed.Tables decls)) same (within, (λ _. once), is)
parsed_file text file (parsed.Refused refusal) same within is once =
    subst (λ (t : List ℕ). IsParsedFile t (parsed.Refused refusal)) same ((λ _. once), within_limit text (answer_of refusal) (IsTextRefusal text (answer_of refusal)) within is)

-- a file of tables that were resolved
pub shaped_file : (text : List ℕ) (decls : List Decl) (s : Shaped) → IsParsedFile text (parsed.Tables decls) → IsShapedTables decls s → IsShapedFile text s
shaped_file text decls (shaped.Shape shape) (within, once, is) found = (within, once, (decls, is, found))
shaped_file text decls (shaped.Refused refusal) (within, once, is) (fault, found, refused) = (
  once,
  λ asked. within_limit text (answer_of refusal) (IsTextAnswer text (IsShapeAnswer (OfShape asked)) (answer_of refusal)) within
      (inr (decls, is, subst (λ (r : Result ShapeParts ShapeFault). MatchResult r (λ shape. OfShape asked shape (answer_of refusal)) (λ fault. answer_of refusal ≡ answer Tables (shape_fault_line fault))) (sym found) refused)),
)

-- a file whose shape was found has the answer to its shape
pub resolved_file : (Answers : ToShape) (text : List ℕ) (shape : ShapeParts) (a : Answer) → IsShapedFile text (shaped.Shape shape) → Answers shape a → IsResolvedAnswer Answers text a
resolved_file Answers text shape a (within, once, (decls, is, found)) answered = within_limit text a (IsTextAnswer text (IsShapeAnswer Answers) a) within
    (inr (decls, is, subst (λ (r : Result ShapeParts ShapeFault). MatchResult r (λ s. Answers s a) (λ fault. a ≡ answer Tables (shape_fault_line fault))) (sym found) answered))

-- tables that were refused have that answer, whatever their witness is
pub refused_witness : (text witness : List ℕ) (question : Question) (a : OwnAnswer) → IsShapedFile text (shaped.Refused a) → IsReadAnswer (Answering question) text witness (answer_of a)
refused_witness text witness question a (once, refused) = refused (of_witness question witness)

-- and whatever numbers of rows are given
pub refused_rows : (text rows : List ℕ) (a : OwnAnswer) → IsShapedFile text (shaped.Refused a) → IsCountAnswer rows text (answer_of a)
refused_rows text rows a (once, refused) = refused (of_rows rows)

pub within_witness : (Answers : ToValues) (shape : ShapeParts) (witness : List ℕ) (a : Answer) → length witness ≤ max_witness_file → IsWitnessAnswer Answers shape witness a → IsWitnessFileAnswer Answers shape witness a
within_witness Answers shape witness a within is =
    let short : nat_lt max_witness_file (length witness) ≡ false = grind (arith, nat_tests) in
    subst (λ b. MatchBool b (a ≡ answer TooLong (too_long_line max_witness_file)) (IsWitnessAnswer Answers shape witness a)) (sym short) is

-- a file of tables that are printed
pub printed_file : (text : List ℕ) (decls : List Decl) (a : Answer) → IsParsedFile text (parsed.Tables decls) → IsPrinted decls a → IsPrintAnswer text a
printed_file text decls a (within, once, is) printed = within_limit text a (IsTextAnswer text IsPrinted a) within (inr (decls, is, printed))

-- a number of rows for each table, on which the columns aren't too large
pub sized_answer : (shape : ShapeParts) (rows : List ℕ) → length rows ≡ length shape.tables → size_log shape.tables rows ≤ max_size_log → count_answer rows shape ≡ answer Yes (count_text shape rows)
sized_answer shape rows each sized =
    let as_many : (length rows == length shape.tables) ≡ true = equal (length rows) (length shape.tables) each in
    let small : nat_lt max_size_log (size_log shape.tables rows) ≡ false = within (size_log shape.tables rows) sized in
    (λ i. cond (as_many i) (cond (small i) (answer TooLarge (too_large_line (size_log shape.tables rows))) (answer Yes (count_text shape rows))) (answer Words words_line))
  where
    equal : (m n : ℕ) → m ≡ n → (m == n) ≡ true
    equal m n e = grind (arith, nat_tests)

    within : (n : ℕ) → n ≤ max_size_log → nat_lt max_size_log n ≡ false
    within n h = grind (arith, nat_tests)
