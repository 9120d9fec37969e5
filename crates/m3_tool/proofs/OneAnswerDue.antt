-- No two answers of different statuses are due.
use Rattle.std.proofs.Common.{◌≡◌, ◌≤◌, ℕ, List, length, Bool, true, false, Option, Some, None, Result, Ok, Err, refl, sym, ◌∙◌, ap, subst, inl, inr, arith}
use Rattle.std.specs.Prelude.{nat_lt, MatchResult}
use Rattle.std.specs.Bool.{MatchBool}
use Rattle.std.proofs.lemmas.Bool.Decides.{nat_tests}
use Rattle.byte_ends.specs.Shelf.{ShelfState, bytes_of}
use Rattle.table_text.specs.declared.decl.Decl.{Decl}
use Rattle.table_text.specs.declared.fault.TextFault.{TextFault}
use Rattle.m3_tool.specs.Limits.{max_tables_file, max_witness_file}
use Rattle.table_shape.specs.Parts.{ShapeParts}
use Rattle.table_shape.specs.declared.fault.ShapeFault.{ShapeFault}
use Rattle.witness_reader.specs.declared.fault.WitnessStop.{WitnessStop}
use Rattle.m3_tool.specs.declared.status.Status.{Status}
use Rattle.m3_tool.specs.declared.status.Status.TheVariants.{Yes, Words, TooLong}
use Rattle.table_shape.specs.Shape.{shape_of}
use Rattle.table_shape.specs.Filling.{Filling}
use Rattle.table_shape.specs.Satisfies.{Satisfies, Violation, nonzero, unequal, IsFirstViolation}
use Rattle.witness_reader.specs.Witness.{WitnessData, witness_of, filling_of}
use Rattle.m3_tool.specs.Command.{Command, check, print, lower, count, help, version}
use Rattle.m3_tool.specs.Lines.{too_long_line, words_line, help_text, version_line}
use Rattle.m3_tool.specs.Run.{Answer, answer, ToShape, ToValues, IsJudgement, IsLowered, IsWitnessAnswer, IsWitnessFileAnswer, IsCounted, IsShapeAnswer, IsTextAnswer, IsTablesAnswer, IsResolvedAnswer, IsReadAnswer, IsPrinted, IsPrintAnswer, IsCountAnswer, IsDue, witness_refusal}
use Rattle.m3_tool.specs.Answer.{IsReadOnce, IsFileReadOnce, IsCommandReadOnce}

-- values that satisfy tables violate none
apart : (shape : ShapeParts) (rows : List ℕ) (filling : Filling) (v : Violation) → Satisfies shape rows filling → IsFirstViolation shape rows filling v → ⊥
apart shape rows filling (nonzero v) satisfies first =
    first.not_zero (first.value ∙ satisfies.zero v.table first.table v.constraint first.constraint first.table_is first.constraint_is v.row v.index first.row first.index)
apart shape rows filling (unequal v) satisfies (zero, first) = first.unequal (first.pushed_is ∙ satisfies.balanced v.channel first.channel first.channel_is v.tuple ∙ sym first.pulled_is)

same_status : (s : Status) (l m : List ℕ) (a b : Answer) → a ≡ answer s l → b ≡ answer s m → b.status ≡ a.status
same_status s l m a b is also = ap (λ (x : Answer). x.status) also ∙ sym (ap (λ (x : Answer). x.status) is)

-- no two answers of different statuses to the same values
abbrev HaveOneStatus : ToValues → Type 0
HaveOneStatus Answers = (shape : ShapeParts) (rows : List ℕ) (filling : Filling) (a b : Answer) → Answers shape rows filling a → Answers shape rows filling b → b.status ≡ a.status

judged_once : (shape : ShapeParts) (rows : List ℕ) (filling : Filling) (a b : Answer) → IsJudgement shape rows filling a → IsJudgement shape rows filling b → b.status ≡ a.status
judged_once shape rows filling a b (inl p) (inl q) = same_status _ _ _ a b p.1 q.1
judged_once shape rows filling a b (inl p) (inr (v, first, q)) = absurd (apart shape rows filling v p.0 first)
judged_once shape rows filling a b (inr (v, first, p)) (inl q) = absurd (apart shape rows filling v q.0 first)
judged_once shape rows filling a b (inr (v, first, p)) (inr (w, second, q)) = same_status _ _ _ a b p q

lowered_once : (alpha gamma : ℕ) → HaveOneStatus (IsLowered alpha gamma)
lowered_once alpha gamma shape rows filling a b p q = same_status _ _ _ a b p.is q.is

witness_once : (Answers : ToValues) → HaveOneStatus Answers → (shape : ShapeParts) (r : Result WitnessData WitnessStop) (a b : Answer)
    → MatchResult r (λ (w : WitnessData). Answers shape w.rows (filling_of shape.tables w) a) (λ stop. a ≡ witness_refusal stop)
    → MatchResult r (λ (w : WitnessData). Answers shape w.rows (filling_of shape.tables w) b) (λ stop. b ≡ witness_refusal stop) → b.status ≡ a.status
witness_once Answers one shape (Ok w) a b p q = one shape w.rows (filling_of shape.tables w) a b p q
witness_once Answers one shape (Err stop) a b p q = ap (λ (x : Answer). x.status) (q ∙ sym p)

file_once : (t : Bool) (limit : ℕ) (P : Answer → Type 0) (a b : Answer) → (P a → P b → b.status ≡ a.status)
    → MatchBool t (a ≡ answer TooLong (too_long_line limit)) (P a) → MatchBool t (b ≡ answer TooLong (too_long_line limit)) (P b) → b.status ≡ a.status
file_once true limit P a b rest p q = ap (λ (x : Answer). x.status) (q ∙ sym p)
file_once false limit P a b rest p q = rest p q

witness_file_once : (Answers : ToValues) → HaveOneStatus Answers → (shape : ShapeParts) (witness : List ℕ) (a b : Answer) → IsWitnessFileAnswer Answers shape witness a → IsWitnessFileAnswer Answers shape witness b → b.status ≡ a.status
witness_file_once Answers one shape witness a b p q =
    file_once (nat_lt max_witness_file (length witness)) max_witness_file (IsWitnessAnswer Answers shape witness) a b (λ x y. witness_once Answers one shape (witness_of shape.tables witness) a b x y) p q

-- no two answers of different statuses to the same shape
abbrev HaveOneStatusByShape : ToShape → Type 0
HaveOneStatusByShape Answers = (shape : ShapeParts) (a b : Answer) → Answers shape a → Answers shape b → b.status ≡ a.status

shape_once : (Answers : ToShape) → HaveOneStatusByShape Answers → (r : Result ShapeParts ShapeFault) (refusal : ShapeFault → Answer) (a b : Answer)
    → MatchResult r (λ shape. Answers shape a) (λ fault. a ≡ refusal fault) → MatchResult r (λ shape. Answers shape b) (λ fault. b ≡ refusal fault) → b.status ≡ a.status
shape_once Answers one (Ok shape) refusal a b p q = one shape a b p q
shape_once Answers one (Err fault) refusal a b p q = ap (λ (x : Answer). x.status) (q ∙ sym p)

text_once : (text : List ℕ) (Answers : List Decl → Answer → Type 0) (a b : Answer) → ((decls : List Decl) → Answers decls a → Answers decls b → b.status ≡ a.status)
    → IsReadOnce text → IsTextAnswer text Answers a → IsTextAnswer text Answers b → b.status ≡ a.status
text_once text Answers a b each once (inl (f, is, p)) (inl (g, also, q)) = same_status _ _ _ a b p q
text_once text Answers a b each once (inl (f, is, p)) (inr (d, also, q)) = absurd (two f d (sym (once.fault f is) ∙ once.decls d also))
  where
    two : (f : TextFault) (d : List Decl) → ◌≡◌ {A = Result (List Decl) TextFault} (Err f) (Ok d) → ⊥
    two f d e = cc
text_once text Answers a b each once (inr (d, is, p)) (inl (f, also, q)) = absurd (two f d (sym (once.fault f also) ∙ once.decls d is))
  where
    two : (f : TextFault) (d : List Decl) → ◌≡◌ {A = Result (List Decl) TextFault} (Err f) (Ok d) → ⊥
    two f d e = cc
text_once text Answers a b each once (inr (d, is, p)) (inr (e, also, q)) =
    let same : e ≡ d = one e d (sym (once.decls e also) ∙ once.decls d is) in
    each d p (subst (λ (ds : List Decl). Answers ds b) same q)
  where
    one : (e d : List Decl) → ◌≡◌ {A = Result (List Decl) TextFault} (Ok e) (Ok d) → e ≡ d
    one e d h = cc

-- one status is due to a file of tables, where one is due to its declarations
tables_once : (text : List ℕ) (Answers : List Decl → Answer → Type 0) (a b : Answer) → ((decls : List Decl) → Answers decls a → Answers decls b → b.status ≡ a.status)
    → IsFileReadOnce text → IsTablesAnswer text Answers a → IsTablesAnswer text Answers b → b.status ≡ a.status
tables_once text Answers a b each once p q =
    elim (nat_lt max_tables_file (length text)) as (λ t. nat_lt max_tables_file (length text) ≡ t → MatchBool t (a ≡ answer TooLong (too_long_line max_tables_file)) (IsTextAnswer text Answers a) → MatchBool t (b ≡ answer TooLong (too_long_line max_tables_file)) (IsTextAnswer text Answers b) → b.status ≡ a.status) [
      | true ↦ λ e x y. ap (λ (s : Answer). s.status) (y ∙ sym x)
      | false ↦ λ e x y. let within : length text ≤ max_tables_file = grind (arith, nat_tests) in text_once text Answers a b each (once within) x y
    ] refl p q

-- one status is due to tables that are resolved
resolved_once : (Answers : ToShape) → HaveOneStatusByShape Answers → (text : List ℕ) (a b : Answer) → IsFileReadOnce text → IsResolvedAnswer Answers text a → IsResolvedAnswer Answers text b → b.status ≡ a.status
resolved_once Answers one text a b once p q = tables_once text (IsShapeAnswer Answers) a b (λ decls x y. shape_once Answers one (shape_of decls) _ a b x y) once p q

-- one status is due to tables and a witness
read_once : (Answers : ToValues) → HaveOneStatus Answers → (text witness : List ℕ) (a b : Answer) → IsFileReadOnce text → IsReadAnswer Answers text witness a → IsReadAnswer Answers text witness b → b.status ≡ a.status
read_once Answers one text witness a b once p q =
    resolved_once (λ shape x. IsWitnessFileAnswer Answers shape witness x) (λ shape x y. witness_file_once Answers one shape witness x y) text a b once p q

-- one status is due to a print
print_once : (text : List ℕ) (a b : Answer) → IsFileReadOnce text → IsPrintAnswer text a → IsPrintAnswer text b → b.status ≡ a.status
print_once text a b once p q = tables_once text IsPrinted a b (λ decls x y. same_status _ _ _ a b x y) once p q

-- one status is due to a count
count_once : (rows text : List ℕ) (a b : Answer) → IsFileReadOnce text → IsCountAnswer rows text a → IsCountAnswer rows text b → b.status ≡ a.status
count_once rows text a b once p q = resolved_once (IsCounted rows) (λ shape x y is also. ap (λ (z : Answer). z.status) (also ∙ sym is)) text a b once p q

-- one status is due to a command
pub due_once : (c : Option Command) (shelf : ShelfState) (a b : Answer) → IsCommandReadOnce c shelf → IsDue c shelf a → IsDue c shelf b → b.status ≡ a.status
due_once None shelf a b once p q = same_status Words words_line words_line a b p q
due_once (Some (check tables witness)) shelf a b once p q = read_once IsJudgement judged_once (bytes_of shelf tables) (bytes_of shelf witness) a b once p q
due_once (Some (print tables)) shelf a b once p q = print_once (bytes_of shelf tables) a b once p q
due_once (Some (lower tables witness alpha gamma)) shelf a b once p q = read_once (IsLowered alpha gamma) (lowered_once alpha gamma) (bytes_of shelf tables) (bytes_of shelf witness) a b once p q
due_once (Some (count tables rows)) shelf a b once p q = count_once rows (bytes_of shelf tables) a b once p q
due_once (Some help) shelf a b once p q = same_status Yes help_text help_text a b p q
due_once (Some version) shelf a b once p q = same_status Yes version_line version_line a b p q
