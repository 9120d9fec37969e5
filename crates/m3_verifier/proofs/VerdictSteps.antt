-- Steps of the verdict on a file.
use Rattle.std.proofs.Common.{◌≡◌, ◌∙◌, ℕ, zero, suc, ◌<◌, ◌≤◌, ltb, true, false, cond, List, [], ◌∷◌, length, take, drop, slice_index, get_or, None, Some, Result, Ok, Err, sym, ap, subst, arith, Fits, w8}
use Rattle.std.specs.List.{AllByRecursion}
use Rattle.std.proofs.lemmas.Bool.Decides.{nat_tests}
use Rattle.cube_laws.proofs.Weights.{length-tabulate}
use Rattle.sumcheck.specs.Machine.{Machine}
use Rattle.table_shape.specs.Limits.{max_rows, max_size_log}
use Rattle.table_shape.specs.Parts.{ShapeParts}
use Rattle.table_shape.specs.Size.{size_log}
use Rattle.table_shape.specs.SizeStop.{AnswersSize}
use Rattle.table_shape.specs.declared.size_stop.SizeStop.{SizeStop}
use Rattle.table_shape.specs.declared.size_stop.SizeStop.TheVariants as size
use Rattle.transcript.specs.Transcript.{after_absorb, start}
use Rattle.proof_plan.specs.declared.plan_entry.PlanEntry.{PlanEntry}
use Rattle.proof_plan.specs.Plan.{packed_log, plan}
use Rattle.proof_plan.specs.PlanParts.{PlanParts}
use Rattle.proof_plan.specs.Sizes.{head_length, proof_length}
use Rattle.proof_plan.proofs.PlanBounds.{places_few}
use Rattle.proof_format.specs.Head.{head_fault, head_rows, rows_in}
use Rattle.proof_format.specs.HeadStop.{OnFault}
use Rattle.proof_format.specs.declared.head_stop.HeadStop.{HeadStop}
use Rattle.proof_format.specs.declared.head_stop.HeadStop.TheVariants as head
use Rattle.walk_chain.specs.Chain.{Chained, chained}
use Rattle.m3_walk.specs.declared.stage.Stage.{Stage}
use Rattle.m3_walk.specs.Course.{walked}
use Rattle.m3_walk.specs.Kept.{Kept}
use Rattle.m3_walk.specs.Linked.{linking}
use Rattle.m3_verifier.specs.declared.halt.Halt.{Halt}
use Rattle.m3_verifier.specs.declared.halt.Halt.TheVariants as halt
use Rattle.m3_verifier.specs.declared.verified.Verified.{Verified}
use Rattle.m3_verifier.specs.declared.verify_stop.VerifyStop.{VerifyStop}
use Rattle.m3_verifier.specs.declared.verify_stop.VerifyStop.TheVariants.{Fault, NoMemory, ReadFault, TooLarge}
use Rattle.m3_verifier.specs.Begun.{AreDue, IsFirst, IsPlan, StopsForRows}
use Rattle.m3_verifier.specs.Progress.{Progress}
use Rattle.m3_verifier.specs.Reading.{Ending, reading}
use Rattle.m3_verifier.specs.Stops.{StopsFor}
use Rattle.m3_verifier.specs.Verdict.{Answers, begun, first_state, said_at_end, said_of, said_of_end, said_of_halt, stop_of_head, stop_of_size, unless_fault, verdict, verdict_on_entries, verdict_on_rows}

-- ---- an answer that is the verdict
pub itself : (due r : Result Verified VerifyStop) → due ≡ r → Answers due r
itself due (Ok v) e = e
itself due (Err (Fault f)) e = e
itself due (Err (TooLarge n)) e = e
itself due (Err ReadFault) e = tt
itself due (Err NoMemory) e = tt

-- ---- the entries
pub end_said : {S : Type 0} (es : List PlanEntry) (have need : ℕ) (e : Ending S) (p : Progress S) (r : Result Verified VerifyStop) → e.stopped ≡ None → e.last ≡ p → r ≡ said_at_end es need p.bytes
    → Answers (said_of es have need e) r
end_said es have need e p r none last is =
    itself (said_of es have need e) r (ap (said_of_end es have need e.last.bytes) none ∙ ap (λ (p : Progress _). said_at_end es need p.bytes) last ∙ sym is)

pub halt_said : {S : Type 0} (es : List PlanEntry) (have need : ℕ) (e : Ending S) (i : ℕ) (h : Halt) (r : Result Verified VerifyStop) → StopsFor i h e.stopped → r ≡ said_of_halt i have need h
    → Answers (said_of es have need e) r
halt_said es have need e i halt.Short r s is = itself (said_of es have need e) r (ap (said_of_end es have need e.last.bytes) s ∙ sym is)
halt_said es have need e i (halt.Refused f) r s is = itself (said_of es have need e) r (ap (said_of_end es have need e.last.bytes) s ∙ sym is)
halt_said es have need e i (halt.Query f) r s is = itself (said_of es have need e) r (ap (said_of_end es have need e.last.bytes) s ∙ sym is)
halt_said es have need e i halt.NoMemory r s is = subst (Answers (said_of es have need e)) (sym is) tt

-- ---- the size
pub too_large : (shape : ShapeParts) (rows : List ℕ) (stop : SizeStop) → (X : Type 0) → AnswersSize {X = X} (Err stop) (size_log shape.tables rows) → StopsForRows shape rows (stop_of_size stop)
unfolding verdict_on_rows StopsForRows
too_large shape rows (size.TooLarge n) X h file =
    let l = h.1 in
    let t : ltb max_size_log (size_log shape.tables rows) ≡ true = grind (arith, nat_tests) in
    ap (λ b. cond b (Err (TooLarge (size_log shape.tables rows))) (verdict_on_entries shape rows file)) t ∙ ap (λ n. Err (TooLarge n)) (sym h.0)
too_large shape rows size.NoMemory X h file = tt

pub stopped_rows : (shape : ShapeParts) (rows file : List ℕ) (stop : VerifyStop) → StopsForRows shape rows stop → Answers (verdict_on_rows shape rows file) (Err stop)
unfolding StopsForRows
stopped_rows shape rows file stop h = h file

-- ---- the entries
pub due_opened : {S : Type 0} (M : Machine S) (es : List PlanEntry) (s : S) → AreDue M es s → walked es ≡ M.entries s
unfolding AreDue
due_opened M es s h = h

pub plan_made : (shape : ShapeParts) (rows : List ℕ) (p : PlanParts) → p ≡ record { entries = plan shape rows; tables = length shape.tables; packed_log = packed_log shape rows } → size_log shape.tables rows ≤ max_size_log → IsPlan shape rows p
unfolding IsPlan
plan_made shape rows p e l = (e, l)

pub walk_made : (shape : ShapeParts) (rows : List ℕ) (s : Chained Stage Kept) → s ≡ first_state shape rows → walked (plan shape rows) ≡ (chained linking).entries s → IsFirst shape rows s
unfolding IsFirst
walk_made shape rows s e d = (e, d)

pub few_rounds : (shape : ShapeParts) (rows : List ℕ) (p : PlanParts) → IsPlan shape rows p → p.packed_log ≤ 22
unfolding IsPlan
few_rounds shape rows p h =
    let e = ap (λ (p : PlanParts). p.packed_log) h.0 in
    let l = places_few shape.tables rows h.1 in
    omega arith

pub due_begun : (shape : ShapeParts) (rows file : List ℕ) (p : PlanParts) (s : Chained Stage Kept) (tables rounds : ℕ) (r : Progress (Chained Stage Kept)) → IsPlan shape rows p → IsFirst shape rows s → r ≡ begun s tables rounds file
    → AreDue (chained linking) p.entries r.state
unfolding IsPlan IsFirst AreDue begun
due_begun shape rows file p s tables rounds r made first is =
    ap (λ (p : PlanParts). walked p.entries) made.0 ∙ first.1 ∙ sym (ap (λ (r : Progress (Chained Stage Kept)). (chained linking).entries r.state) is)

pub on_rows : (shape : ShapeParts) (rows file : List ℕ) (p : PlanParts) (s : Chained Stage Kept) (rounds have : ℕ) (r : Progress (Chained Stage Kept)) → IsPlan shape rows p → IsFirst shape rows s
    → rounds ≡ p.packed_log → have ≡ length file → r ≡ begun s (length shape.tables) rounds file
    → said_of p.entries have (proof_length p.tables p.packed_log p.entries) (reading (chained linking) p.entries 0 r) ≡ verdict_on_rows shape rows file
unfolding verdict_on_rows verdict_on_entries IsPlan IsFirst
on_rows shape rows file p s rounds have r made first k n is =
    let l = made.1 in
    let f : ltb max_size_log (size_log shape.tables rows) ≡ false = grind (arith, nat_tests) in
    let whole : PlanParts = record { entries = plan shape rows; tables = length shape.tables; packed_log = packed_log shape rows } in
    let start : r ≡ begun (first_state shape rows) (length shape.tables) (packed_log shape rows) file = is ∙ (λ i. begun (first.0 i) (length shape.tables) ((k ∙ ap (λ (p : PlanParts). p.packed_log) made.0) i) file) in
    let said : PlanParts → ℕ → Progress (Chained Stage Kept) → Result Verified VerifyStop = λ p n r. said_of p.entries n (proof_length p.tables p.packed_log p.entries) (reading (chained linking) p.entries 0 r) in
    (λ i. said (made.0 i) (n i) (start i)) ∙ sym (ap (λ b. cond b (Err (TooLarge (size_log shape.tables rows))) (verdict_on_entries shape rows file)) f)

-- ---- the head
pub begun_is : {S : Type 0} (s : S) (tables rounds n : ℕ) (file front back transcript : List ℕ) (r : Progress S) → n ≡ head_length tables → front ≡ take n file → back ≡ drop n file → transcript ≡ after_absorb start 0 front
    → r ≡ record { state = s; transcript = transcript; bytes = back; roots = []; folds = []; constant = 0; rounds = rounds } → r ≡ begun s tables rounds file
unfolding begun
begun_is {S} s tables rounds n file front back transcript r e f b t is =
    let made : List ℕ → List ℕ → Progress S = λ t b. record { state = s; transcript = t; bytes = b; roots = []; folds = []; constant = 0; rounds = rounds } in
    is ∙ (λ i. made ((t ∙ ap (after_absorb start 0) (f ∙ ap (λ n. take n file) e)) i) ((b ∙ ap (λ n. drop n file) e) i))

pub head_stopped : (X : Type 0) (shape : ShapeParts) (file : List ℕ) (stop : HeadStop) → OnFault {X = X} (Err stop) (λ f. head_fault shape.digest (length shape.tables) file ≡ Some f) → Answers (verdict shape file) (Err (stop_of_head stop))
unfolding verdict
head_stopped X shape file (head.Fault f) h = ap (λ o. unless_fault o (verdict_on_rows shape (head_rows (length shape.tables) file) file)) h
head_stopped X shape file head.NoMemory h = tt

pub on_head : (shape : ShapeParts) (file rows : List ℕ) → head_fault shape.digest (length shape.tables) file ≡ None → rows ≡ head_rows (length shape.tables) file → verdict_on_rows shape rows file ≡ verdict shape file
unfolding verdict
on_head shape file rows none is =
    ap (λ rows. verdict_on_rows shape rows file) is ∙ sym (ap (λ o. unless_fault o (verdict_on_rows shape (head_rows (length shape.tables) file) file)) none)

-- ---- the rows
pub rows_counted : (n : ℕ) (file rows : List ℕ) → rows ≡ head_rows n file → length rows ≡ n
rows_counted n file rows is = ap length is ∙ length-tabulate n (rows_in file)

few_at : (k : ℕ) (xs : List ℕ) → AllByRecursion (λ m. m ≤ k) xs → (t : ℕ) → slice_index xs t ≤ k
few_at k [] h t = omega arith
few_at k (x ∷ xs) h zero = h.0
few_at k (x ∷ xs) h (suc t) = few_at k xs h.1 t

pub rows_few : (n : ℕ) (file rows : List ℕ) → rows ≡ head_rows n file → AllByRecursion (λ m. m ≤ max_rows) (head_rows n file) → (t : ℕ) → slice_index rows t ≤ max_rows
rows_few n file rows is h t = subst (λ rows. slice_index rows t ≤ max_rows) (sym is) (few_at max_rows (head_rows n file) h t)

pub all_bytes : (xs : List ℕ) → ((i : ℕ) → Fits w8 (get_or xs i 0)) → AllByRecursion (λ b. b < 256) xs
all_bytes [] h = tt
all_bytes (x ∷ xs) h = (let f = h 0 in omega arith, all_bytes xs (λ i. h (suc i)))
