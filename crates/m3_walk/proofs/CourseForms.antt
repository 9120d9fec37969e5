-- The reduction of a claim on a virtual column, and the merge of claims on one column, in their course.
use Rattle.std.proofs.Common.{◌≡◌, ◌∙◌, ◌≤◌, ◌+◌, ◌-◌, ◌^◌, ℕ, zero, suc, List, [], ◌∷◌, ◌++◌, length, map, slice_get, Some, refl, sym, ap, arith}
use Rattle.std.proofs.lemmas.List.{length-append, length-map}
use Rattle.std.specs.Prelude.{option_and_then}
use Rattle.std.specs.List.{filter}
use Rattle.batch_laws.specs.Batch.{zeros}
use Rattle.cube_laws.specs.Extension.{bits_of}
use Rattle.cube_laws.proofs.Folding.{length-bits_of}
use Rattle.cube_laws.proofs.Weights.{length-tabulate}
use Rattle.cube_mle.specs.declared.shift.ShiftKind.{ShiftKind}
use Rattle.cube_mle.specs.declared.shift.ShiftKind.TheVariants.{Shl, Shr, Rol}
use Rattle.poly_forms.specs.declared.check_kind.CheckKind.{CheckKind}
use Rattle.poly_forms.specs.declared.check_kind.CheckKind.TheVariants as check
use Rattle.poly_forms.specs.declared.draw_kind.DrawKind.{DrawKind}
use Rattle.poly_forms.specs.declared.draw_kind.DrawKind.TheVariants as draw
use Rattle.sumcheck.specs.declared.entry.Entry.TheVariants as due
use Rattle.sumcheck.specs.Rounds.{rounds}
use Rattle.table_shape.specs.declared.shape.ColumnKind.{ColumnKind}
use Rattle.table_shape.specs.declared.shape.ColumnKind.TheVariants.{Committed, Virtual}
use Rattle.table_shape.specs.declared.shape.ColumnShape.{ColumnShape}
use Rattle.table_shape.specs.declared.shape.ShapeForm.{ShapeForm}
use Rattle.table_shape.specs.declared.shape.ShapeForm.TheVariants as form
use Rattle.table_shape.specs.declared.shape.ShapeTerm.{ShapeTerm}
use Rattle.table_shape.specs.declared.shape.TableShape.{TableShape}
use Rattle.table_shape.specs.Forms.{level_at}
use Rattle.eval_reduce.specs.declared.packing.Packing.{Packing}
use Rattle.eval_reduce.specs.declared.projection.Projection.{Projection}
use Rattle.eval_reduce.specs.declared.shifting.Shifting.{Shifting}
use Rattle.eval_reduce.specs.Linear as linear
use Rattle.eval_reduce.specs.Linear.{Combination, combination}
use Rattle.eval_reduce.specs.Merge as merge
use Rattle.eval_reduce.specs.Pack as pack
use Rattle.eval_reduce.specs.Pack.{packing, packing_of}
use Rattle.eval_reduce.specs.Project as project
use Rattle.eval_reduce.specs.Project.{projected_claim, projection}
use Rattle.eval_reduce.specs.Shift as shift
use Rattle.eval_reduce.specs.Shift.{shifting, stated_sum}
use Rattle.eval_reduce.specs.Virtual.{column_of, vars_on}
use Rattle.proof_plan.specs.Plan as plans
use Rattle.proof_plan.specs.Plan.{form_entries, form_sources}
use Rattle.m3_walk.specs.declared.stage.Stage.{Stage}
use Rattle.m3_walk.specs.declared.stage.Stage.TheVariants as stage
use Rattle.m3_walk.specs.Course.{form_stages, walked, when}
use Rattle.m3_walk.specs.Linking.{AllOfVars, IsOne, Place, blank_claim, but_first_place, is_place, on_claim, place_of, places_on, sizes_left, term_places}
use Rattle.m3_walk.specs.Stages.{staged}
use Rattle.claim_lists.specs.OnColumn.{on_column}
use Rattle.m3_walk.proofs.CourseChannels.{has_room, kept_at, walked_append, walked_rounds}
use Rattle.m3_walk.proofs.CoursePlaces.{blank_first, blank_off, blank_on, blank_others, count_on, elsewhere, place}
use Rattle.m3_walk.proofs.CourseSteps.{Goes, one_goes}

-- ---- the reduction of a claim on a virtual column
abbrev shift_stage : (t c n s : ℕ) → ShiftKind → (block offset : ℕ) → Stage
shift_stage t c n s kind block offset = stage.Shift (shift.waiting (record { table = t; column = c; vars = n; source = s; kind = kind; block = block; offset = offset }))

abbrev pub form_stage : List ColumnShape → (t c n : ℕ) → ShapeForm → Stage
form_stage columns t c n (form.Shl s block offset) = shift_stage t c n s Shl block offset
form_stage columns t c n (form.Shr s block offset) = shift_stage t c n s Shr block offset
form_stage columns t c n (form.Rol s block offset) = shift_stage t c n s Rol block offset
form_stage columns t c n (form.Pack s log) = stage.Pack (pack.waiting (record { table = t; column = c; vars = n; source = s; level = level_at columns s; log = log }))
form_stage columns t c n (form.Project s log index) = stage.Project (project.waiting (record { table = t; column = c; vars = n; source = s; log = log; index = index }))
form_stage columns t c n (form.Linear constant terms) = stage.Linear (linear.waiting (record { table = t; column = c; vars = n; constant = constant; terms = terms }))

abbrev pub kind_stages : List ColumnShape → (t c n : ℕ) → ColumnKind → List Stage
kind_stages columns t c n Committed = []
kind_stages columns t c n (Virtual f) = form_stage columns t c n f ∷ []

kinds : (columns : List ColumnShape) (t c n : ℕ) (k : ColumnKind)
    → when (λ f. stage.Linear (linear.waiting f)) (combination t c n k) ++ when (λ p. stage.Project (project.waiting p)) (projection t c n k) ++ when (λ f. stage.Pack (pack.waiting f)) (packing columns t c n k) ++ when (λ s. stage.Shift (shift.waiting s)) (shifting t c n k)
    ≡ kind_stages columns t c n k
kinds columns t c n Committed = refl
kinds columns t c n (Virtual (form.Shl s block offset)) = refl
kinds columns t c n (Virtual (form.Shr s block offset)) = refl
kinds columns t c n (Virtual (form.Rol s block offset)) = refl
kinds columns t c n (Virtual (form.Pack s log)) = refl
kinds columns t c n (Virtual (form.Project s log index)) = refl
kinds columns t c n (Virtual (form.Linear constant terms)) = refl

pub column_there : (all : List TableShape) (t c : ℕ) (table : TableShape) (column : ColumnShape) → slice_get all t ≡ Some table → slice_get table.columns c ≡ Some column → column_of all t c ≡ Some column
column_there all t c table column at get = ap (option_and_then (λ (table : TableShape). slice_get table.columns c)) at ∙ get

pub form_stages_are : (all : List TableShape) (rows t c : ℕ) (table : TableShape) (column : ColumnShape) → slice_get all t ≡ Some table → slice_get table.columns c ≡ Some column
    → form_stages all rows t c ≡ kind_stages table.columns t c (vars_on rows column) column.kind
form_stages_are all rows t c table column at get =
    let e = column_there all t c table column at get in
    let packed : packing_of all rows t c ≡ packing table.columns t c (vars_on rows column) column.kind =
    ap (option_and_then (λ (table : TableShape). option_and_then (λ (column : ColumnShape). packing table.columns t c (vars_on rows column) column.kind) (slice_get table.columns c))) at
    ∙ ap (option_and_then (λ (column : ColumnShape). packing table.columns t c (vars_on rows column) column.kind)) get in
    (λ i. when (λ f. stage.Linear (linear.waiting f)) (option_and_then (λ (column : ColumnShape). combination t c (vars_on rows column) column.kind) (e i))
    ++ when (λ p. stage.Project (project.waiting p)) (option_and_then (λ (column : ColumnShape). projection t c (vars_on rows column) column.kind) (e i))
    ++ when (λ f. stage.Pack (pack.waiting f)) (packed i)
    ++ when (λ s. stage.Shift (shift.waiting s)) (option_and_then (λ (column : ColumnShape). shifting t c (vars_on rows column) column.kind) (e i)))
    ∙ kinds table.columns t c (vars_on rows column) column.kind

-- ---- what it leaves
-- of how many variables the sources of a column of n variables are
abbrev pub form_vars : ShapeForm → ℕ → ℕ
form_vars (form.Shl s block offset) n = n
form_vars (form.Shr s block offset) n = n
form_vars (form.Rol s block offset) n = n
form_vars (form.Pack s log) n = log + n
form_vars (form.Project s log index) n = log + n
form_vars (form.Linear constant terms) n = n

abbrev pub BlockFits : ShapeForm → ℕ → Type 0
BlockFits (form.Shl s block offset) n = block ≤ n
BlockFits (form.Shr s block offset) n = block ≤ n
BlockFits (form.Rol s block offset) n = block ≤ n
BlockFits (form.Pack s log) n = Unit {0}
BlockFits (form.Project s log index) n = Unit {0}
BlockFits (form.Linear constant terms) n = Unit {0}

pub walked_sum : (kind : DrawKind) (d n : ℕ) (last : CheckKind) (m : ℕ) → walked (plans.sum_entries kind d n last m) ≡ rounds kind d n ++ due.Message last m ∷ []
walked_sum kind d n last m = walked_append (plans.rounds kind d n) _ ∙ (λ i. walked_rounds kind d n i ++ due.Message last m ∷ [])

walked_draws : (n : ℕ) → walked (plans.coordinates draw.PackCoordinate n) ≡ pack.pack_draws n
walked_draws zero = refl
walked_draws (suc n) = ap (λ l. due.Draw draw.PackCoordinate 1 ∷ l) (walked_draws n)

terms_are : (t n : ℕ) (ts : List ShapeTerm) → term_places t n ts ≡ places_on t n (map (λ (t : ShapeTerm). t.column) ts)
terms_are t n [] = refl
terms_are t n (s ∷ ts) = ap (λ l. place t s.column n ∷ l) (terms_are t n ts)

long : (n : ℕ) → length (zeros n) ≡ n
long n = length-tabulate n (λ p. 0)

shift_goes : (room t c n s : ℕ) (kind : ShiftKind) (block offset : ℕ) (ps : List Place) → length ps ≤ room → block ≤ n → IsOne t c n ps
    → Goes (kept_at room [] ps) (shift_stage t c n s kind block offset ∷ []) (walked (plans.sum_entries draw.ShiftRound 2 block check.ShiftFinal 1)) (kept_at room [] (but_first_place t c ps ++ place t s n ∷ []))
shift_goes room t c n s kind block offset ps low fits one =
    let at : Shifting = record { table = t; column = c; vars = n; source = s; kind = kind; block = block; offset = offset } in
    let size = long n in
    let vars : 0 + block + (length (zeros n) - block) ≡ n = omega arith in
    one_goes (stage.Shift (shift.waiting at)) _ _ _ (has_room room [] ps (omega arith) low) one
    (ap (λ o. staged.entries (on_claim o (λ d. stage.Shift (stated_sum at d)))) (blank_first t c n ps one) ∙ sym (walked_sum draw.ShiftRound 2 block check.ShiftFinal 1))
    ((λ i. sizes_left (on_claim (blank_first t c n ps one i) (λ d. stage.Shift (stated_sum at d))) (kept_at room [] (blank_others t c ps i))) ∙ ap (λ v. kept_at room [] (but_first_place t c ps ++ place t s v ∷ [])) vars)

pub form_goes : (room : ℕ) (columns : List ColumnShape) (t c n : ℕ) (f : ShapeForm) (ps : List Place) → length ps ≤ room → BlockFits f n → IsOne t c n ps
    → Goes (kept_at room [] ps) (form_stage columns t c n f ∷ []) (walked (form_entries f)) (kept_at room [] (but_first_place t c ps ++ places_on t (form_vars f n) (form_sources f)))
form_goes room columns t c n (form.Shl s block offset) ps low fits one = shift_goes room t c n s Shl block offset ps low fits one
form_goes room columns t c n (form.Shr s block offset) ps low fits one = shift_goes room t c n s Shr block offset ps low fits one
form_goes room columns t c n (form.Rol s block offset) ps low fits one = shift_goes room t c n s Rol block offset ps low fits one
form_goes room columns t c n (form.Pack s log) ps low fits one =
    let at : Packing = record { table = t; column = c; vars = n; source = s; level = level_at columns s; log = log } in
    one_goes (stage.Pack (pack.waiting at)) _ _ _ (has_room room [] ps (omega arith) low) one
    (ap (λ o. staged.entries (on_claim o (λ d. stage.Pack (pack.stated at d)))) (blank_first t c n ps one) ∙ ap (λ l. due.Message check.Pack (2 ^ log) ∷ l) (sym (walked_draws log)))
    ((λ i. sizes_left (on_claim (blank_first t c n ps one i) (λ d. stage.Pack (pack.stated at d))) (kept_at room [] (blank_others t c ps i))) ∙ ap (λ v. kept_at room [] (but_first_place t c ps ++ place t s (log + v) ∷ [])) (long n))
form_goes room columns t c n (form.Project s log index) ps low fits one =
    let at : Projection = record { table = t; column = c; vars = n; source = s; log = log; index = index } in
    let vars : length (bits_of log index ++ zeros n) ≡ log + n = length-append (bits_of log index) (zeros n) ∙ (λ i. length-bits_of log index i + long n i) in
    one_goes (stage.Project (project.waiting at)) _ _ _ (has_room room [] ps (omega arith) low) one
    (ap (λ o. staged.entries (on_claim o (λ d. stage.Claimed (projected_claim at d)))) (blank_first t c n ps one))
    ((λ i. sizes_left (on_claim (blank_first t c n ps one i) (λ d. stage.Claimed (projected_claim at d))) (kept_at room [] (blank_others t c ps i))) ∙ ap (λ v. kept_at room [] (but_first_place t c ps ++ place t s v ∷ [])) vars)
form_goes room columns t c n (form.Linear constant terms) ps low fits one =
    let at : Combination = record { table = t; column = c; vars = n; constant = constant; terms = terms } in
    one_goes (stage.Linear (linear.waiting at)) _ _ _ (has_room room [] ps (omega arith) low) one
    (ap (λ o. staged.entries (on_claim o (λ d. stage.Linear (linear.stated at d)))) (blank_first t c n ps one))
    ((λ i. sizes_left (on_claim (blank_first t c n ps one i) (λ d. stage.Linear (linear.stated at d))) (kept_at room [] (blank_others t c ps i)))
    ∙ ap (λ v. kept_at room [] (but_first_place t c ps ++ term_places t v terms)) (long n) ∙ ap (λ l. kept_at room [] (but_first_place t c ps ++ l)) (terms_are t n terms))

-- ---- a merge
pub merge_goes : (room t c n j : ℕ) (ps : List Place) → length ps ≤ room → count_on t c ps ≡ j → AllOfVars n (filter (is_place t c) ps) → 2 ≤ j
    → Goes (kept_at room [] ps) (stage.Merge (record { table = t; column = c; walk = merge.waiting n j }) ∷ []) (due.Draw draw.Merge (j - 1) ∷ walked (plans.sum_entries draw.MergeRound 2 n check.MergeFinal 1)) (kept_at room [] (elsewhere t c ps ++ place t c n ∷ []))
merge_goes room t c n j ps low count vars two =
    let length_is : length (on_column t c (map blank_claim ps)) ≡ j = sym (length-map (on_column t c (map blank_claim ps)) place_of) ∙ ap length (blank_on t c ps) ∙ count in
    one_goes (stage.Merge (record { table = t; column = c; walk = merge.waiting n j })) _ _ _ (has_room room [] ps (omega arith) low)
    ((omega arith), ((omega arith), vars))
    (λ i. due.Draw draw.Merge (length_is i - 1) ∷ sym (walked_sum draw.MergeRound 2 n check.MergeFinal 1) i)
    (λ i. kept_at room [] (blank_off t c ps i ++ place t c n ∷ []))
