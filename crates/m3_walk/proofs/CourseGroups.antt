-- The reductions of constraints, in their course.
use Rattle.std.proofs.Common.{◌≡◌, ◌∙◌, ◌≤◌, ◌+◌, ◌-◌, ◌==◌, ℕ, zero, suc, false, cond, List, [], ◌∷◌, ◌++◌, length, map, slice_index, slice_get, Option, Some, refl, sym, ap, subst, arith}
use Rattle.std.proofs.lemmas.List.{append_assoc, append-nil, length-append, length-map}
use Rattle.std.specs.Prelude.{option_and_then}
use Rattle.std.specs.List.{filter, flat_map}
use Rattle.list_laws.specs.CeilLog.{ceil_log}
use Rattle.cube_laws.specs.Sums.{tabulate}
use Rattle.poly_forms.specs.declared.check_kind.CheckKind.TheVariants as check
use Rattle.poly_forms.specs.declared.draw_kind.DrawKind.TheVariants as draw
use Rattle.sumcheck.specs.declared.entry.Entry.TheVariants as due
use Rattle.table_text.specs.Limits.{max_log_values}
use Rattle.table_shape.specs.declared.shape.ConstraintShape.{ConstraintShape}
use Rattle.table_shape.specs.declared.shape.TableShape.{TableShape}
use Rattle.table_shape.specs.Counts.{group}
use Rattle.table_shape.specs.Value.{greatest}
use Rattle.zerocheck.specs.Group.{Group, form_on, group_where, group_with, named}
use Rattle.zerocheck.specs.Zero as zeros
use Rattle.proof_plan.specs.declared.plan_entry.PlanEntry.{PlanEntry}
use Rattle.proof_plan.specs.declared.plan_entry.PlanEntry.TheVariants.{Draw}
use Rattle.proof_plan.specs.Plan as plans
use Rattle.proof_plan.specs.Plan.{constraint_entries, group_columns, group_entries}
use Rattle.m3_walk.specs.declared.stage.Stage.{Stage}
use Rattle.m3_walk.specs.declared.stage.Stage.TheVariants as stage
use Rattle.m3_walk.specs.Course.{constraint_stages, group_stages, walked, when}
use Rattle.m3_walk.specs.Linking.{Place, places_on}
use Rattle.m3_walk.proofs.CourseChannels.{has_room, kept_at, walked_append, walked_rounds}
use Rattle.m3_walk.proofs.CourseSteps.{Goes, blank_places, none_go, not_none, one_goes, same_due, same_left, then_go}

-- ---- entries
walked_coordinates : (g : Group) (n : ℕ) (es : List PlanEntry) → walked es ≡ zeros.sum_entries g → walked (plans.coordinates draw.ZeroCoordinate n ++ es) ≡ zeros.coordinate_entries g n
walked_coordinates g zero es e = e
walked_coordinates g (suc n) es e = ap (λ l. due.Draw draw.ZeroCoordinate 1 ∷ l) (walked_coordinates g n es e)

-- ---- one group
-- the claims on columns that constraints zs of table t leave
abbrev places_of : (t v rows n : ℕ) → List ConstraintShape → List Place
places_of t v rows n zs = places_on t (ceil_log rows + v) (named zs n)

abbrev stages_of : (t v rows n : ℕ) → List ConstraintShape → List Stage
stages_of t v rows n zs = when (λ g. stage.Constraints (zeros.waiting g)) (group_where t v rows n zs)

abbrev entries_of : (v rows n : ℕ) → List ConstraintShape → List PlanEntry
entries_of v rows n zs =
    cond (length zs == 0) []
    (Draw draw.ConstraintBatch (length zs - 1) ∷ plans.coordinates draw.ZeroCoordinate (ceil_log rows + v) ++ plans.sum_entries draw.ZeroRound (greatest (map (λ (z : ConstraintShape). z.degree) zs) + 2) (ceil_log rows + v) check.ZeroFinal (length (named zs n)))

none_kept : {X : Type 0} (xs : List X) → filter (λ x. false) xs ≡ []
none_kept [] = refl
none_kept (x ∷ xs) = none_kept xs

where_goes : (room t v rows n : ℕ) (zs : List ConstraintShape) (ps : List Place) → length ps ≤ room
    → Goes (kept_at room [] ps) (stages_of t v rows n zs) (walked (entries_of v rows n zs)) (kept_at room [] (ps ++ places_of t v rows n zs))
where_goes room t v rows n [] ps low = same_left (ap (kept_at room []) (sym (append-nil ps) ∙ ap (λ cs. ps ++ places_on t (ceil_log rows + v) cs) (sym (none_kept (tabulate n (λ c. c)))))) (none_go _)
where_goes room t v rows n (z ∷ zs) ps low =
    let g : Group = group_with t v rows n (z ∷ zs) in
    let all : List PlanEntry = plans.sum_entries draw.ZeroRound (g.degree + 2) g.vars check.ZeroFinal (length g.columns) in
    let sum : walked all ≡ zeros.sum_entries g = walked_append (plans.rounds draw.ZeroRound (g.degree + 2) g.vars) _ ∙ (λ i. walked_rounds draw.ZeroRound (g.degree + 2) g.vars i ++ due.Message check.ZeroFinal (length g.columns) ∷ []) in
    let count : length g.constraints ≡ length (z ∷ zs) = length-map (z ∷ zs) (λ (y : ConstraintShape). form_on (named (z ∷ zs) n) y.expr) in
    subst (λ b. Goes (kept_at room [] ps) (stages_of t v rows n (z ∷ zs)) (walked (cond b [] (Draw draw.ConstraintBatch (length (z ∷ zs) - 1) ∷ plans.coordinates draw.ZeroCoordinate (ceil_log rows + v) ++ all))) (kept_at room [] (ps ++ places_of t v rows n (z ∷ zs))))
    (sym (not_none (length zs)))
    (one_goes (stage.Constraints (zeros.waiting g)) _ _ _ (has_room room [] ps (omega arith) low) tt
    (λ i. due.Draw draw.ConstraintBatch (count i - 1) ∷ sym (walked_coordinates g g.vars all sum) i)
    (λ i. kept_at room [] (blank_places ps i ++ places_on g.table g.vars g.columns)))

-- of 2 ^ v values per row
abbrev pub group_places : (rows t : ℕ) → TableShape → ℕ → List Place
group_places rows t table v = places_on t (ceil_log rows + v) (group_columns v table)

group_goes : (all : List TableShape) (room rows t v : ℕ) (table : TableShape) (ps : List Place) → slice_get all t ≡ Some table → length ps ≤ room
    → Goes (kept_at room [] ps) (group_stages all rows t v) (walked (group_entries rows table v)) (kept_at room [] (ps ++ group_places rows t table v))
group_goes all room rows t v table ps at low =
    subst (λ (o : Option TableShape). Goes (kept_at room [] ps) (when (λ g. stage.Constraints (zeros.waiting g)) (option_and_then (λ (table : TableShape). group_where t v rows (length table.columns) (group v table)) o)) (walked (group_entries rows table v)) (kept_at room [] (ps ++ group_places rows t table v)))
    (sym at) (where_goes room t v rows (length table.columns) (group v table) ps low)

-- ---- all of a table
groups_go : (all : List TableShape) (room rows t : ℕ) (table : TableShape) (vs : List ℕ) (ps : List Place) → slice_get all t ≡ Some table → length ps + length (flat_map (group_places rows t table) vs) ≤ room
    → Goes (kept_at room [] ps) (flat_map (group_stages all rows t) vs) (walked (flat_map (group_entries rows table) vs)) (kept_at room [] (ps ++ flat_map (group_places rows t table) vs))
groups_go all room rows t table [] ps at low = same_left (ap (kept_at room []) (sym (append-nil ps))) (none_go _)
groups_go all room rows t table (v ∷ vs) ps at low =
    let now = length-append (group_places rows t table v) (flat_map (group_places rows t table) vs) in
    let more = length-append ps (group_places rows t table v) in
    same_due (sym (walked_append (group_entries rows table v) _))
    (same_left (ap (kept_at room []) (append_assoc ps (group_places rows t table v) (flat_map (group_places rows t table) vs)))
    (then_go (group_goes all room rows t v table ps at (omega arith)) (groups_go all room rows t table vs (ps ++ group_places rows t table v) at (omega arith))))

-- ---- all
abbrev pub constraint_places : ℕ → ℕ → TableShape → List Place
constraint_places rows t table = flat_map (group_places rows t table) (tabulate (max_log_values + 1) (λ v. v))

abbrev pub constrained_places : List ℕ → ℕ → List TableShape → List Place
constrained_places rows t [] = []
constrained_places rows t (table ∷ tables) = constraint_places (slice_index rows t) t table ++ constrained_places rows (t + 1) tables

pub constraints_go : (all : List TableShape) (room : ℕ) (rows : List ℕ) (t : ℕ) (tables : List TableShape) (ps : List Place)
    → ((k : ℕ) (table : TableShape) → slice_get tables k ≡ Some table → slice_get all (t + k) ≡ Some table) → length ps + length (constrained_places rows t tables) ≤ room
    → Goes (kept_at room [] ps) (constraint_stages all rows t tables) (walked (constraint_entries rows t tables)) (kept_at room [] (ps ++ constrained_places rows t tables))
constraints_go all room rows t [] ps at low = same_left (ap (kept_at room []) (sym (append-nil ps))) (none_go _)
constraints_go all room rows t (table ∷ tables) ps at low =
    let here = constraint_places (slice_index rows t) t table in
    let now = length-append here (constrained_places rows (t + 1) tables) in
    let more = length-append ps here in
    let own : slice_get all t ≡ Some table = subst (λ n. slice_get all n ≡ Some table) (omega arith) (at 0 table refl) in
    same_due (sym (walked_append (flat_map (group_entries (slice_index rows t) table) (tabulate (max_log_values + 1) (λ v. v))) _))
    (same_left (ap (kept_at room []) (append_assoc ps here (constrained_places rows (t + 1) tables)))
    (then_go (groups_go all room (slice_index rows t) t table (tabulate (max_log_values + 1) (λ v. v)) ps own (omega arith))
    (constraints_go all room rows (t + 1) tables (ps ++ here) (λ k other e. subst (λ n. slice_get all n ≡ Some other) (omega arith) (at (suc k) other e)) (omega arith))))
