-- The course of a proof's reductions is its plan, and each of them can be entered when its turn comes.
use Rattle.std.proofs.Common.{◌≡◌, ◌∙◌, ◌≤◌, ◌+◌, ◌-◌, ℕ, List, [], ◌∷◌, ◌++◌, length, slice_index, slice_get, Some, inr, refl, sym, subst, arith}
use Rattle.std.proofs.lemmas.List.{append_assoc, length-append}
use Rattle.std.specs.List.{AllByRecursion}
use Rattle.sumcheck.specs.declared.entry.Entry.{Entry}
use Rattle.table_shape.specs.declared.shape.TableShape.{TableShape}
use Rattle.table_shape.specs.Fits.{ShapeFits}
use Rattle.table_shape.specs.Limits.{max_rows}
use Rattle.table_shape.specs.Parts.{ShapeParts}
use Rattle.table_shape.specs.Placement.{blocks, places_log}
use Rattle.walk_chain.specs.Chain.{Suits, plan_of}
use Rattle.proof_plan.specs.Plan.{bit_claims, bit_entries, channel_entries, constraint_entries, first_columns, packed_log, plan, switch_entries, table_entries}
use Rattle.m3_walk.specs.Course.{IsEnough, channel_stages, claim_count, constraint_stages, course, walked}
use Rattle.m3_walk.specs.Kept.{none_wait}
use Rattle.m3_walk.specs.Linked.{linking}
use Rattle.m3_walk.specs.Linking.{HasBlock, Place, sizes}
use Rattle.m3_walk.proofs.CourseChannels.{channels_go, flushed_places, kept_at, walked_append}
use Rattle.m3_walk.proofs.CourseEnd.{committed_has_block, end_goes, last_has_room, packed_at}
use Rattle.m3_walk.proofs.CourseFirst.{IsThere, all_started, started_places, total}
use Rattle.m3_walk.proofs.CourseGroups.{constrained_places, constraints_go}
use Rattle.m3_walk.proofs.CoursePlaces.{all_mapped}
use Rattle.m3_walk.proofs.CourseSteps.{Goes, all_suit, same_due, then_go}
use Rattle.m3_walk.proofs.CourseTables.{StandsFrom, TablesPassed, all_sources, tables_pass}

-- ---- claims on columns, as many as can wait
counted : (tables : List TableShape) → claim_count tables ≡ total first_columns tables + all_sources tables
counted [] = refl
counted (table ∷ tables) = let h = counted tables in omega arith

starts : (all : List TableShape) (rows : List ℕ) (p : Place) → IsThere all rows p → StandsFrom all rows 0 p
starts all rows p h = record { column = h.column; there = h.there; vars = h.vars; later = inr (omega arith) }

-- ---- the course
-- what a walk goes through, kind by kind
abbrev entries_in_turn : ShapeParts → List ℕ → List Entry
entries_in_turn shape rows =
    walked (channel_entries shape rows) ++ walked (constraint_entries rows 0 shape.tables) ++ walked (table_entries rows 0 shape.tables)
    ++ (walked (bit_entries (places_log (blocks shape.tables rows)) (bit_claims shape.tables)) ++ walked (switch_entries (packed_log shape rows)))

in_turn : (shape : ShapeParts) (rows : List ℕ) → entries_in_turn shape rows ≡ walked (plan shape rows)
in_turn shape rows =
    let a = channel_entries shape rows in
    let b = constraint_entries rows 0 shape.tables in
    let c = table_entries rows 0 shape.tables in
    let d = bit_entries (places_log (blocks shape.tables rows)) (bit_claims shape.tables) in
    let e = switch_entries (packed_log shape rows) in
    sym (walked_append (a ++ b ++ c ++ d) e ∙ (λ i. walked_append (a ++ b ++ c) d i ++ walked e) ∙ (λ i. walked_append (a ++ b) c i ++ walked d ++ walked e) ∙ (λ i. walked_append a b i ++ walked c ++ walked d ++ walked e)
    ∙ append_assoc (walked a ++ walked b ++ walked c) (walked d) (walked e))

none_more : (n : ℕ) → n ≡ 0 + n
none_more n = omega arith

-- claims on columns, and then those on committed ones
columns_go : (shape : ShapeParts) (rows : List ℕ) (room : ℕ) → ShapeFits shape → length rows ≡ length shape.tables → ((t : ℕ) → slice_index rows t ≤ max_rows)
    → Goes (kept_at room [] []) (channel_stages shape rows ++ constraint_stages shape.tables rows 0 shape.tables) (walked (channel_entries shape rows) ++ walked (constraint_entries rows 0 shape.tables)) (kept_at room [] (started_places shape rows))
    → TablesPassed shape.tables rows room 0 shape.tables 0 (started_places shape rows) → Goes (kept_at room [] []) (course shape rows) (walked (plan shape rows)) (packed_at room (places_log (blocks shape.tables rows) - 7))
columns_go shape rows room fits long few started columns =
    let all = shape.tables in
    let size = columns.state.size in
    let last = columns.state.enough in
    same_due (in_turn shape rows)
    (then_go (then_go started columns.goes)
    (end_goes room (bit_claims all) (blocks all rows) columns.places (omega arith) (omega arith)
    (all_mapped (StandsFrom all rows (length all)) (HasBlock (blocks all rows)) (committed_has_block all rows long few fits.tables) columns.places (subst (λ n. AllByRecursion (StandsFrom all rows n) columns.places) (sym (none_more (length all))) columns.state.stand))))

course_goes : (shape : ShapeParts) (rows : List ℕ) (room : ℕ) → ShapeFits shape → length rows ≡ length shape.tables → ((t : ℕ) → slice_index rows t ≤ max_rows) → IsEnough shape room
    → Goes (kept_at room [] []) (course shape rows) (walked (plan shape rows)) (packed_at room (places_log (blocks shape.tables rows) - 7))
course_goes shape rows room fits long few enough =
    let all = shape.tables in
    let first = all_started shape rows fits in
    let count = first.size in
    let sum = counted all in
    let most = enough.columns in
    let parts = length-append (flushed_places shape rows) (constrained_places rows 0 all) in
    let each : (k : ℕ) (table : TableShape) → slice_get all k ≡ Some table → slice_get all (0 + k) ≡ Some table = λ k table at. subst (λ n. slice_get all n ≡ Some table) (none_more k) at in
    columns_go shape rows room fits long few
    (then_go (channels_go shape rows room fits enough.products (omega arith)) (constraints_go all room rows 0 all (flushed_places shape rows) each (omega arith)))
    (tables_pass all rows room 0 all 0 (started_places shape rows) each (λ t table at. (fits.tables t table at, first.low t table at)) (record {
      stand = all_mapped (IsThere all rows) (StandsFrom all rows 0) (starts all rows) (started_places shape rows) first.there;
      counts = λ t c table l at. first.counts t c table at;
      size = omega arith;
      enough = omega arith;
    }))

pub course_is_the_plan : (shape : ShapeParts) (rows : List ℕ) (room : ℕ) → ShapeFits shape → length rows ≡ length shape.tables → ((t : ℕ) → slice_index rows t ≤ max_rows) → IsEnough shape room
    → plan_of linking (sizes (none_wait room)) (course shape rows) ≡ walked (plan shape rows)
course_is_the_plan shape rows room fits long few enough = (course_goes shape rows room fits long few enough).due

pub course_suits : (shape : ShapeParts) (rows : List ℕ) (room : ℕ) → ShapeFits shape → length rows ≡ length shape.tables → ((t : ℕ) → slice_index rows t ≤ max_rows) → IsEnough shape room
    → Suits linking (sizes (none_wait room)) (course shape rows)
course_suits shape rows room fits long few enough =
    all_suit (kept_at room [] []) (packed_at room (places_log (blocks shape.tables rows) - 7)) (course shape rows) (walked (plan shape rows)) (course_goes shape rows room fits long few enough) (last_has_room room (places_log (blocks shape.tables rows) - 7))
