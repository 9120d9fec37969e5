-- Steps of the loops that make the reductions of a proof.
use Rattle.std.proofs.Common.{◌≡◌, ◌∙◌, ℕ, zero, suc, ◌+◌, ◌<◌, List, [], ◌∷◌, ◌++◌, length, map, drop, slice_get, Some, refl, sym, ap, arith}
use Rattle.std.specs.Option.{option_and_then}
use Rattle.std.specs.List.{flat_map, slice_index}
use Rattle.std.proofs.lemmas.List.{append_assoc, map-append}
use Rattle.std.proofs.lemmas.Option.{get_or_from_slice_get, slice_get_within}
use Rattle.list_laws.proofs.Lists.{drop_here}
use Rattle.cube_laws.specs.Sums.{tabulate}
use Rattle.table_text.specs.Limits.{max_log_values}
use Rattle.table_shape.specs.declared.shape.FlushShape.{FlushShape}
use Rattle.table_shape.specs.declared.shape.TableShape.{TableShape}
use Rattle.channel_products.specs.Channels.{flushes_from, flushes_of}
use Rattle.channel_products.specs.DescentFields.{flush_in}
use Rattle.m3_walk.specs.declared.stage.Stage.{Stage}
use Rattle.m3_walk.specs.Course.{constraint_stages, flush_stage, group_stages}

-- ---- an item of a list, and what follows it
pub item_at : {X : Type 0} (xs : List X) (i : ℕ) → i < length xs → (x : X) × (slice_get xs i ≡ Some x)
item_at [] i h = absurd (omega arith)
item_at (x ∷ xs) zero h = (x, refl)
item_at (x ∷ xs) (suc i) h = item_at xs i (omega arith)

pub drop_at : {X : Type 0} (xs : List X) (i : ℕ) (x : X) → slice_get xs i ≡ Some x → drop i xs ≡ x ∷ drop (i + 1) xs
drop_at xs i x e = drop_here xs i x (slice_get_within xs i x e) (sym (get_or_from_slice_get xs i x x e))

-- ---- one part more of what is left
pub part_pushed : {X : Type 0} (now one rest own next whole : List X) → own ≡ one ++ rest → next ≡ now ++ one → now ++ own ≡ whole → next ++ rest ≡ whole
part_pushed now one rest own next whole s h e = ap (λ es. es ++ rest) h ∙ append_assoc now one rest ∙ ap (λ es. now ++ es) (sym s) ∙ e

-- ---- flushes
pub flush_at : (tables : List TableShape) (t f : ℕ) (table : TableShape) (flush : FlushShape) → slice_get tables t ≡ Some table → slice_get table.flushes f ≡ Some flush → flush_in tables t f ≡ Some flush
flush_at tables t f table flush e h = ap (option_and_then (λ (table : TableShape). slice_get table.flushes f)) e ∙ h

pub flush_pushed : (tables : List TableShape) (t f rows : ℕ) (table : TableShape) (now next whole : List Stage) → slice_get tables t ≡ Some table → f < length table.flushes
    → ((flush : FlushShape) → flush_in tables t f ≡ Some flush → next ≡ now ++ flush_stage (record { table = t; number = f; rows = rows; shape = flush }) ∷ [])
    → now ++ map flush_stage (flushes_of t rows f (drop f table.flushes)) ≡ whole → next ++ map flush_stage (flushes_of t rows (f + 1) (drop (f + 1) table.flushes)) ≡ whole
flush_pushed tables t f rows table now next whole e h k w =
    let i = item_at table.flushes f h in
    part_pushed now (flush_stage (record { table = t; number = f; rows = rows; shape = i.0 }) ∷ []) (map flush_stage (flushes_of t rows (f + 1) (drop (f + 1) table.flushes))) (map flush_stage (flushes_of t rows f (drop f table.flushes))) next whole
    (ap (λ fs. map flush_stage (flushes_of t rows f fs)) (drop_at table.flushes f i.0 i.1)) (k i.0 (flush_at tables t f table i.0 e i.1)) w

pub flushes_pushed : (rows : List ℕ) (t : ℕ) (tables : List TableShape) (table : TableShape) (now next whole : List Stage) → slice_get tables t ≡ Some table → next ≡ now ++ map flush_stage (flushes_of t (slice_index rows t) 0 table.flushes)
    → now ++ map flush_stage (flushes_from rows t (drop t tables)) ≡ whole → next ++ map flush_stage (flushes_from rows (t + 1) (drop (t + 1) tables)) ≡ whole
flushes_pushed rows t tables table now next whole at h e =
    let one = flushes_of t (slice_index rows t) 0 table.flushes in
    let rest = flushes_from rows (t + 1) (drop (t + 1) tables) in
    part_pushed now (map flush_stage one) (map flush_stage rest) (map flush_stage (flushes_from rows t (drop t tables))) next whole
    (ap (λ ts. map flush_stage (flushes_from rows t ts)) (drop_at tables t table at) ∙ map-append flush_stage one rest) h e

-- ---- constraints
pub groups_pushed : (all : List TableShape) (rows : List ℕ) (t : ℕ) (tables : List TableShape) (now next whole : List Stage) → t < length tables → next ≡ now ++ flat_map (group_stages all (slice_index rows t) t) (tabulate (max_log_values + 1) (λ v. v))
    → now ++ constraint_stages all rows t (drop t tables) ≡ whole → next ++ constraint_stages all rows (t + 1) (drop (t + 1) tables) ≡ whole
groups_pushed all rows t tables now next whole below h e =
    let i = item_at tables t below in
    part_pushed now (flat_map (group_stages all (slice_index rows t) t) (tabulate (max_log_values + 1) (λ v. v))) (constraint_stages all rows (t + 1) (drop (t + 1) tables)) (constraint_stages all rows t (drop t tables)) next whole
    (ap (constraint_stages all rows t) (drop_at tables t i.0 i.1)) h e
