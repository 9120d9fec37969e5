-- The claims on committed columns and the ring switch, at the end of a proof's course.
use Rattle.std.proofs.Common.{◌≡◌, ◌∙◌, ◌<◌, ◌≤◌, ◌+◌, ◌-◌, ◌⊎◌, ℕ, zero, suc, Bool, true, false, cond, List, [], ◌∷◌, ◌++◌, length, map, drop, slice_index, slice_get, Option, Some, None, is_some, inl, inr, refl, sym, ap, arith}
use Rattle.std.proofs.lemmas.List.{append_assoc, length-drop, length-map}
use Rattle.std.proofs.lemmas.Option.{slice_get-get_or, slice_get_within}
use Rattle.std.specs.List.{AllByRecursion, filter}
use Rattle.std.specs.Prelude.{option_and_then}
use Rattle.list_laws.specs.CeilLog.{ceil_log}
use Rattle.batch_laws.specs.Batch.{zeros}
use Rattle.cube_laws.proofs.Weights.{length-tabulate}
use Rattle.list_laws.proofs.Powers.{log_of_rows}
use Rattle.poly_forms.specs.declared.check_kind.CheckKind.TheVariants as check
use Rattle.poly_forms.specs.declared.draw_kind.DrawKind.TheVariants as draw
use Rattle.sumcheck.specs.declared.column_claim.ColumnClaim.{ColumnClaim}
use Rattle.sumcheck.specs.declared.entry.Entry.TheVariants as due
use Rattle.sumcheck.specs.Rounds.{rounds}
use Rattle.table_shape.specs.declared.shape.ColumnKind.TheVariants.{Committed}
use Rattle.table_shape.specs.declared.shape.ColumnShape.{ColumnShape}
use Rattle.table_shape.specs.declared.shape.TableShape.{TableShape}
use Rattle.table_shape.specs.Fits.{TableFits}
use Rattle.table_shape.specs.Limits.{max_rows}
use Rattle.table_shape.specs.Placement.{Block, block_of, blocks, is_block, places_log}
use Rattle.bit_claim.specs.Batching as batch
use Rattle.bit_claim.specs.Bits.{block_in}
use Rattle.bit_claim.proofs.Numbered.{own_blocks}
use Rattle.ring_switch.specs.Switching as switch
use Rattle.claim_lists.specs.ByColumn.{by_column, inserted, stands_before}
use Rattle.proof_plan.specs.declared.plan_entry.PlanEntry.{PlanEntry}
use Rattle.proof_plan.specs.declared.plan_entry.PlanEntry.TheVariants.{Constant, Queries}
use Rattle.proof_plan.specs.Plan as plans
use Rattle.proof_plan.specs.Plan.{bit_entries, switch_entries, switch_rounds}
use Rattle.m3_walk.specs.declared.stage.Stage.TheVariants as stage
use Rattle.m3_walk.specs.Course.{walked}
use Rattle.m3_walk.specs.Linked.{HasRoom}
use Rattle.m3_walk.specs.Linking.{HasBlock, Place, Sizes, blank_claim, has_block, has_no_block, place_of}
use Rattle.m3_walk.proofs.CourseChannels.{has_room, kept_at, walked_append}
use Rattle.m3_walk.proofs.CourseForms.{walked_sum}
use Rattle.m3_walk.proofs.CourseSteps.{Goes, one_goes, then_go}
use Rattle.m3_walk.proofs.CourseTables.{StandsFrom, columns_has}

-- ---- a claim on a committed column has a block
first_found : (t c : ℕ) (bs : List Block) (b : Block) → filter (is_block t c) bs ≡ b ∷ [] → block_in t c bs ≡ Some b
first_found t c [] b e = absurd cc
first_found t c (d ∷ bs) b e = go (is_block t c d) e (first_found t c bs b)
  where
    go : (u : Bool) → cond u (d ∷ filter (is_block t c) bs) (filter (is_block t c) bs) ≡ b ∷ [] → (filter (is_block t c) bs ≡ b ∷ [] → block_in t c bs ≡ Some b) → cond u (Some d) (block_in t c bs) ≡ Some b
    go true e later = let same : d ≡ b = cc in ap Some same
    go false e later = later e

record Found {X : Type 0} (o : Option X) : Type 0 where
  value : X
  is : o ≡ Some value

table_there : (tables : List TableShape) (c : ℕ) (column : ColumnShape) (o : Option TableShape) → option_and_then (λ (x : TableShape). slice_get x.columns c) o ≡ Some column → Found o
table_there tables c column None e = absurd cc
table_there tables c column (Some table) e = record { value = table; is = refl }

pub committed_has_block : (tables : List TableShape) (rows : List ℕ) → length rows ≡ length tables → ((t : ℕ) → slice_index rows t ≤ max_rows) → ((t : ℕ) (table : TableShape) → slice_get tables t ≡ Some table → TableFits table)
    → (p : Place) → StandsFrom tables rows (length tables) p → HasBlock (blocks tables rows) p
committed_has_block tables rows long few fits p s =
    let table = table_there tables p.column s.column (slice_get tables p.table) s.there in
    let low : p.table < length tables = slice_get_within tables p.table table.value table.is in
    let here : slice_get table.value.columns p.column ≡ Some s.column = columns_has table.value p.column s.column (slice_get tables p.table) table.is s.there in
    let committed : s.column.kind ≡ Committed = is_committed s.later low in
    let count : slice_get rows p.table ≡ Some (slice_index rows p.table) = slice_get-get_or rows p.table 0 (omega arith) in
    let fit = (fits p.table table.value table.is).columns p.column s.column here in
    let log = log_of_rows (slice_index rows p.table) (few p.table) in
    let level = fit.level in
    let values = fit.log_values in
    let vars = s.vars in
    let m = slice_index rows p.table in
    let own : filter (is_block p.table p.column) (blocks tables rows) ≡ block_of p.table m p.column s.column Committed =
    own_blocks tables rows p.table m p.column table.value s.column table.is count here (omega arith) ∙ ap (block_of p.table m p.column s.column) committed in
    (record { table = p.table; column = p.column; level = s.column.level; log_bits = ceil_log m + s.column.log_values + s.column.level }, first_found p.table p.column (blocks tables rows) _ own, omega arith)
  where
    is_committed : (s.column.kind ≡ Committed) ⊎ (length tables ≤ p.table) → p.table < length tables → s.column.kind ≡ Committed
    is_committed (inl k) low = k
    is_committed (inr l) low = absurd (omega arith)

-- ---- the batch takes all of them
length-inserted : (c : ColumnClaim) (cs : List ColumnClaim) → length (inserted c cs) ≡ suc (length cs)
length-inserted c [] = refl
length-inserted c (d ∷ ds) =
    elim (stands_before d c) as (λ b. length (cond b (d ∷ inserted c ds) (c ∷ d ∷ ds)) ≡ suc (suc (length ds))) [ true ↦ ap suc (length-inserted c ds) | false ↦ refl ]

length-by_column : (cs : List ColumnClaim) → length (by_column cs) ≡ length cs
length-by_column [] = refl
length-by_column (c ∷ cs) = length-inserted c (by_column cs) ∙ ap suc (length-by_column cs)

block_is : (bs : List Block) (p : Place) → HasBlock bs p → has_block bs (blank_claim p) ≡ true
block_is bs p h = ap is_some h.1

all_have : (bs : List Block) (ps : List Place) → AllByRecursion (HasBlock bs) ps → filter (has_block bs) (map blank_claim ps) ≡ map blank_claim ps
all_have bs [] h = refl
all_have bs (p ∷ ps) h = (λ i. cond (block_is bs p h.0 i) (blank_claim p ∷ all_have bs ps h.1 i) (all_have bs ps h.1 i))

none_stays : (bs : List Block) (ps : List Place) → AllByRecursion (HasBlock bs) ps → filter (has_no_block bs) (map blank_claim ps) ≡ []
none_stays bs [] h = refl
none_stays bs (p ∷ ps) h = (λ i. cond (cond (block_is bs p h.0 i) false true) (blank_claim p ∷ none_stays bs ps h.1 i) (none_stays bs ps h.1 i))

abbrev pub bits_at : ℕ → ℕ → Sizes
bits_at room n = record { products = []; columns = []; bits = n ∷ []; packed = []; room = room }

abbrev pub packed_at : ℕ → ℕ → Sizes
packed_at room n = record { products = []; columns = []; bits = []; packed = n ∷ []; room = room }

bits_go : (room j : ℕ) (bs : List Block) (ps : List Place) → length ps ≤ room → length ps ≡ j → AllByRecursion (HasBlock bs) ps
    → Goes (kept_at room [] ps) (stage.Bits (batch.waiting bs j) ∷ []) (walked (bit_entries (places_log bs) j)) (bits_at room (places_log bs))
bits_go room j bs ps low count blocks =
    let taken : length (by_column (filter (has_block bs) (map blank_claim ps))) ≡ j = length-by_column (filter (has_block bs) (map blank_claim ps)) ∙ ap length (all_have bs ps blocks) ∙ length-map ps blank_claim ∙ count in
    one_goes (stage.Bits (batch.waiting bs j)) _ _ _ (has_room room [] ps (omega arith) low) ((omega arith), blocks)
    (λ i. due.Draw draw.BitBatch (taken i - 1) ∷ sym (walked_sum draw.BitRound 2 (places_log bs) check.BitFinal 1) i)
    (λ i. record { products = []; columns = map place_of (none_stays bs ps blocks i); bits = places_log bs ∷ []; packed = []; room = room })

-- ---- the ring switch
walked_switch_rounds : (n : ℕ) → walked (switch_rounds n) ≡ rounds draw.SwitchRound 2 n
walked_switch_rounds zero = refl
walked_switch_rounds (suc zero) = refl
walked_switch_rounds (suc (suc n)) = ap (λ l. due.Message check.RoundSum 3 ∷ due.Draw draw.SwitchRound 2 ∷ l) (walked_switch_rounds (suc n))

walked_coordinates : (n m : ℕ) (es : List PlanEntry) → walked es ≡ switch.sum_entries m → walked (plans.coordinates draw.TensorCoordinate n ++ es) ≡ switch.coordinate_entries n m
walked_coordinates zero m es e = e
walked_coordinates (suc n) m es e = ap (λ l. due.Draw draw.TensorCoordinate 1 ∷ l) (walked_coordinates n m es e)

walked_switch : (m : ℕ) → walked (switch_entries m) ≡ due.Message check.Tensor 128 ∷ switch.coordinate_entries 7 m
walked_switch m =
    let tail : List PlanEntry = Constant ∷ Queries ∷ [] in
    ap (λ es. due.Message check.Tensor 128 ∷ walked es) (append_assoc (plans.coordinates draw.TensorCoordinate 7) (switch_rounds m) tail)
    ∙ ap (λ l. due.Message check.Tensor 128 ∷ l)
    (walked_coordinates 7 m (switch_rounds m ++ tail) (walked_append (switch_rounds m) tail ∙ (λ i. walked_switch_rounds m i ++ due.Message check.Constant 1 ∷ [])))

words_go : (room n : ℕ) → Goes (bits_at room n) (stage.Words (switch.waiting n) ∷ []) (walked (switch_entries (n - 7))) (packed_at room (n - 7))
words_go room n =
    let high : length (drop 7 (zeros n)) ≡ n - 7 = length-drop 7 (zeros n) ∙ ap (λ m. m - 7) (length-tabulate n (λ p. 0)) in
    one_goes (stage.Words (switch.waiting n)) _ _ _ (record { products = omega arith; columns = omega arith; bits = omega arith; packed = omega arith }) refl
    (ap (λ m. due.Message check.Tensor 128 ∷ switch.coordinate_entries 7 m) high ∙ sym (walked_switch (n - 7)))
    (ap (packed_at room) high)

pub end_goes : (room j : ℕ) (bs : List Block) (ps : List Place) → length ps ≤ room → length ps ≡ j → AllByRecursion (HasBlock bs) ps
    → Goes (kept_at room [] ps) (stage.Bits (batch.waiting bs j) ∷ stage.Words (switch.waiting (places_log bs)) ∷ []) (walked (bit_entries (places_log bs) j) ++ walked (switch_entries (places_log bs - 7))) (packed_at room (places_log bs - 7))
end_goes room j bs ps low count blocks =
    then_go (bits_go room j bs ps low count blocks) (words_go room (places_log bs))

pub last_has_room : (room n : ℕ) → HasRoom (packed_at room n)
last_has_room room n = record { products = omega arith; columns = omega arith; bits = omega arith; packed = omega arith }
