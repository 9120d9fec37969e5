-- What is due of a reduction that is entered, and what it will leave, depend on the sizes of what waits alone.
use Rattle.std.proofs.Common.{◌≡◌, ◌∙◌, ◌+◌, ◌-◌, ℕ, zero, suc, Bool, true, false, cond, List, [], ◌∷◌, ◌++◌, length, map, drop, Some, refl, sym, ap}
use Rattle.std.proofs.lemmas.List.{length-append, length-drop, length-map}
use Rattle.std.specs.List.{filter}
use Rattle.batch_laws.specs.Batch.{zeros}
use Rattle.cube_laws.specs.Extension.{bits_of}
use Rattle.cube_laws.proofs.Weights.{length-tabulate}
use Rattle.poly_forms.specs.declared.check_kind.CheckKind.TheVariants.{BitFinal, MergeFinal, Tensor}
use Rattle.poly_forms.specs.declared.draw_kind.DrawKind.TheVariants.{BitBatch, BitRound, Merge as MergeDraw, MergeRound}
use Rattle.sumcheck.specs.declared.column_claim.ColumnClaim.{ColumnClaim}
use Rattle.sumcheck.specs.declared.entry.Entry.TheVariants.{Message, Draw}
use Rattle.sumcheck.specs.Rounds.{rounds}
use Rattle.table_shape.specs.Placement.{Block, places_log}
use Rattle.channel_products.specs.declared.flushed.Flushed.{Flushed}
use Rattle.channel_products.specs.Descent as descent
use Rattle.channel_products.specs.Descent.{row_vars, state_product}
use Rattle.eval_reduce.specs.declared.packing.Packing.{Packing}
use Rattle.eval_reduce.specs.declared.projection.Projection.{Projection}
use Rattle.eval_reduce.specs.declared.shifting.Shifting.{Shifting}
use Rattle.eval_reduce.specs.Linear as linear
use Rattle.eval_reduce.specs.Linear.{Combination, Linear}
use Rattle.eval_reduce.specs.Merge as merge
use Rattle.eval_reduce.specs.Merge.{Merge}
use Rattle.eval_reduce.specs.Pack as pack
use Rattle.eval_reduce.specs.Pack.{Pack}
use Rattle.eval_reduce.specs.Project as project
use Rattle.eval_reduce.specs.Project.{Project, projected_claim}
use Rattle.eval_reduce.specs.Shift as shift
use Rattle.eval_reduce.specs.Shift.{Shift, stated_sum}
use Rattle.bit_claim.specs.Batching as batch
use Rattle.bit_claim.specs.Batching.{Batching, BitValue}
use Rattle.ring_switch.specs.Switching as switch
use Rattle.m3_walk.specs.declared.stage.Stage.{Stage}
use Rattle.m3_walk.specs.declared.stage.Stage.TheVariants.{Start, Channels, Flush, Constraints, Merge as Merges, Linear as Combines, Project as Projects, Claimed, Pack as Packs, Shift as Shifts, Bits, Words, Switch}
use Rattle.claim_lists.specs.ByColumn.{by_column, inserted, stands_before}
use Rattle.claim_lists.specs.OnColumn.{is_on, on_column, but_first_on, first_on}
use Rattle.m3_walk.specs.declared.product.Product.{Product}
use Rattle.m3_walk.specs.Kept.{Kept, Packed}
use Rattle.m3_walk.specs.Linking.{Place, Sizes, blank, blank_claim, but_first, but_first_place, enter_bits, enter_linear, enter_merge, enter_pack, enter_project, enter_shift, entered, flush_places, flush_with, has_block, is_elsewhere, is_place, on_claim, place_has_block, place_has_no_block, place_of, plan_with, sizes, sizes_after, sizes_left, stay_bits, stay_linear, stay_merge, stay_pack, stay_project, stay_shift, staying, switch_with, term_places}
use Rattle.m3_walk.specs.Stages.{staged}
use Rattle.m3_walk.proofs.Keys.{descending_places}

-- ---- lists of the same sizes
pub filtered : {X Y : Type 0} (f : X → Y) (q : Y → Bool) (xs : List X) → map f (filter (λ x. q (f x)) xs) ≡ filter q (map f xs)
filtered f q [] = refl
filtered f q (x ∷ xs) =
    elim (q (f x)) as (λ t. map f (cond t (x ∷ filter (λ x. q (f x)) xs) (filter (λ x. q (f x)) xs)) ≡ cond t (f x ∷ filter q (map f xs)) (filter q (map f xs))) [
      | true ↦ ap (λ l. f x ∷ l) (filtered f q xs)
      | false ↦ filtered f q xs
    ]

same_filtered : {X Y : Type 0} (f : X → Y) (q : Y → Bool) (xs ys : List X) → map f xs ≡ map f ys → map f (filter (λ x. q (f x)) xs) ≡ map f (filter (λ x. q (f x)) ys)
same_filtered f q xs ys e = filtered f q xs ∙ ap (filter q) e ∙ sym (filtered f q ys)

same_count : {X Y : Type 0} (f : X → Y) (xs ys : List X) → map f xs ≡ map f ys → length xs ≡ length ys
same_count f xs ys e = sym (length-map xs f) ∙ ap length e ∙ length-map ys f

rest : {X Y : Type 0} (f : X → Y) (xs : List X) → map f (but_first xs) ≡ but_first (map f xs)
rest f [] = refl
rest f (x ∷ xs) = refl

same_rest : {X Y : Type 0} (f : X → Y) (xs ys : List X) → map f xs ≡ map f ys → map f (but_first xs) ≡ map f (but_first ys)
same_rest f xs ys e = rest f xs ∙ ap but_first e ∙ sym (rest f ys)

others : (t c : ℕ) (cs : List ColumnClaim) → map place_of (but_first_on t c cs) ≡ but_first_place t c (map place_of cs)
others t c [] = refl
others t c (d ∷ ds) =
    elim (is_on t c d) as (λ b. map place_of (cond b ds (d ∷ but_first_on t c ds)) ≡ cond b (map place_of ds) (place_of d ∷ but_first_place t c (map place_of ds))) [
      | true ↦ refl
      | false ↦ ap (λ l. place_of d ∷ l) (others t c ds)
    ]

same_others : (t c : ℕ) (cs ds : List ColumnClaim) → map place_of cs ≡ map place_of ds → map place_of (but_first_on t c cs) ≡ map place_of (but_first_on t c ds)
same_others t c cs ds e = others t c cs ∙ ap (but_first_place t c) e ∙ sym (others t c ds)

length-inserted : (c : ColumnClaim) (cs : List ColumnClaim) → length (inserted c cs) ≡ suc (length cs)
length-inserted c [] = refl
length-inserted c (d ∷ ds) =
    elim (stands_before d c) as (λ b. length (cond b (d ∷ inserted c ds) (c ∷ d ∷ ds)) ≡ suc (suc (length ds))) [ true ↦ ap suc (length-inserted c ds) | false ↦ refl ]

pub length-by_column : (cs : List ColumnClaim) → length (by_column cs) ≡ length cs
length-by_column [] = refl
length-by_column (c ∷ cs) = length-inserted c (by_column cs) ∙ ap suc (length-by_column cs)

-- ---- the claim that a reduction of one takes
same_claim : {X : Type 0} (f : Stage → X) (make : ColumnClaim → Stage) → ((c d : ColumnClaim) → place_of c ≡ place_of d → f (make c) ≡ f (make d))
    → (t k : ℕ) (cs ds : List ColumnClaim) → map place_of cs ≡ map place_of ds → f (on_claim (first_on t k cs) make) ≡ f (on_claim (first_on t k ds) make)
same_claim f make h t k [] [] e = refl
same_claim f make h t k [] (d ∷ ds) e = absurd cc
same_claim f make h t k (c ∷ cs) [] e = absurd cc
same_claim {X} f make h t k (c ∷ cs) (d ∷ ds) e =
    let one : place_of c ≡ place_of d = cc in
    let more : map place_of cs ≡ map place_of ds = cc in
    taken (is_place t k (place_of c)) (is_place t k (place_of d)) (ap (is_place t k) one) (h c d one) (same_claim f make h t k cs ds more)
  where
    taken : (a b : Bool) → a ≡ b → f (make c) ≡ f (make d) → f (on_claim (first_on t k cs) make) ≡ f (on_claim (first_on t k ds) make)
        → f (on_claim (cond a (Some c) (first_on t k cs)) make) ≡ f (on_claim (cond b (Some d) (first_on t k ds)) make)
    taken true true p one more = one
    taken true false p one more = absurd cc
    taken false true p one more = absurd cc
    taken false false p one more = more

-- ---- what depends on the sizes alone
abbrev product_stage : Product → Stage
product_stage p = Flush (state_product p.alpha p.gamma p.value (descent.waiting p.flushed))

abbrev bit_stage : BitValue → Stage
bit_stage b = Switch (record { placement = b.blocks; walk = switch.valued b.point b.value })

-- of the claims that a reduction takes a function sees the sizes only
record SeesSizes {X : Type 0} (f : Stage → X) : Type 0 where
  flush : (p q : Product) → p.flushed ≡ q.flushed → f (product_stage p) ≡ f (product_stage q)
  merged : (t c n : ℕ) (cs ds : List ColumnClaim) → length cs ≡ length ds → f (Merges (record { table = t; column = c; walk = merge.opening t c n cs })) ≡ f (Merges (record { table = t; column = c; walk = merge.opening t c n ds }))
  combined : (l : Combination) (c d : ColumnClaim) → place_of c ≡ place_of d → f (Combines (linear.stated l c)) ≡ f (Combines (linear.stated l d))
  projected : (p : Projection) (c d : ColumnClaim) → place_of c ≡ place_of d → f (Claimed (projected_claim p c)) ≡ f (Claimed (projected_claim p d))
  packed : (p : Packing) (c d : ColumnClaim) → place_of c ≡ place_of d → f (Packs (pack.stated p c)) ≡ f (Packs (pack.stated p d))
  shifted : (s : Shifting) (c d : ColumnClaim) → place_of c ≡ place_of d → f (Shifts (stated_sum s c)) ≡ f (Shifts (stated_sum s d))
  batched : (bs : List Block) (cs ds : List ColumnClaim) → length cs ≡ length ds → f (Bits (batch.opening bs cs)) ≡ f (Bits (batch.opening bs ds))
  switched : (b c : BitValue) → length b.point ≡ length c.point → f (bit_stage b) ≡ f (bit_stage c)

-- the function sees the same of a reduction that is entered with claims of the same sizes
same_flush : {X : Type 0} (f : Stage → X) → SeesSizes f → (ps qs : List Product) → map (λ (p : Product). p.flushed) ps ≡ map (λ (p : Product). p.flushed) qs → f (flush_with ps) ≡ f (flush_with qs)
same_flush f s [] [] e = refl
same_flush f s [] (q ∷ qs) e = absurd cc
same_flush f s (p ∷ ps) [] e = absurd cc
same_flush f s (p ∷ ps) (q ∷ qs) e = s.flush p q cc

same_switch : {X : Type 0} (f : Stage → X) → SeesSizes f → (bs cs : List BitValue) → map (λ (b : BitValue). length b.point) bs ≡ map (λ (b : BitValue). length b.point) cs → f (switch_with bs) ≡ f (switch_with cs)
same_switch f s [] [] e = refl
same_switch f s [] (c ∷ cs) e = absurd cc
same_switch f s (b ∷ bs) [] e = absurd cc
same_switch f s (b ∷ bs) (c ∷ cs) e = s.switched b c cc

same_merge : {X : Type 0} (f : Stage → X) → SeesSizes f → (t c : ℕ) (m : Merge) (cs ds : List ColumnClaim) → map place_of cs ≡ map place_of ds → f (enter_merge t c m cs) ≡ f (enter_merge t c m ds)
same_merge f s t c (merge.waiting n m) cs ds e = s.merged t c n (on_column t c cs) (on_column t c ds) (same_count place_of (on_column t c cs) (on_column t c ds) (same_filtered place_of (is_place t c) cs ds e))
same_merge f s t c (merge.opening t' c' n es) cs ds e = refl
same_merge f s t c (merge.summed x) cs ds e = refl

same_linear : {X : Type 0} (f : Stage → X) → SeesSizes f → (l : Linear) (cs ds : List ColumnClaim) → map place_of cs ≡ map place_of ds → f (enter_linear l cs) ≡ f (enter_linear l ds)
same_linear f s (linear.waiting l) cs ds e = same_claim f (λ c. Combines (linear.stated l c)) (s.combined l) l.table l.column cs ds e
same_linear f s (linear.stated l c) cs ds e = refl
same_linear f s (linear.told es) cs ds e = refl

same_project : {X : Type 0} (f : Stage → X) → SeesSizes f → (p : Project) (cs ds : List ColumnClaim) → map place_of cs ≡ map place_of ds → f (enter_project p cs) ≡ f (enter_project p ds)
same_project f s (project.waiting p) cs ds e = same_claim f (λ c. Claimed (projected_claim p c)) (s.projected p) p.table p.column cs ds e
same_project f s (project.closed c) cs ds e = refl

same_pack : {X : Type 0} (f : Stage → X) → SeesSizes f → (p : Pack) (cs ds : List ColumnClaim) → map place_of cs ≡ map place_of ds → f (enter_pack p cs) ≡ f (enter_pack p ds)
same_pack f s (pack.waiting p) cs ds e = same_claim f (λ c. Packs (pack.stated p c)) (s.packed p) p.table p.column cs ds e
same_pack f s (pack.stated p c) cs ds e = refl
same_pack f s (pack.listed p z prefix v n) cs ds e = refl
same_pack f s (pack.closed c) cs ds e = refl

same_shift : {X : Type 0} (f : Stage → X) → SeesSizes f → (h : Shift) (cs ds : List ColumnClaim) → map place_of cs ≡ map place_of ds → f (enter_shift h cs) ≡ f (enter_shift h ds)
same_shift f s (shift.waiting h) cs ds e = same_claim f (λ c. Shifts (stated_sum h c)) (s.shifted h) h.table h.column cs ds e
same_shift f s (shift.summed x) cs ds e = refl

same_bits : {X : Type 0} (f : Stage → X) → SeesSizes f → (b : Batching) (cs ds : List ColumnClaim) → map place_of cs ≡ map place_of ds → f (enter_bits b cs) ≡ f (enter_bits b ds)
same_bits f s (batch.waiting bs m) cs ds e =
    s.batched bs (by_column (filter (has_block bs) cs)) (by_column (filter (has_block bs) ds))
    (length-by_column (filter (has_block bs) cs) ∙ same_count place_of (filter (has_block bs) cs) (filter (has_block bs) ds) (same_filtered place_of (place_has_block bs) cs ds e) ∙ sym (length-by_column (filter (has_block bs) ds)))
same_bits f s (batch.opening bs es) cs ds e = refl
same_bits f s (batch.summed x) cs ds e = refl

same_entered : {X : Type 0} (f : Stage → X) → SeesSizes f → (g : Stage) (w v : Kept) → sizes w ≡ sizes v → f (entered g w) ≡ f (entered g v)
same_entered f s Start w v e = refl
same_entered f s (Channels b) w v e = refl
same_entered f s (Flush d) w v e = same_flush f s w.products v.products (ap (λ (k : Sizes). k.products) e)
same_entered f s (Constraints z) w v e = refl
same_entered f s (Merges m) w v e = same_merge f s m.table m.column m.walk w.columns v.columns (ap (λ (k : Sizes). k.columns) e)
same_entered f s (Combines l) w v e = same_linear f s l w.columns v.columns (ap (λ (k : Sizes). k.columns) e)
same_entered f s (Projects p) w v e = same_project f s p w.columns v.columns (ap (λ (k : Sizes). k.columns) e)
same_entered f s (Claimed c) w v e = refl
same_entered f s (Packs p) w v e = same_pack f s p w.columns v.columns (ap (λ (k : Sizes). k.columns) e)
same_entered f s (Shifts h) w v e = same_shift f s h w.columns v.columns (ap (λ (k : Sizes). k.columns) e)
same_entered f s (Bits b) w v e = same_bits f s b w.columns v.columns (ap (λ (k : Sizes). k.columns) e)
same_entered f s (Words x) w v e = same_switch f s w.bits v.bits (ap (λ (k : Sizes). k.bits) e)
same_entered f s (Switch x) w v e = refl

-- ---- what is due, and what will be left
descending_entries : (f : Flushed) (a g k d : ℕ) (z : List ℕ) (c : ℕ) → descent.descent.entries (descent.descending f a g k d z c) ≡ descent.layer_entries f k d
descending_entries f a g k zero z c = refl
descending_entries f a g k (suc d) z c = refl

after_seven : (z y : List ℕ) → length z ≡ length y → length (drop 7 z) ≡ length (drop 7 y)
after_seven z y e = length-drop 7 z ∙ ap (λ n. n - 7) e ∙ sym (length-drop 7 y)

entries_see : SeesSizes staged.entries
entries_see = record {
  flush = λ p q e. descending_entries p.flushed p.alpha p.gamma 0 (row_vars p.flushed) [] p.value ∙ ap (λ f. descent.layer_entries f 0 (row_vars f)) e ∙ sym (descending_entries q.flushed q.alpha q.gamma 0 (row_vars q.flushed) [] q.value);
  merged = λ t c n cs ds e. ap (λ k. Draw MergeDraw (k - 1) ∷ (rounds MergeRound 2 n ++ Message MergeFinal 1 ∷ [])) e;
  combined = λ l c d e. refl;
  projected = λ p c d e. refl;
  packed = λ p c d e. refl;
  shifted = λ s c d e. refl;
  batched = λ bs cs ds e. ap (λ k. Draw BitBatch (k - 1) ∷ (rounds BitRound 2 (places_log bs) ++ Message BitFinal 1 ∷ [])) e;
  switched = λ b c e. ap (λ n. Message Tensor 128 ∷ switch.coordinate_entries 7 n) (after_seven b.point c.point e);
}

left_sees : (k : Sizes) → SeesSizes (λ a. sizes_left a k)
left_sees k = record {
  flush = λ p q e. ap (λ ps. record k { columns = k.columns ++ ps })
      (descending_places p.flushed p.alpha p.gamma 0 (row_vars p.flushed) [] p.value ∙ ap (λ f. flush_places f (row_vars f)) e ∙ sym (descending_places q.flushed q.alpha q.gamma 0 (row_vars q.flushed) [] q.value));
  merged = λ t c n cs ds e. refl;
  combined = λ l c d e. ap (λ (p : Place). record k { columns = k.columns ++ term_places p.table p.vars l.terms }) e;
  projected = λ p c d e. ap (λ n. record k { columns = k.columns ++ record { table = p.table; column = p.source; vars = n } ∷ [] })
      (length-append (bits_of p.log p.index) c.point ∙ ap (λ (q : Place). length (bits_of p.log p.index) + q.vars) e ∙ sym (length-append (bits_of p.log p.index) d.point));
  packed = λ p c d e. ap (λ (q : Place). record k { columns = k.columns ++ record { table = p.table; column = p.source; vars = p.log + q.vars } ∷ [] }) e;
  shifted = λ s c d e. ap (λ (q : Place). record k { columns = k.columns ++ record { table = s.table; column = s.source; vars = 0 + s.block + (q.vars - s.block) } ∷ [] }) e;
  batched = λ bs cs ds e. refl;
  switched = λ b c e. ap (λ n. record k { packed = k.packed ++ n ∷ [] }) (after_seven b.point c.point e);
}

-- ---- the sizes of what stays
same_columns : (w v : Kept) (cs ds : List ColumnClaim) → sizes w ≡ sizes v → map place_of cs ≡ map place_of ds → sizes (record w { columns = cs }) ≡ sizes (record v { columns = ds })
same_columns w v cs ds e p = (λ i. record (e i) { columns = p i })

stays_merge : (t c : ℕ) (m : Merge) (cs ds : List ColumnClaim) → map place_of cs ≡ map place_of ds → map place_of (stay_merge t c m cs) ≡ map place_of (stay_merge t c m ds)
stays_merge t c (merge.waiting n m) cs ds e = same_filtered place_of (is_elsewhere t c) cs ds e
stays_merge t c (merge.opening t' c' n es) cs ds e = e
stays_merge t c (merge.summed x) cs ds e = e

stays_linear : (l : Linear) (cs ds : List ColumnClaim) → map place_of cs ≡ map place_of ds → map place_of (stay_linear l cs) ≡ map place_of (stay_linear l ds)
stays_linear (linear.waiting l) cs ds e = same_others l.table l.column cs ds e
stays_linear (linear.stated l c) cs ds e = e
stays_linear (linear.told es) cs ds e = e

stays_project : (p : Project) (cs ds : List ColumnClaim) → map place_of cs ≡ map place_of ds → map place_of (stay_project p cs) ≡ map place_of (stay_project p ds)
stays_project (project.waiting p) cs ds e = same_others p.table p.column cs ds e
stays_project (project.closed c) cs ds e = e

stays_pack : (p : Pack) (cs ds : List ColumnClaim) → map place_of cs ≡ map place_of ds → map place_of (stay_pack p cs) ≡ map place_of (stay_pack p ds)
stays_pack (pack.waiting p) cs ds e = same_others p.table p.column cs ds e
stays_pack (pack.stated p c) cs ds e = e
stays_pack (pack.listed p z prefix v n) cs ds e = e
stays_pack (pack.closed c) cs ds e = e

stays_shift : (h : Shift) (cs ds : List ColumnClaim) → map place_of cs ≡ map place_of ds → map place_of (stay_shift h cs) ≡ map place_of (stay_shift h ds)
stays_shift (shift.waiting h) cs ds e = same_others h.table h.column cs ds e
stays_shift (shift.summed x) cs ds e = e

stay_with_bits : (b : Batching) (cs ds : List ColumnClaim) → map place_of cs ≡ map place_of ds → map place_of (stay_bits b cs) ≡ map place_of (stay_bits b ds)
stay_with_bits (batch.waiting bs m) cs ds e = same_filtered place_of (place_has_no_block bs) cs ds e
stay_with_bits (batch.opening bs es) cs ds e = e
stay_with_bits (batch.summed x) cs ds e = e

same_staying : (g : Stage) (w v : Kept) → sizes w ≡ sizes v → sizes (staying g w) ≡ sizes (staying g v)
same_staying Start w v e = e
same_staying (Channels b) w v e = e
same_staying (Flush d) w v e = let p = same_rest (λ (p : Product). p.flushed) w.products v.products (ap (λ (k : Sizes). k.products) e) in (λ i. record (e i) { products = p i })
same_staying (Constraints z) w v e = e
same_staying (Merges m) w v e = same_columns w v _ _ e (stays_merge m.table m.column m.walk w.columns v.columns (ap (λ (k : Sizes). k.columns) e))
same_staying (Combines l) w v e = same_columns w v _ _ e (stays_linear l w.columns v.columns (ap (λ (k : Sizes). k.columns) e))
same_staying (Projects p) w v e = same_columns w v _ _ e (stays_project p w.columns v.columns (ap (λ (k : Sizes). k.columns) e))
same_staying (Claimed c) w v e = e
same_staying (Packs p) w v e = same_columns w v _ _ e (stays_pack p w.columns v.columns (ap (λ (k : Sizes). k.columns) e))
same_staying (Shifts h) w v e = same_columns w v _ _ e (stays_shift h w.columns v.columns (ap (λ (k : Sizes). k.columns) e))
same_staying (Bits b) w v e = same_columns w v _ _ e (stay_with_bits b w.columns v.columns (ap (λ (k : Sizes). k.columns) e))
same_staying (Words x) w v e = let p = same_rest (λ (b : BitValue). length b.point) w.bits v.bits (ap (λ (k : Sizes). k.bits) e) in (λ i. record (e i) { bits = p i })
same_staying (Switch x) w v e = e

-- ---- claims of given sizes
blank_points : (ns : List ℕ) → map (λ (b : BitValue). length b.point) (map (λ n. record { blocks = []; point = zeros n; value = 0 }) ns) ≡ ns
blank_points [] = refl
blank_points (n ∷ ns) = (λ i. length-tabulate n (λ p. 0) i ∷ blank_points ns i)

blank_words : (ns : List ℕ) → map (λ (p : Packed). length p.point) (map (λ n. record { blocks = []; point = zeros n; value = 0 }) ns) ≡ ns
blank_words [] = refl
blank_words (n ∷ ns) = (λ i. length-tabulate n (λ p. 0) i ∷ blank_words ns i)

blank_flushes : (fs : List Flushed) → map (λ (p : Product). p.flushed) (map (λ (f : Flushed). record { flushed = f; alpha = 0; gamma = 0; value = 0 }) fs) ≡ fs
blank_flushes [] = refl
blank_flushes (f ∷ fs) = ap (λ l. f ∷ l) (blank_flushes fs)

blank_places : (ps : List Place) → map place_of (map blank_claim ps) ≡ ps
blank_places [] = refl
blank_places (p ∷ ps) = (λ i. record { table = p.table; column = p.column; vars = length-tabulate p.vars (λ p. 0) i } ∷ blank_places ps i)

blank_sizes : (k : Sizes) → sizes (blank k) ≡ k
blank_sizes k = (λ i. record { products = blank_flushes k.products i; columns = blank_places k.columns i; bits = blank_points k.bits i; packed = blank_words k.packed i; room = k.room })

pub enter_plan : (g : Stage) (w : Kept) → staged.entries (entered g w) ≡ plan_with g (sizes w)
enter_plan g w = same_entered staged.entries entries_see g w (blank (sizes w)) (sym (blank_sizes (sizes w)))

pub enter_key : (g : Stage) (w : Kept) → sizes_left (entered g w) (sizes (staying g w)) ≡ sizes_after g (sizes w)
enter_key g w =
    let alike = sym (blank_sizes (sizes w)) in
    same_entered (λ a. sizes_left a (sizes (staying g w))) (left_sees (sizes (staying g w))) g w (blank (sizes w)) alike
    ∙ ap (sizes_left (entered g (blank (sizes w)))) (same_staying g w (blank (sizes w)) alike)
