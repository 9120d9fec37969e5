-- What code asks when a reduction is entered and when it leaves its claims.
use Rattle.std.proofs.Common.{◌≡◌, ◌≢◌, ◌∙◌, ◌+◌, ◌<◌, ◌≤◌, ℕ, zero, suc, List, [], ◌∷◌, ◌++◌, length, map, Some, refl, sym, ap, subst, arith}
use Rattle.std.specs.Option.{IsSome}
use Rattle.std.proofs.lemmas.List.{append-nil, length-append, length-map}
use Rattle.std.specs.List.{AllByRecursion}
use Rattle.claim_lists.specs.ByColumn.{by_column}
use Rattle.claim_lists.specs.OnColumn.{first_on, on_column}
use Rattle.sumcheck.specs.declared.column_claim.ColumnClaim.{ColumnClaim}
use Rattle.sumcheck.specs.Claim.{column_value}
use Rattle.sumcheck.specs.Rounds.{round_claim, sum_claim}
use Rattle.sumcheck.specs.Summing.{adding, closed}
use Rattle.channel_products.specs.declared.channels.Channels.{Channels as Parts}
use Rattle.channel_products.specs.declared.flushed.Flushed.{Flushed}
use Rattle.channel_products.specs.Balancing as balance
use Rattle.channel_products.specs.Balancing.{Balancing, balancing, product_claims}
use Rattle.channel_products.specs.Descent as descent
use Rattle.channel_products.specs.Descent.{Descent, DescentIsDone}
use Rattle.zerocheck.specs.Zero as zero
use Rattle.zerocheck.specs.Zero.{Zero, zerocheck}
use Rattle.eval_reduce.specs.Virtual.{IsOn}
use Rattle.eval_reduce.specs.Linear as linear
use Rattle.eval_reduce.specs.Linear.{Combination, Linear, LinearTakes, linear_step}
use Rattle.eval_reduce.specs.Merge as merge
use Rattle.eval_reduce.specs.Merge.{Merge}
use Rattle.eval_reduce.specs.declared.packing.Packing.{Packing}
use Rattle.eval_reduce.specs.Pack as pack
use Rattle.eval_reduce.specs.Pack.{Pack, PackTakes}
use Rattle.eval_reduce.specs.declared.projection.Projection.{Projection}
use Rattle.eval_reduce.specs.Project as project
use Rattle.eval_reduce.specs.Project.{Project, ProjectTakes}
use Rattle.eval_reduce.specs.declared.shifting.Shifting.{Shifting}
use Rattle.eval_reduce.specs.Shift as shift
use Rattle.eval_reduce.specs.Shift.{Shift, ShiftTakes}
use Rattle.bit_claim.specs.Batching as batch
use Rattle.bit_claim.specs.Batching.{Batching, BitValue, batching}
use Rattle.bit_claim.specs.Bits.{IsPlaced}
use Rattle.ring_switch.specs.Switching as switch
use Rattle.ring_switch.specs.Switching.{PackedValue, Switching, switching}
use Rattle.m3_walk.specs.declared.stage.Stage.{Stage}
use Rattle.m3_walk.specs.declared.stage.Stage.TheVariants.{Start, Channels, Flush, Constraints, Merge as Merges, Linear as Combines, Project as Projects, Claimed, Pack as Packs, Shift as Shifts, Bits, Words, Switch}
use Rattle.m3_walk.specs.declared.product.Product.{Product}
use Rattle.m3_walk.specs.Kept.{Kept, Packed}
use Rattle.m3_walk.specs.Linked.{TakesLinear, TakesPack, TakesProject, TakesShift}
use Rattle.table_shape.specs.Placement.{Block}
use Rattle.m3_walk.specs.Linking.{IsOne, TakesBits, TakesMerge, balance_flushes, bits_left, descent_left, enter_bits, left, linear_left, merge_left, pack_left, packed_left, packed_sizes, place_of, products_left, products_with, shift_left, stay_bits, zero_left}
use Rattle.m3_walk.specs.Stages.{staged}
use Rattle.m3_walk.specs.Taking.{BatchTakes, MergeTakes}
use Rattle.m3_walk.proofs.Entering.{length-by_column}
use Rattle.m3_walk.proofs.KeptSteps.{length-products_with}
use Rattle.m3_walk.proofs.Leaving.{still_due}
use Rattle.m3_walk.proofs.Parts.{ordered_all}
use Rattle.m3_walk.proofs.TakesSteps.{bit_claims, merge_claims, one_claim}

-- ---- the claim of a virtual column
found : (t c n : ℕ) (cs : List ColumnClaim) (a b : ℕ) → IsOne t c n (map place_of cs) → a ≡ t → b ≡ c → IsSome (first_on a b cs)
found t c n cs a b h p q = subst IsSome (sym ((λ i. first_on (p i) (q i) cs) ∙ (one_claim t c n cs h).found)) refl

taken : (t c n : ℕ) (cs : List ColumnClaim) (a b : ℕ) (claim : ColumnClaim) → IsOne t c n (map place_of cs) → a ≡ t → b ≡ c → first_on a b cs ≡ Some claim → IsOn t c n claim
taken t c n cs a b claim h p q e =
    let one = one_claim t c n cs h in
    subst (IsOn t c n) (some_is one.claim claim (sym one.found ∙ (λ i. first_on (sym p i) (sym q i) cs) ∙ e)) one.on
  where
    some_is : (x y : ColumnClaim) → Some x ≡ Some y → x ≡ y
    some_is x y s = cc

pub linear_found : (l : Linear) (cs : List ColumnClaim) (a b : ℕ) → TakesLinear l (map place_of cs) → ((f : Combination) → l ≡ linear.waiting f → (a ≡ f.table) × (b ≡ f.column)) → IsSome (first_on a b cs)
linear_found (linear.waiting f) cs a b h at = found f.table f.column f.vars cs a b h (at f refl).0 (at f refl).1
linear_found (linear.stated f c) cs a b h at = absurd h
linear_found (linear.told ds) cs a b h at = absurd h

pub linear_taken : (l : Linear) (cs : List ColumnClaim) (a b : ℕ) (claim : ColumnClaim) → TakesLinear l (map place_of cs) → ((f : Combination) → l ≡ linear.waiting f → (a ≡ f.table) × (b ≡ f.column)) → first_on a b cs ≡ Some claim → LinearTakes claim l
linear_taken (linear.waiting f) cs a b claim h at e = taken f.table f.column f.vars cs a b claim h (at f refl).0 (at f refl).1 e
linear_taken (linear.stated f c) cs a b claim h at e = absurd h
linear_taken (linear.told ds) cs a b claim h at e = absurd h

pub project_found : (l : Project) (cs : List ColumnClaim) (a b : ℕ) → TakesProject l (map place_of cs) → ((f : Projection) → l ≡ project.waiting f → (a ≡ f.table) × (b ≡ f.column)) → IsSome (first_on a b cs)
project_found (project.waiting f) cs a b h at = found f.table f.column f.vars cs a b h (at f refl).0 (at f refl).1
project_found (project.closed d) cs a b h at = absurd h

pub project_taken : (l : Project) (cs : List ColumnClaim) (a b : ℕ) (claim : ColumnClaim) → TakesProject l (map place_of cs) → ((f : Projection) → l ≡ project.waiting f → (a ≡ f.table) × (b ≡ f.column)) → first_on a b cs ≡ Some claim → ProjectTakes claim l
project_taken (project.waiting f) cs a b claim h at e = taken f.table f.column f.vars cs a b claim h (at f refl).0 (at f refl).1 e
project_taken (project.closed d) cs a b claim h at e = absurd h

pub pack_found : (l : Pack) (cs : List ColumnClaim) (a b : ℕ) → TakesPack l (map place_of cs) → ((f : Packing) → l ≡ pack.waiting f → (a ≡ f.table) × (b ≡ f.column)) → IsSome (first_on a b cs)
pack_found (pack.waiting f) cs a b h at = found f.table f.column f.vars cs a b h (at f refl).0 (at f refl).1
pack_found (pack.stated f d) cs a b h at = absurd h
pack_found (pack.listed f z prefix v n) cs a b h at = absurd h
pack_found (pack.closed d) cs a b h at = absurd h

pub pack_taken : (l : Pack) (cs : List ColumnClaim) (a b : ℕ) (claim : ColumnClaim) → TakesPack l (map place_of cs) → ((f : Packing) → l ≡ pack.waiting f → (a ≡ f.table) × (b ≡ f.column)) → first_on a b cs ≡ Some claim → PackTakes claim l
pack_taken (pack.waiting f) cs a b claim h at e = taken f.table f.column f.vars cs a b claim h (at f refl).0 (at f refl).1 e
pack_taken (pack.stated f d) cs a b claim h at e = absurd h
pack_taken (pack.listed f z prefix v n) cs a b claim h at e = absurd h
pack_taken (pack.closed d) cs a b claim h at e = absurd h

pub shift_found : (l : Shift) (cs : List ColumnClaim) (a b : ℕ) → TakesShift l (map place_of cs) → ((f : Shifting) → l ≡ shift.waiting f → (a ≡ f.table) × (b ≡ f.column)) → IsSome (first_on a b cs)
shift_found (shift.waiting f) cs a b h at = found f.table f.column f.vars cs a b h (at f refl).0 (at f refl).1
shift_found (shift.summed t) cs a b h at = absurd h

pub shift_taken : (l : Shift) (cs : List ColumnClaim) (a b : ℕ) (claim : ColumnClaim) → TakesShift l (map place_of cs) → ((f : Shifting) → l ≡ shift.waiting f → (a ≡ f.table) × (b ≡ f.column)) → first_on a b cs ≡ Some claim → ShiftTakes claim l
shift_taken (shift.waiting f) cs a b claim h at e = taken f.table f.column f.vars cs a b claim h (at f refl).0 (at f refl).1 e
shift_taken (shift.summed t) cs a b claim h at e = absurd h

-- ---- a merge and a batch
pub merge_ready : (t c : ℕ) (w : Merge) (cs : List ColumnClaim) → TakesMerge t c w (map place_of cs) → MergeTakes t c (on_column t c cs) w
merge_ready t c (merge.waiting n m) cs h = let k = merge_claims t c n m cs h in (k.several, (k.few, k.on))
merge_ready t c (merge.opening t' c' n ds) cs h = absurd h
merge_ready t c (merge.summed s) cs h = absurd h

pub batch_ready : (b : Batching) (cs : List ColumnClaim) → TakesBits b (map place_of cs) → BatchTakes cs b
batch_ready (batch.waiting bs m) cs h =
    let k = bit_claims bs m cs h in
    (let few = k.few in let e = length-by_column cs in omega (arith, few, e), ordered_all (IsPlaced bs) cs k.placed)
batch_ready (batch.opening bs ds) cs h = absurd h
batch_ready (batch.summed s) cs h = absurd h

pub batch_entered : (b : Batching) (cs : List ColumnClaim) → TakesBits b (map place_of cs) → Bits (batch.state_claims (by_column cs) b) ≡ enter_bits b cs
batch_entered (batch.waiting bs m) cs h = ap (λ ds. Bits (batch.opening bs (by_column ds))) (sym (bit_claims bs m cs h).all_taken)
batch_entered (batch.opening bs ds) cs h = absurd h
batch_entered (batch.summed s) cs h = absurd h

pub batch_stays : (b : Batching) (cs : List ColumnClaim) → TakesBits b (map place_of cs) → [] ≡ stay_bits b cs
batch_stays (batch.waiting bs m) cs h = sym (bit_claims bs m cs h).none_stay
batch_stays (batch.opening bs ds) cs h = absurd h
batch_stays (batch.summed s) cs h = absurd h

-- ---- a reduction that is done and has claims
pub flush_done : (d : Descent) → descent.descent.entries d ≡ [] → 0 < length (descent.descent.pending d) → DescentIsDone d
flush_done (descent.waiting f) e l = absurd (omega arith)
flush_done (descent.layers (adding t (sum_claim d zero z c))) e l = absurd (still_due _ _ e)
flush_done (descent.layers (adding t (sum_claim d (suc n) z c))) e l = absurd (still_due _ _ e)
flush_done (descent.layers (adding t (round_claim d n z v))) e l = absurd (still_due _ _ e)
flush_done (descent.layers (closed p)) e l = absurd (still_due _ _ e)
flush_done (descent.leaves (adding t (sum_claim d zero z c))) e l = absurd (still_due _ _ e)
flush_done (descent.leaves (adding t (sum_claim d (suc n) z c))) e l = absurd (still_due _ _ e)
flush_done (descent.leaves (adding t (round_claim d n z v))) e l = absurd (still_due _ _ e)
flush_done (descent.leaves (closed cs)) e l = tt

pub bits_done : (b : Batching) → batching.entries b ≡ [] → 0 < length (batching.pending b) → batch.IsDone b
bits_done (batch.waiting bs m) e l = absurd (omega arith)
bits_done (batch.opening bs cs) e l = absurd (still_due _ _ e)
bits_done (batch.summed (adding t (sum_claim d zero z c))) e l = absurd (still_due _ _ e)
bits_done (batch.summed (adding t (sum_claim d (suc n) z c))) e l = absurd (still_due _ _ e)
bits_done (batch.summed (adding t (round_claim d n z v))) e l = absurd (still_due _ _ e)
bits_done (batch.summed (closed b)) e l = tt

pub switch_done : (s : Switching) → switching.entries s ≡ [] → 0 < length (switching.pending s) → switch.IsDone s
switch_done (switch.waiting n) e l = absurd (omega arith)
switch_done (switch.valued z x) e l = absurd (still_due _ _ e)
switch_done (switch.rowed h p rows n) e l = absurd (still_due _ _ e)
switch_done (switch.summed (adding t (sum_claim d zero z c))) e l = absurd (still_due _ _ e)
switch_done (switch.summed (adding t (sum_claim d (suc n) z c))) e l = absurd (still_due _ _ e)
switch_done (switch.summed (adding t (round_claim d n z v))) e l = absurd (still_due _ _ e)
switch_done (switch.summed (closed p)) e l = tt

-- there is room for the products that channels leave
pub channels_room : (b : Balancing) (ps : List Product) (fs : List Flushed) (vs : List ℕ) (room : ℕ) → balancing.entries b ≡ [] → 0 < length (balancing.pending b)
    → ((ch : Parts) (a g : ℕ) (v : List ℕ) → b ≡ balance.told ch a g v → (fs ≡ ch.flushes) × (vs ≡ v)) → length vs ≤ length fs
    → length (map (λ (p : Product). p.flushed) ps ++ balance_flushes b) ≤ room → length ps + length vs ≤ room
channels_room (balance.waiting ch) ps fs vs room e l told few h = absurd (omega arith)
channels_room (balance.stated ch) ps fs vs room e l told few h = absurd (still_due _ _ e)
channels_room (balance.collapsing ch a) ps fs vs room e l told few h = absurd (still_due _ _ e)
channels_room (balance.multiplying ch a g) ps fs vs room e l told few h = absurd (still_due _ _ e)
channels_room (balance.told ch a g v) ps fs vs room e l told few h =
    let same = told ch a g v refl in
    let flushed : Product → Flushed = λ p. p.flushed in
    let flushes = ap length same.0 in
    let values = ap length same.1 in
    let products = length-products_with a g ch.flushes v (omega (arith, few, flushes, values)) in
    let joined = length-append (map flushed ps) (map flushed (products_with a g ch.flushes v)) in
    let before = length-map ps flushed in
    let new = length-map (products_with a g ch.flushes v) flushed in
    omega (arith, products, joined, before, new, values, h)

-- ---- a reduction that is done and has no claim leaves none
none_more : {X : Type 0} (f : List X → Kept) (xs ys : List X) → ys ≡ [] → f xs ≡ f (xs ++ ys)
none_more f xs ys e = ap f (sym (append-nil xs) ∙ ap (λ l. xs ++ l) (sym e))

no_claims : (cs : List ColumnClaim) → length (map column_value cs) ≡ 0 → cs ≡ []
no_claims [] e = refl
no_claims (c ∷ cs) e = absurd cc

no_products : (a g : ℕ) (fs : List Flushed) (v : List ℕ) → length (product_claims a g fs v) ≡ 0 → products_with a g fs v ≡ []
no_products a g [] v e = refl
no_products a g (f ∷ fs) [] e = refl
no_products a g (f ∷ fs) (x ∷ v) e = absurd cc

channels_none : (b : Balancing) → balancing.entries b ≡ [] → length (balancing.pending b) ≡ 0 → products_left b ≡ []
channels_none (balance.waiting ch) e l = refl
channels_none (balance.stated ch) e l = refl
channels_none (balance.collapsing ch a) e l = refl
channels_none (balance.multiplying ch a g) e l = refl
channels_none (balance.told ch a g v) e l = no_products a g ch.flushes v l

flush_none : (s : Descent) → descent.descent.entries s ≡ [] → length (descent.descent.pending s) ≡ 0 → descent_left s ≡ []
flush_none (descent.waiting f) e l = refl
flush_none (descent.layers (adding t (sum_claim d zero z c))) e l = absurd (still_due _ _ e)
flush_none (descent.layers (adding t (sum_claim d (suc n) z c))) e l = absurd (still_due _ _ e)
flush_none (descent.layers (adding t (round_claim d n z v))) e l = absurd (still_due _ _ e)
flush_none (descent.layers (closed p)) e l = absurd (still_due _ _ e)
flush_none (descent.leaves (adding t (sum_claim d zero z c))) e l = absurd (still_due _ _ e)
flush_none (descent.leaves (adding t (sum_claim d (suc n) z c))) e l = absurd (still_due _ _ e)
flush_none (descent.leaves (adding t (round_claim d n z v))) e l = absurd (still_due _ _ e)
flush_none (descent.leaves (closed cs)) e l = no_claims cs l

zeros_none : (s : Zero) → zerocheck.entries s ≡ [] → length (zerocheck.pending s) ≡ 0 → zero_left s ≡ []
zeros_none (zero.waiting g) e l = refl
zeros_none (zero.stated g) e l = absurd (still_due _ _ e)
zeros_none (zero.vector g beta prefix n) e l = absurd (still_due _ _ e)
zeros_none (zero.summed (adding t (sum_claim d zero z c))) e l = absurd (still_due _ _ e)
zeros_none (zero.summed (adding t (sum_claim d (suc n) z c))) e l = absurd (still_due _ _ e)
zeros_none (zero.summed (adding t (round_claim d n z v))) e l = absurd (still_due _ _ e)
zeros_none (zero.summed (closed cs)) e l = no_claims cs l

merge_none : (s : Merge) → merge.merge.entries s ≡ [] → length (merge.merge.pending s) ≡ 0 → merge_left s ≡ []
merge_none (merge.waiting n m) e l = refl
merge_none (merge.opening t c n cs) e l = absurd (still_due _ _ e)
merge_none (merge.summed (adding t (sum_claim d zero z c))) e l = absurd (still_due _ _ e)
merge_none (merge.summed (adding t (sum_claim d (suc n) z c))) e l = absurd (still_due _ _ e)
merge_none (merge.summed (adding t (round_claim d n z v))) e l = absurd (still_due _ _ e)
merge_none (merge.summed (closed c)) e l = absurd cc

linear_none : (s : Linear) → linear_step.entries s ≡ [] → length (linear_step.pending s) ≡ 0 → linear_left s ≡ []
linear_none (linear.waiting f) e l = refl
linear_none (linear.stated f c) e l = absurd (still_due _ _ e)
linear_none (linear.told cs) e l = no_claims cs l

pack_none : (s : Pack) → pack.pack.entries s ≡ [] → length (pack.pack.pending s) ≡ 0 → pack_left s ≡ []
pack_none (pack.waiting f) e l = refl
pack_none (pack.stated f c) e l = absurd (still_due _ _ e)
pack_none (pack.listed f z prefix v n) e l = absurd (still_due _ _ e)
pack_none (pack.closed c) e l = absurd cc

shift_none : (s : Shift) → shift.shift.entries s ≡ [] → length (shift.shift.pending s) ≡ 0 → shift_left s ≡ []
shift_none (shift.waiting s) e l = refl
shift_none (shift.summed (adding t (sum_claim d zero z c))) e l = absurd (still_due _ _ e)
shift_none (shift.summed (adding t (sum_claim d (suc n) z c))) e l = absurd (still_due _ _ e)
shift_none (shift.summed (adding t (round_claim d n z v))) e l = absurd (still_due _ _ e)
shift_none (shift.summed (closed c)) e l = absurd cc

bits_none : (s : Batching) → batching.entries s ≡ [] → length (batching.pending s) ≡ 0 → bits_left s ≡ []
bits_none (batch.waiting bs m) e l = refl
bits_none (batch.opening bs cs) e l = absurd (still_due _ _ e)
bits_none (batch.summed (adding t (sum_claim d zero z c))) e l = absurd (still_due _ _ e)
bits_none (batch.summed (adding t (sum_claim d (suc n) z c))) e l = absurd (still_due _ _ e)
bits_none (batch.summed (adding t (round_claim d n z v))) e l = absurd (still_due _ _ e)
bits_none (batch.summed (closed b)) e l = absurd cc

switch_none : (bs : List Block) (s : Switching) → switching.entries s ≡ [] → length (switching.pending s) ≡ 0 → packed_left bs s ≡ []
switch_none bs (switch.waiting n) e l = refl
switch_none bs (switch.valued z x) e l = absurd (still_due _ _ e)
switch_none bs (switch.rowed h p rows n) e l = absurd (still_due _ _ e)
switch_none bs (switch.summed (adding t (sum_claim d zero z c))) e l = absurd (still_due _ _ e)
switch_none bs (switch.summed (adding t (sum_claim d (suc n) z c))) e l = absurd (still_due _ _ e)
switch_none bs (switch.summed (adding t (round_claim d n z v))) e l = absurd (still_due _ _ e)
switch_none bs (switch.summed (closed p)) e l = absurd cc

pub none_left : (s : Stage) (w : Kept) → staged.entries s ≡ [] → length (staged.pending s) ≡ 0 → w ≡ left s w
none_left Start w e l = refl
none_left (Channels b) w e l = none_more (λ ps. record w { products = ps }) w.products (products_left b) (channels_none b e l)
none_left (Flush d) w e l = none_more (λ cs. record w { columns = cs }) w.columns (descent_left d) (flush_none d e l)
none_left (Constraints z) w e l = none_more (λ cs. record w { columns = cs }) w.columns (zero_left z) (zeros_none z e l)
none_left (Merges m) w e l = none_more (λ cs. record w { columns = cs }) w.columns (merge_left m.walk) (merge_none m.walk e l)
none_left (Combines s) w e l = none_more (λ cs. record w { columns = cs }) w.columns (linear_left s) (linear_none s e l)
none_left (Projects p) w e l = refl
none_left (Claimed c) w e l = absurd cc
none_left (Packs p) w e l = none_more (λ cs. record w { columns = cs }) w.columns (pack_left p) (pack_none p e l)
none_left (Shifts s) w e l = none_more (λ cs. record w { columns = cs }) w.columns (shift_left s) (shift_none s e l)
none_left (Bits b) w e l = none_more (λ bs. record w { bits = bs }) w.bits (bits_left b) (bits_none b e l)
none_left (Words s) w e l = refl
none_left (Switch s) w e l = none_more (λ ps. record w { packed = ps }) w.packed (packed_left s.placement s.walk) (switch_none s.placement s.walk e l)

-- ---- the value of the packed table
pub none_packed : (bs : List Block) (s : Switching) (ps : List Packed) → switch.IsDone s → length (map (λ (p : Packed). length p.point) ps ++ packed_sizes s) ≤ 1 → ps ≡ []
none_packed bs (switch.waiting n) ps d h = absurd d
none_packed bs (switch.valued z x) ps d h = absurd d
none_packed bs (switch.rowed y p rows n) ps d h = absurd d
none_packed bs (switch.summed (adding t r)) ps d h = absurd d
none_packed bs (switch.summed (closed p)) [] d h = refl
none_packed bs (switch.summed (closed p)) (q ∷ ps) d h =
    let joined = length-append (map (λ (p : Packed). length p.point) ps) (length p.point ∷ []) in
    absurd (omega (arith, joined, h))

pub packed_left_is : (bs : List Block) (s : Switching) (w : Kept) (z : List ℕ) (v : ℕ) → switch.IsDone s → ((p : PackedValue) → s ≡ switch.summed (closed p) → (z ≡ p.point) × (v ≡ p.value)) → w.packed ≡ []
    → record w { packed = record { blocks = bs; point = z; value = v } ∷ [] } ≡ record w { packed = w.packed ++ packed_left bs s }
packed_left_is bs (switch.waiting n) w z v d told none = absurd d
packed_left_is bs (switch.valued y x) w z v d told none = absurd d
packed_left_is bs (switch.rowed y p rows n) w z v d told none = absurd d
packed_left_is bs (switch.summed (adding t r)) w z v d told none = absurd d
packed_left_is bs (switch.summed (closed p)) w z v d told none =
    let same = told p refl in
    λ i. record w { packed = sym none i ++ record { blocks = bs; point = same.0 i; value = same.1 i } ∷ [] }
