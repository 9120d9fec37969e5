-- What a reduction will leave is known from its start: a message or a draw doesn't change its sizes.
use Rattle.std.proofs.Common.{◌≡◌, ◌∙◌, ◌+◌, ◌-◌, ℕ, zero, suc, List, [], ◌∷◌, ◌++◌, length, map, drop, refl, sym, ap, arith}
use Rattle.std.proofs.lemmas.List.{length-append, length-drop, map-append}
use Rattle.cube_laws.specs.Extension.{fold_low}
use Rattle.sumcheck.specs.declared.column_claim.ColumnClaim.{ColumnClaim}
use Rattle.sumcheck.specs.Column.{column_claims}
use Rattle.sumcheck.specs.Machine.{AwaitsMessage}
use Rattle.sumcheck.specs.Rounds.{Rounds, round_claim, rounds_draw, sum_claim, variables}
use Rattle.sumcheck.specs.Summing.{adding, closed}
use Rattle.table_shape.specs.declared.shape.ShapeTerm.{ShapeTerm}
use Rattle.table_shape.specs.Placement.{Block, places_log}
use Rattle.channel_products.specs.declared.flushed.Flushed.{Flushed}
use Rattle.channel_products.specs.Balancing as balance
use Rattle.channel_products.specs.Balancing.{Balancing, balancing}
use Rattle.channel_products.specs.Descent as descent
use Rattle.channel_products.specs.Descent.{Descent, HasRows, Paired, leaf_columns, row_vars}
use Rattle.zerocheck.specs.Zero as zero
use Rattle.zerocheck.specs.Zero.{Zero, zerocheck}
use Rattle.zerocheck.specs.Group.{Group}
use Rattle.eval_reduce.specs.Linear as linear
use Rattle.eval_reduce.specs.Linear.{Linear, linear_step, term_claims}
use Rattle.eval_reduce.specs.Merge as merge
use Rattle.eval_reduce.specs.Merge.{Merge}
use Rattle.eval_reduce.specs.Pack as pack
use Rattle.eval_reduce.specs.Pack.{Pack}
use Rattle.eval_reduce.specs.declared.packing.Packing.{Packing}
use Rattle.eval_reduce.specs.Shift as shift
use Rattle.eval_reduce.specs.Shift.{Shift}
use Rattle.bit_claim.specs.Batching as batch
use Rattle.bit_claim.specs.Batching.{Batching, BitValue, batching}
use Rattle.ring_switch.specs.Switching as switch
use Rattle.ring_switch.specs.Switching.{Switching, switching}
use Rattle.m3_walk.specs.declared.stage.Stage.{Stage}
use Rattle.m3_walk.specs.declared.stage.Stage.TheVariants.{Start, Channels, Flush, Constraints, Merge as Merges, Linear as Combines, Project as Projects, Claimed, Pack as Packs, Shift as Shifts, Bits, Words, Switch}
use Rattle.m3_walk.specs.declared.product.Product.{Product}
use Rattle.m3_walk.specs.Kept.{Kept, Packed}
use Rattle.m3_walk.specs.Linking.{Place, Sizes, balance_flushes, bits_left, bits_sizes, descent_left, descent_places, flush_places, left, linear_left, merge_left, pack_left, packed_left, products_left, shift_left, zero_left, linear_places, merge_places, pack_places, packed_sizes, place_of, places_on, products_with, shift_places, sizes, sizes_left, term_places, zero_places}
use Rattle.m3_walk.specs.Stages.{staged}
use Rattle.m3_walk.proofs.Leaving.{still_due}

-- ---- sizes of rounds
none_left : (z : List ℕ) → length z + 0 ≡ length z
none_left z = omega arith

none_set : (n : ℕ) → 0 + n ≡ n
none_set n = omega arith

drawn_variables : (r : Rounds) (x : ℕ) → variables (rounds_draw r x) ≡ variables r
drawn_variables (sum_claim d n z c) x = refl
drawn_variables (round_claim d n z v) x = let long = length-append z (x ∷ []) in omega arith

-- ---- claims told
told_places : (t : ℕ) (z : List ℕ) (cs v : List ℕ) → length v ≡ length cs → map place_of (column_claims t z cs v) ≡ places_on t (length z) cs
told_places t z [] v l = refl
told_places t z (c ∷ cs) [] l = absurd (too_short l)
  where
    too_short : zero ≡ suc (length cs) → ⊥
    too_short e = cc
told_places t z (c ∷ cs) (x ∷ v) l = ap (λ ps. record { table = t; column = c; vars = length z } ∷ ps) (told_places t z cs v (less l))
  where
    less : suc (length v) ≡ suc (length cs) → length v ≡ length cs
    less e = cc

told_terms : (c : ColumnClaim) (ts : List ShapeTerm) (v : List ℕ) → length v ≡ length ts → map place_of (term_claims c ts v) ≡ term_places c.table (length c.point) ts
told_terms c [] v l = refl
told_terms c (t ∷ ts) [] l = absurd (too_short l)
  where
    too_short : zero ≡ suc (length ts) → ⊥
    too_short e = cc
told_terms c (t ∷ ts) (x ∷ v) l = ap (λ ps. record { table = c.table; column = t.column; vars = length c.point } ∷ ps) (told_terms c ts v (less l))
  where
    less : suc (length v) ≡ suc (length ts) → length v ≡ length ts
    less e = cc

told_flushes : (a g : ℕ) (fs : List Flushed) (v : List ℕ) → length v ≡ length fs → map (λ (p : Product). p.flushed) (products_with a g fs v) ≡ fs
told_flushes a g [] v l = refl
told_flushes a g (f ∷ fs) [] l = absurd (too_short l)
  where
    too_short : zero ≡ suc (length fs) → ⊥
    too_short e = cc
told_flushes a g (f ∷ fs) (x ∷ v) l = ap (λ gs. f ∷ gs) (told_flushes a g fs v (less l))
  where
    less : suc (length v) ≡ suc (length fs) → length v ≡ length fs
    less e = cc

-- ---- a message
balance_told : (b : Balancing) (v : List ℕ) → AwaitsMessage (length v) (balancing.entries b) → balance_flushes (balancing.after_message b v) ≡ balance_flushes b
balance_told (balance.waiting ch) v d = refl
balance_told (balance.stated ch) v d = refl
balance_told (balance.collapsing ch a) v d = refl
balance_told (balance.multiplying ch a g) v d = told_flushes a g ch.flushes v d
balance_told (balance.told ch a g w) v d = refl

descent_told : (s : Descent) (v : List ℕ) → AwaitsMessage (length v) (descent.descent.entries s) → descent_places (descent.descent.after_message s v) ≡ descent_places s
descent_told (descent.waiting f) v d = refl
descent_told (descent.layers (adding t (sum_claim k zero z c))) v d = refl
descent_told (descent.layers (adding t (sum_claim k (suc n) z c))) v d = refl
descent_told (descent.layers (adding t (round_claim k n z w))) v d = refl
descent_told (descent.layers (closed p)) v d = refl
descent_told (descent.leaves (adding t (sum_claim k zero z c))) v d = told_places t.flushed.table z (leaf_columns t.flushed) v d ∙ ap (λ n. flush_places t.flushed n) (sym (none_left z))
descent_told (descent.leaves (adding t (sum_claim k (suc n) z c))) v d = refl
descent_told (descent.leaves (adding t (round_claim k n z w))) v d = refl
descent_told (descent.leaves (closed cs)) v d = refl

zero_told : (s : Zero) (v : List ℕ) → AwaitsMessage (length v) (zerocheck.entries s) → zero_places (zerocheck.after_message s v) ≡ zero_places s
zero_told (zero.waiting g) v d = refl
zero_told (zero.stated g) v d = refl
zero_told (zero.vector g beta prefix n) v d = refl
zero_told (zero.summed (adding t (sum_claim k zero z c))) v d = told_places t.group.table z t.group.columns v d ∙ ap (λ n. places_on t.group.table n t.group.columns) (sym (none_left z))
zero_told (zero.summed (adding t (sum_claim k (suc n) z c))) v d = refl
zero_told (zero.summed (adding t (round_claim k n z w))) v d = refl
zero_told (zero.summed (closed cs)) v d = refl

merge_told : (s : Merge) (v : List ℕ) → merge_places (merge.merge.after_message s v) ≡ merge_places s
merge_told (merge.waiting n m) v = refl
merge_told (merge.opening t c n cs) v = refl
merge_told (merge.summed (adding t (sum_claim k zero z c))) v = ap (λ n. record { table = t.table; column = t.column; vars = n } ∷ []) (sym (none_left z))
merge_told (merge.summed (adding t (sum_claim k (suc n) z c))) v = refl
merge_told (merge.summed (adding t (round_claim k n z w))) v = refl
merge_told (merge.summed (closed c)) v = refl

linear_told : (s : Linear) (v : List ℕ) → AwaitsMessage (length v) (linear_step.entries s) → linear_places (linear_step.after_message s v) ≡ linear_places s
linear_told (linear.waiting f) v d = refl
linear_told (linear.stated f c) v d = told_terms c f.terms v d
linear_told (linear.told cs) v d = refl

listed_places : (f : Packing) (z prefix v : List ℕ) (n : ℕ) → pack_places (pack.listing f z prefix v n) ≡ record { table = f.table; column = f.source; vars = length prefix + n + length z } ∷ []
listed_places f z prefix v zero = ap (λ n. record { table = f.table; column = f.source; vars = n } ∷ []) (let long = length-append prefix z in omega arith)
listed_places f z prefix v (suc n) = refl

pack_told : (s : Pack) (v : List ℕ) → pack_places (pack.pack.after_message s v) ≡ pack_places s
pack_told (pack.waiting f) v = refl
pack_told (pack.stated f c) v = listed_places f c.point [] v f.log ∙ ap (λ n. record { table = f.table; column = f.source; vars = n + length c.point } ∷ []) (none_set f.log)
pack_told (pack.listed f z prefix w n) v = refl
pack_told (pack.closed c) v = refl

shift_told : (s : Shift) (v : List ℕ) → shift_places (shift.shift.after_message s v) ≡ shift_places s
shift_told (shift.waiting s) v = refl
shift_told (shift.summed (adding t (sum_claim k zero z c))) v =
    ap (λ n. record { table = t.shifting.table; column = t.shifting.source; vars = n } ∷ []) (length-append z (drop t.shifting.block t.point) ∙ (λ i. sym (none_left z) i + length-drop t.shifting.block t.point i))
shift_told (shift.summed (adding t (sum_claim k (suc n) z c))) v = refl
shift_told (shift.summed (adding t (round_claim k n z w))) v = refl
shift_told (shift.summed (closed c)) v = refl

bits_told : (s : Batching) (v : List ℕ) → bits_sizes (batching.after_message s v) ≡ bits_sizes s
bits_told (batch.waiting bs m) v = refl
bits_told (batch.opening bs cs) v = refl
bits_told (batch.summed (adding t (sum_claim k zero z c))) v = ap (λ n. n ∷ []) (sym (none_left z))
bits_told (batch.summed (adding t (sum_claim k (suc n) z c))) v = refl
bits_told (batch.summed (adding t (round_claim k n z w))) v = refl
bits_told (batch.summed (closed b)) v = refl

switch_told : (s : Switching) (v : List ℕ) → packed_sizes (switching.after_message s v) ≡ packed_sizes s
switch_told (switch.waiting n) v = refl
switch_told (switch.valued z x) v = refl
switch_told (switch.rowed h p rows n) v = refl
switch_told (switch.summed (adding t (sum_claim k zero z c))) v = ap (λ n. n ∷ []) (sym (none_left z))
switch_told (switch.summed (adding t (sum_claim k (suc n) z c))) v = refl
switch_told (switch.summed (adding t (round_claim k n z w))) v = refl
switch_told (switch.summed (closed p)) v = refl

pub message_key : (a : Stage) (v : List ℕ) (k : Sizes) → AwaitsMessage (length v) (staged.entries a) → sizes_left (staged.after_message a v) k ≡ sizes_left a k
message_key Start v k d = refl
message_key (Channels b) v k d = ap (λ fs. record k { products = k.products ++ fs }) (balance_told b v d)
message_key (Flush s) v k d = ap (λ ps. record k { columns = k.columns ++ ps }) (descent_told s v d)
message_key (Constraints z) v k d = ap (λ ps. record k { columns = k.columns ++ ps }) (zero_told z v d)
message_key (Merges m) v k d = ap (λ ps. record k { columns = k.columns ++ ps }) (merge_told m.walk v)
message_key (Combines l) v k d = ap (λ ps. record k { columns = k.columns ++ ps }) (linear_told l v d)
message_key (Projects p) v k d = refl
message_key (Claimed c) v k d = refl
message_key (Packs p) v k d = ap (λ ps. record k { columns = k.columns ++ ps }) (pack_told p v)
message_key (Shifts s) v k d = ap (λ ps. record k { columns = k.columns ++ ps }) (shift_told s v)
message_key (Bits b) v k d = ap (λ ns. record k { bits = k.bits ++ ns }) (bits_told b v)
message_key (Words s) v k d = refl
message_key (Switch s) v k d = ap (λ ns. record k { packed = k.packed ++ ns }) (switch_told s.walk v)

-- ---- a draw
balance_drawn : (b : Balancing) (r : ℕ) → balance_flushes (balancing.after_draw b r) ≡ balance_flushes b
balance_drawn (balance.waiting ch) r = refl
balance_drawn (balance.stated ch) r = refl
balance_drawn (balance.collapsing ch a) r = refl
balance_drawn (balance.multiplying ch a g) r = refl
balance_drawn (balance.told ch a g v) r = refl

pub descending_places : (f : Flushed) (a g k d : ℕ) (z : List ℕ) (c : ℕ) → descent_places (descent.descending f a g k d z c) ≡ flush_places f (row_vars f)
descending_places f a g k zero z c = ap (λ n. flush_places f n) (none_set (row_vars f))
descending_places f a g k (suc d) z c = refl

descent_drawn : (s : Descent) (r : ℕ) → descent_places (descent.descent.after_draw s r) ≡ descent_places s
descent_drawn (descent.waiting f) r = refl
descent_drawn (descent.layers (adding t q)) r = refl
descent_drawn (descent.layers (closed p)) r = descending_places _ _ _ _ p.layered.below _ _
descent_drawn (descent.leaves (adding t q)) r = ap (λ n. flush_places t.flushed n) (drawn_variables q r)
descent_drawn (descent.leaves (closed cs)) r = refl

zeroing_places : (g : Group) (beta : ℕ) (prefix : List ℕ) (n : ℕ) → zero_places (zero.zeroing g beta prefix n) ≡ places_on g.table g.vars g.columns
zeroing_places g beta prefix zero = ap (λ n. places_on g.table n g.columns) (none_set g.vars)
zeroing_places g beta prefix (suc n) = refl

zero_drawn : (s : Zero) (r : ℕ) → zero_places (zerocheck.after_draw s r) ≡ zero_places s
zero_drawn (zero.waiting g) r = refl
zero_drawn (zero.stated g) r = zeroing_places g r [] g.vars
zero_drawn (zero.vector g beta prefix n) r = zeroing_places g beta (prefix ++ r ∷ []) n
zero_drawn (zero.summed (adding t q)) r = ap (λ n. places_on t.group.table n t.group.columns) (drawn_variables q r)
zero_drawn (zero.summed (closed cs)) r = refl

merge_drawn : (s : Merge) (r : ℕ) → merge_places (merge.merge.after_draw s r) ≡ merge_places s
merge_drawn (merge.waiting n m) r = refl
merge_drawn (merge.opening t c n cs) r = ap (λ m. record { table = t; column = c; vars = m } ∷ []) (none_set n)
merge_drawn (merge.summed (adding t q)) r = ap (λ n. record { table = t.table; column = t.column; vars = n } ∷ []) (drawn_variables q r)
merge_drawn (merge.summed (closed c)) r = refl

pack_drawn : (s : Pack) (r : ℕ) → pack_places (pack.pack.after_draw s r) ≡ pack_places s
pack_drawn (pack.waiting f) r = refl
pack_drawn (pack.stated f c) r = refl
pack_drawn (pack.listed f z prefix v n) r =
    listed_places f z (prefix ++ r ∷ []) (fold_low r v) n ∙ ap (λ n. record { table = f.table; column = f.source; vars = n } ∷ []) (let long = length-append prefix (r ∷ []) in omega arith)
pack_drawn (pack.closed c) r = refl

shift_drawn : (s : Shift) (r : ℕ) → shift_places (shift.shift.after_draw s r) ≡ shift_places s
shift_drawn (shift.waiting s) r = refl
shift_drawn (shift.summed (adding t q)) r = ap (λ n. record { table = t.shifting.table; column = t.shifting.source; vars = n + (length t.point - t.shifting.block) } ∷ []) (drawn_variables q r)
shift_drawn (shift.summed (closed c)) r = refl

bits_drawn : (s : Batching) (r : ℕ) → bits_sizes (batching.after_draw s r) ≡ bits_sizes s
bits_drawn (batch.waiting bs m) r = refl
bits_drawn (batch.opening bs cs) r = ap (λ n. n ∷ []) (none_set (places_log bs))
bits_drawn (batch.summed (adding t q)) r = ap (λ n. n ∷ []) (drawn_variables q r)
bits_drawn (batch.summed (closed b)) r = refl

setting_sizes : (h prefix rows : List ℕ) (n : ℕ) → packed_sizes (switch.setting h prefix rows n) ≡ length h ∷ []
setting_sizes h prefix rows zero = ap (λ n. n ∷ []) (none_set (length h))
setting_sizes h prefix rows (suc n) = refl

switch_drawn : (s : Switching) (r : ℕ) → packed_sizes (switching.after_draw s r) ≡ packed_sizes s
switch_drawn (switch.waiting n) r = refl
switch_drawn (switch.valued z x) r = refl
switch_drawn (switch.rowed h p rows n) r = setting_sizes h (p ++ r ∷ []) (fold_low r rows) n
switch_drawn (switch.summed (adding t q)) r = ap (λ n. n ∷ []) (drawn_variables q r)
switch_drawn (switch.summed (closed p)) r = refl

pub draw_key : (a : Stage) (r : ℕ) (k : Sizes) → sizes_left (staged.after_draw a r) k ≡ sizes_left a k
draw_key Start r k = refl
draw_key (Channels b) r k = ap (λ fs. record k { products = k.products ++ fs }) (balance_drawn b r)
draw_key (Flush s) r k = ap (λ ps. record k { columns = k.columns ++ ps }) (descent_drawn s r)
draw_key (Constraints z) r k = ap (λ ps. record k { columns = k.columns ++ ps }) (zero_drawn z r)
draw_key (Merges m) r k = ap (λ ps. record k { columns = k.columns ++ ps }) (merge_drawn m.walk r)
draw_key (Combines l) r k = refl
draw_key (Projects p) r k = refl
draw_key (Claimed c) r k = refl
draw_key (Packs p) r k = ap (λ ps. record k { columns = k.columns ++ ps }) (pack_drawn p r)
draw_key (Shifts s) r k = ap (λ ps. record k { columns = k.columns ++ ps }) (shift_drawn s r)
draw_key (Bits b) r k = ap (λ ns. record k { bits = k.bits ++ ns }) (bits_drawn b r)
draw_key (Words s) r k = refl
draw_key (Switch s) r k = ap (λ ns. record k { packed = k.packed ++ ns }) (switch_drawn s.walk r)

-- ---- at the end
balance_left : (b : Balancing) → balancing.entries b ≡ [] → balance_flushes b ≡ map (λ (p : Product). p.flushed) (products_left b)
balance_left (balance.waiting ch) e = refl
balance_left (balance.stated ch) e = absurd (still_due _ _ e)
balance_left (balance.collapsing ch a) e = absurd (still_due _ _ e)
balance_left (balance.multiplying ch a g) e = absurd (still_due _ _ e)
balance_left (balance.told ch a g v) e = refl

descent_ends : (s : Descent) → descent.descent.entries s ≡ [] → descent_places s ≡ map place_of (descent_left s)
descent_ends (descent.waiting f) e = refl
descent_ends (descent.layers (adding t (sum_claim d zero z c))) e = absurd (still_due _ _ e)
descent_ends (descent.layers (adding t (sum_claim d (suc n) z c))) e = absurd (still_due _ _ e)
descent_ends (descent.layers (adding t (round_claim d n z v))) e = absurd (still_due _ _ e)
descent_ends (descent.layers (closed p)) e = absurd (still_due _ _ e)
descent_ends (descent.leaves (adding t (sum_claim d zero z c))) e = absurd (still_due _ _ e)
descent_ends (descent.leaves (adding t (sum_claim d (suc n) z c))) e = absurd (still_due _ _ e)
descent_ends (descent.leaves (adding t (round_claim d n z v))) e = absurd (still_due _ _ e)
descent_ends (descent.leaves (closed cs)) e = refl

zero_ends : (s : Zero) → zerocheck.entries s ≡ [] → zero_places s ≡ map place_of (zero_left s)
zero_ends (zero.waiting g) e = refl
zero_ends (zero.stated g) e = absurd (still_due _ _ e)
zero_ends (zero.vector g beta prefix n) e = absurd (still_due _ _ e)
zero_ends (zero.summed (adding t (sum_claim d zero z c))) e = absurd (still_due _ _ e)
zero_ends (zero.summed (adding t (sum_claim d (suc n) z c))) e = absurd (still_due _ _ e)
zero_ends (zero.summed (adding t (round_claim d n z v))) e = absurd (still_due _ _ e)
zero_ends (zero.summed (closed cs)) e = refl

merge_ends : (s : Merge) → merge.merge.entries s ≡ [] → merge_places s ≡ map place_of (merge_left s)
merge_ends (merge.waiting n m) e = refl
merge_ends (merge.opening t c n cs) e = absurd (still_due _ _ e)
merge_ends (merge.summed (adding t (sum_claim d zero z c))) e = absurd (still_due _ _ e)
merge_ends (merge.summed (adding t (sum_claim d (suc n) z c))) e = absurd (still_due _ _ e)
merge_ends (merge.summed (adding t (round_claim d n z v))) e = absurd (still_due _ _ e)
merge_ends (merge.summed (closed c)) e = refl

linear_ends : (s : Linear) → linear_step.entries s ≡ [] → linear_places s ≡ map place_of (linear_left s)
linear_ends (linear.waiting f) e = refl
linear_ends (linear.stated f c) e = absurd (still_due _ _ e)
linear_ends (linear.told cs) e = refl

pack_ends : (s : Pack) → pack.pack.entries s ≡ [] → pack_places s ≡ map place_of (pack_left s)
pack_ends (pack.waiting f) e = refl
pack_ends (pack.stated f c) e = absurd (still_due _ _ e)
pack_ends (pack.listed f z prefix v n) e = absurd (still_due _ _ e)
pack_ends (pack.closed c) e = refl

shift_ends : (s : Shift) → shift.shift.entries s ≡ [] → shift_places s ≡ map place_of (shift_left s)
shift_ends (shift.waiting s) e = refl
shift_ends (shift.summed (adding t (sum_claim d zero z c))) e = absurd (still_due _ _ e)
shift_ends (shift.summed (adding t (sum_claim d (suc n) z c))) e = absurd (still_due _ _ e)
shift_ends (shift.summed (adding t (round_claim d n z v))) e = absurd (still_due _ _ e)
shift_ends (shift.summed (closed c)) e = refl

bits_end : (s : Batching) → batching.entries s ≡ [] → bits_sizes s ≡ map (λ (b : BitValue). length b.point) (bits_left s)
bits_end (batch.waiting bs m) e = refl
bits_end (batch.opening bs cs) e = absurd (still_due _ _ e)
bits_end (batch.summed (adding t (sum_claim d zero z c))) e = absurd (still_due _ _ e)
bits_end (batch.summed (adding t (sum_claim d (suc n) z c))) e = absurd (still_due _ _ e)
bits_end (batch.summed (adding t (round_claim d n z v))) e = absurd (still_due _ _ e)
bits_end (batch.summed (closed b)) e = refl

switch_ends : (bs : List Block) (s : Switching) → switching.entries s ≡ [] → packed_sizes s ≡ map (λ (p : Packed). length p.point) (packed_left bs s)
switch_ends bs (switch.waiting n) e = refl
switch_ends bs (switch.valued z x) e = absurd (still_due _ _ e)
switch_ends bs (switch.rowed h p rows n) e = absurd (still_due _ _ e)
switch_ends bs (switch.summed (adding t (sum_claim d zero z c))) e = absurd (still_due _ _ e)
switch_ends bs (switch.summed (adding t (sum_claim d (suc n) z c))) e = absurd (still_due _ _ e)
switch_ends bs (switch.summed (adding t (round_claim d n z v))) e = absurd (still_due _ _ e)
switch_ends bs (switch.summed (closed p)) e = refl

joined_places : (w : Kept) (cs : List ColumnClaim) (ps : List Place) → ps ≡ map place_of cs → sizes (record w { columns = w.columns ++ cs }) ≡ record (sizes w) { columns = (sizes w).columns ++ ps }
joined_places w cs ps e = ap (λ l. record (sizes w) { columns = l }) (map-append place_of w.columns cs ∙ ap (λ l. map place_of w.columns ++ l) (sym e))

pub leave_key : (a : Stage) (w : Kept) → staged.entries a ≡ [] → sizes (left a w) ≡ sizes_left a (sizes w)
leave_key Start w e = refl
leave_key (Channels b) w e = ap (λ l. record (sizes w) { products = l }) (map-append (λ (p : Product). p.flushed) w.products (products_left b) ∙ ap (λ l. map (λ (p : Product). p.flushed) w.products ++ l) (sym (balance_left b e)))
leave_key (Flush s) w e = joined_places w (descent_left s) (descent_places s) (descent_ends s e)
leave_key (Constraints z) w e = joined_places w (zero_left z) (zero_places z) (zero_ends z e)
leave_key (Merges m) w e = joined_places w (merge_left m.walk) (merge_places m.walk) (merge_ends m.walk e)
leave_key (Combines l) w e = joined_places w (linear_left l) (linear_places l) (linear_ends l e)
leave_key (Projects p) w e = refl
leave_key (Claimed c) w e = joined_places w (c ∷ []) (place_of c ∷ []) refl
leave_key (Packs p) w e = joined_places w (pack_left p) (pack_places p) (pack_ends p e)
leave_key (Shifts s) w e = joined_places w (shift_left s) (shift_places s) (shift_ends s e)
leave_key (Bits b) w e = ap (λ l. record (sizes w) { bits = l }) (map-append (λ (b : BitValue). length b.point) w.bits (bits_left b) ∙ ap (λ l. map (λ (b : BitValue). length b.point) w.bits ++ l) (sym (bits_end b e)))
leave_key (Words s) w e = refl
leave_key (Switch s) w e = ap (λ l. record (sizes w) { packed = l }) (map-append (λ (p : Packed). length p.point) w.packed (packed_left s.placement s.walk) ∙ ap (λ l. map (λ (p : Packed). length p.point) w.packed ++ l) (sym (switch_ends s.placement s.walk e)))
