-- Only the last coordinate of a packed column ends a reduction with a draw: any number keeps its sizes.
use Rattle.std.proofs.Common.{◌≡◌, ◌∙◌, ◌+◌, ◌^◌, ℕ, zero, suc, List, [], ◌∷◌, ◌++◌, length, ap, arith}
use Rattle.std.proofs.lemmas.List.{length-append}
use Rattle.poly_forms.specs.declared.check_kind.CheckKind.TheVariants.{Tensor}
use Rattle.poly_forms.specs.declared.draw_kind.DrawKind.{DrawKind}
use Rattle.poly_forms.specs.declared.draw_kind.DrawKind.TheVariants.{PackCoordinate}
use Rattle.sumcheck.specs.declared.entry.Entry.{Entry}
use Rattle.sumcheck.specs.declared.entry.Entry.TheVariants.{Message, Draw}
use Rattle.sumcheck.specs.Machine.{Filling}
use Rattle.sumcheck.specs.Rounds.{Rounds, round_claim, rounds, sum_claim}
use Rattle.sumcheck.specs.Summing.{Summing, adding, closed, summed_entries}
use Rattle.table_shape.specs.Placement.{places_log}
use Rattle.channel_products.specs.declared.flushed.Flushed.{Flushed}
use Rattle.channel_products.specs.Balancing as balance
use Rattle.channel_products.specs.Balancing.{Balancing, balancing}
use Rattle.channel_products.specs.Descent as descent
use Rattle.channel_products.specs.Descent.{Descent, layer_entries, layered_sum, leaves_sum}
use Rattle.zerocheck.specs.Group.{Group}
use Rattle.zerocheck.specs.Zero as zero
use Rattle.zerocheck.specs.Zero.{Zero, zero_sum, zerocheck}
use Rattle.eval_reduce.specs.Merge as merge
use Rattle.eval_reduce.specs.Merge.{Merge, merge_sum}
use Rattle.eval_reduce.specs.Pack as pack
use Rattle.eval_reduce.specs.Pack.{Pack, PackFits}
use Rattle.eval_reduce.specs.Shift as shift
use Rattle.eval_reduce.specs.Shift.{Shift, the_sum}
use Rattle.bit_claim.specs.Batching as batch
use Rattle.bit_claim.specs.Batching.{Batching, batch_sum, batching}
use Rattle.ring_switch.specs.Switching as switch
use Rattle.ring_switch.specs.Switching.{Switching, switch_sum, switching}
use Rattle.m3_walk.specs.declared.stage.Stage.{Stage}
use Rattle.m3_walk.specs.declared.stage.Stage.TheVariants.{Start, Channels, Flush, Constraints, Merge as Merges, Linear as Combines, Project as Projects, Claimed, Pack as Packs, Shift as Shifts, Bits, Words, Switch}
use Rattle.m3_walk.specs.Stages.{StageFits, staged}

-- ---- no other draw stands last
-- these entries aren't one draw alone
abbrev IsLonger : List Entry → Type 0
IsLonger es = (kind : DrawKind) (n : ℕ) → es ≡ Draw kind n ∷ [] → ⊥

nothing_due : IsLonger []
nothing_due kind n e = cc

-- more follows the first
more_due : (d : Entry) (es : List Entry) → (es ≡ [] → ⊥) → IsLonger (d ∷ es)
more_due d es h kind n e = h cc

rounds_due : (kind : DrawKind) (d n : ℕ) (e : Entry) (es : List Entry) → rounds kind d n ++ e ∷ es ≡ [] → ⊥
rounds_due kind d zero e es h = cc
rounds_due kind d (suc n) e es h = cc

summed_due : {T C : Type 0} (X : Summing T C) (t : T) (r : Rounds) → IsLonger (summed_entries X (adding t r))
summed_due X t (sum_claim d zero z c) kind n e = cc
summed_due X t (sum_claim d (suc m) z c) kind n e = cc
summed_due X t (round_claim d m z v) kind n e = more_due (Draw X.kind d) (rounds X.kind d m ++ Message X.check (X.count t) ∷ X.rest t) (rounds_due X.kind d m (Message X.check (X.count t)) (X.rest t)) kind n e

layers_due : (f : Flushed) (k d : ℕ) → layer_entries f k d ≡ [] → ⊥
layers_due f k zero h = rounds_due _ _ _ _ _ h
layers_due f k (suc d) h = layer_due _ _ _ _ _ _ h
  where
    layer_due : (kind : DrawKind) (d n : ℕ) (e c : Entry) (es : List Entry) → rounds kind d n ++ e ∷ c ∷ es ≡ [] → ⊥
    layer_due kind d n e c es h = rounds_due kind d n e (c ∷ es) h

zeros_due : (g : Group) (n : ℕ) → zero.coordinate_entries g n ≡ [] → ⊥
zeros_due g zero h = rounds_due _ _ _ _ _ h
zeros_due g (suc n) h = cc

rows_due : (n m : ℕ) → switch.coordinate_entries n m ≡ [] → ⊥
rows_due zero m h = rounds_due _ _ _ _ _ h
rows_due (suc n) m h = cc

-- ---- each reduction
balance_longer : (b : Balancing) → IsLonger (balancing.entries b)
balance_longer (balance.waiting ch) kind n e = cc
balance_longer (balance.stated ch) kind n e = cc
balance_longer (balance.collapsing ch a) kind n e = cc
balance_longer (balance.multiplying ch a g) kind n e = cc
balance_longer (balance.told ch a g v) kind n e = cc

descent_longer : (s : Descent) → IsLonger (descent.descent.entries s)
descent_longer (descent.waiting f) = nothing_due
descent_longer (descent.layers (adding t r)) = summed_due layered_sum t r
descent_longer (descent.layers (closed p)) = more_due _ _ (layers_due p.layered.at.flushed (suc p.layered.layer) p.layered.below)
descent_longer (descent.leaves (adding t r)) = summed_due leaves_sum t r
descent_longer (descent.leaves (closed cs)) = nothing_due

zero_longer : (s : Zero) → IsLonger (zerocheck.entries s)
zero_longer (zero.waiting g) = nothing_due
zero_longer (zero.stated g) = more_due _ _ (zeros_due g g.vars)
zero_longer (zero.vector g beta prefix n) = more_due _ _ (zeros_due g n)
zero_longer (zero.summed (adding t r)) = summed_due zero_sum t r
zero_longer (zero.summed (closed cs)) = nothing_due

merge_longer : (s : Merge) → IsLonger (merge.merge.entries s)
merge_longer (merge.waiting n m) = nothing_due
merge_longer (merge.opening t c n cs) = more_due _ _ (rounds_due _ _ n _ _)
merge_longer (merge.summed (adding t r)) = summed_due merge_sum t r
merge_longer (merge.summed (closed c)) = nothing_due

shift_longer : (s : Shift) → IsLonger (shift.shift.entries s)
shift_longer (shift.waiting s) = nothing_due
shift_longer (shift.summed (adding t r)) = summed_due the_sum t r
shift_longer (shift.summed (closed c)) = nothing_due

bits_longer : (s : Batching) → IsLonger (batching.entries s)
bits_longer (batch.waiting bs m) = nothing_due
bits_longer (batch.opening bs cs) = more_due _ _ (rounds_due _ _ (places_log bs) _ _)
bits_longer (batch.summed (adding t r)) = summed_due batch_sum t r
bits_longer (batch.summed (closed b)) = nothing_due

switch_longer : (s : Switching) → IsLonger (switching.entries s)
switch_longer (switch.waiting n) = nothing_due
switch_longer (switch.valued z x) = starts_told _ _
  where
    starts_told : (n : ℕ) (es : List Entry) → IsLonger (Message Tensor n ∷ es)
    starts_told n es kind m e = cc
switch_longer (switch.rowed h p rows n) = more_due _ _ (rows_due n (length h))
switch_longer (switch.summed (adding t r)) = summed_due switch_sum t r
switch_longer (switch.summed (closed p)) = nothing_due

-- ---- the last coordinate of a packed column
pack_ends : (F : Filling) (p : Pack) (kind : DrawKind) (n r : ℕ) → pack.pack.entries p ≡ Draw kind n ∷ [] → PackFits F p → PackFits F (pack.pack.after_draw p r)
pack_ends F (pack.waiting f) kind n r e h = h
pack_ends F (pack.stated f c) kind n r e h = h
pack_ends F (pack.listed f z prefix v zero) kind n r e h =
    let set = length-append prefix (r ∷ []) in
    let long = length-append (prefix ++ r ∷ []) z in
    let first = h.left in
    let all : f.log + length z ≡ length ((prefix ++ r ∷ []) ++ z) = omega arith in
    h.source_long ∙ ap (λ k. 2 ^ k) all
pack_ends F (pack.listed f z prefix v (suc m)) kind n r e h = absurd (more_due _ _ coordinate_due kind n e)
  where
    coordinate_due : Draw PackCoordinate 1 ∷ pack.pack_draws m ≡ [] → ⊥
    coordinate_due e = cc
pack_ends F (pack.closed c) kind n r e h = h

pub ending_draw : (F : Filling) (a : Stage) (kind : DrawKind) (n r : ℕ) → staged.entries a ≡ Draw kind n ∷ [] → StageFits F a → StageFits F (staged.after_draw a r)
ending_draw F Start kind n r e h = h
ending_draw F (Channels b) kind n r e h = absurd (balance_longer b kind n e)
ending_draw F (Flush d) kind n r e h = absurd (descent_longer d kind n e)
ending_draw F (Constraints z) kind n r e h = absurd (zero_longer z kind n e)
ending_draw F (Merges m) kind n r e h = absurd (merge_longer m.walk kind n e)
ending_draw F (Combines l) kind n r e h = h
ending_draw F (Projects p) kind n r e h = h
ending_draw F (Claimed c) kind n r e h = h
ending_draw F (Packs p) kind n r e h = pack_ends F p kind n r e h
ending_draw F (Shifts s) kind n r e h = absurd (shift_longer s kind n e)
ending_draw F (Bits b) kind n r e h = absurd (bits_longer b kind n e)
ending_draw F (Words s) kind n r e h = h
ending_draw F (Switch s) kind n r e h = absurd (switch_longer s.walk kind n e)
