-- Steps of the walk of a flush, and of its terms.
use Rattle.std.proofs.Common.{◌≡◌, ◌∙◌, ℕ, zero, suc, ◌+◌, ◌-◌, ◌<◌, ◌≤◌, ◌^◌, ◌++◌, List, [], ◌∷◌, drop, get_or, length, slice_get, option_and_then, Option, None, Some, refl, sym, ap, subst, arith, bit_xor}
use Rattle.std.specs.Prelude.{IsSomeAnd}
use Rattle.tower_laws.specs.Tower.{mul}
use Rattle.poly_laws.specs.Polynomial.{horner}
use Rattle.cube_laws.specs.Form.{value}
use Rattle.cube_laws.proofs.Positions.{value-moved}
use Rattle.multiset_laws.specs.Fingerprint.{leaf}
use Rattle.layer_laws.specs.LeafForm.{leaf_form}
use Rattle.layer_laws.proofs.LeafSteps.{leaf_is}
use Rattle.sumcheck.specs.declared.column_claim.ColumnClaim.{ColumnClaim}
use Rattle.sumcheck.specs.Column.{column_claims}
use Rattle.sumcheck.specs.Machine.{AwaitsDraw}
use Rattle.sumcheck.specs.Rounds.{Rounds, sum_claim, DrawIsDue}
use Rattle.sumcheck.proofs.Lawful.{draw_due}
use Rattle.sumcheck.proofs.Told.{claims_short}
use Rattle.table_shape.specs.Fits.{ChannelFits, ShapeFits}
use Rattle.table_shape.specs.Limits.{max_channel_width}
use Rattle.table_shape.specs.Parts.{ShapeParts}
use Rattle.table_shape.specs.declared.shape.ChannelShape.{ChannelShape}
use Rattle.table_shape.specs.declared.shape.FlushShape.{FlushShape}
use Rattle.table_shape.specs.declared.shape.TableShape.{TableShape}
use Rattle.channel_products.specs.declared.leaf_term.LeafTerm.{LeafTerm}
use Rattle.channel_products.specs.declared.product_walk.Stage.{Stage}
use Rattle.channel_products.specs.declared.product_walk.Stage.TheVariants.{Layers, Leaves}
use Rattle.channel_products.specs.Descent.{Descent, Layered, descent_entries, layered_sum, leaves_sum}
use Rattle.channel_products.specs.DescentFields.{StageFits, descent_of, flush_in, sums_from}
use Rattle.channel_products.specs.Summands.{leaf_term_form}

-- eq times the leaf, of a row of numbers
pub leaves_value : (t : LeafTerm) (row tuple : List ℕ) (x s c k v : ℕ) → length row ≡ t.width + 3 → tuple ≡ drop 3 row → x ≡ get_or row 0 x → s ≡ get_or row 1 s → c ≡ get_or row 2 c
    → k ≡ horner tuple t.alpha → v ≡ leaf s c (bit_xor t.gamma k) → mul x v ≡ value (leaf_term_form t) row
leaves_value t [] tuple x s c k v e r ex es ec hk hv = absurd (omega arith)
leaves_value t (a ∷ []) tuple x s c k v e r ex es ec hk hv = absurd (omega arith)
leaves_value t (a ∷ b ∷ []) tuple x s c k v e r ex es ec hk hv = absurd (omega arith)
leaves_value t (a ∷ b ∷ d ∷ ys) tuple x s c k v e r ex es ec hk hv =
    let w = t.width in
    let f = leaf_form t.alpha t.gamma w in
    let same : v ≡ leaf b d (bit_xor t.gamma (horner ys t.alpha)) = hv ∙ (λ i. leaf (es i) (ec i) (bit_xor t.gamma ((hk ∙ ap (λ z. horner z t.alpha) r) i))) in
    (λ i. mul (ex i) (same i)) ∙ ap (mul a) (sym (value-moved f a (b ∷ d ∷ ys) ∙ leaf_is t.alpha t.gamma w b d ys (omega arith)))

-- ---- the rounds of all sums
pub rounds_more : (n k : ℕ) (old new : List Rounds) → 0 < k → k ≤ n → ((d : ℕ) → k + d ≡ n → old ≡ sums_from n k d) → new ≡ old ++ sum_claim 3 (k - 1) [] 0 ∷ [] → (d : ℕ) → k - 1 + d ≡ n → new ≡ sums_from n (k - 1) d
rounds_more n k old new p l all e zero h = absurd (omega arith)
rounds_more n k old new p l all e (suc d) h =
    let s : k ≡ suc (k - 1) = omega arith in
    e ∙ (λ i. all d (omega arith) i ++ sum_claim 3 (k - 1) [] 0 ∷ []) ∙ ap (λ j. sums_from n j d ++ sum_claim 3 (k - 1) [] 0 ∷ []) s

pub some_later : (n k d : ℕ) (later : List Rounds) → later ≡ sums_from n k d → 0 < length later
some_later n k zero later e = let h = ap length e in omega arith
some_later n k (suc d) later e = let h = ap length e in let a = more (sums_from n (suc k) d) (sum_claim 3 k [] 0) in omega arith
  where
    more : (xs : List Rounds) (x : Rounds) → 0 < length (xs ++ x ∷ [])
    more [] x = omega arith
    more (y ∷ xs) x = omega arith

-- ---- a draw and a message
pub bind_layers : (g : Stage) (t : Layered) (r : Rounds) (low high : ℕ) (claims : List ColumnClaim) (m : Descent) → descent_of g t r low high claims ≡ m → g ≡ Layers → AwaitsDraw (descent_entries m) → DrawIsDue r
bind_layers g t r low high claims m v e h = draw_due layered_sum t r (subst (λ (x : Stage). AwaitsDraw (descent_entries (descent_of x t r low high claims))) e (rw v h))

pub bind_leaves : (g : Stage) (t : Layered) (r : Rounds) (low high : ℕ) (claims : List ColumnClaim) (m : Descent) → descent_of g t r low high claims ≡ m → g ≡ Leaves → AwaitsDraw (descent_entries m) → DrawIsDue r
bind_leaves g t r low high claims m v e h = draw_due leaves_sum t.at r (subst (λ (x : Stage). AwaitsDraw (descent_entries (descent_of x t r low high claims))) e (rw v h))

pub leaves_open : (g : Stage) (t : Layered) (later : List Rounds) (claims : List ColumnClaim) → g ≡ Leaves → StageFits g t later claims → claims ≡ []
leaves_open g t later claims e h = subst (λ (x : Stage). StageFits x t later claims) e h

pub told_few : (claims new : List ColumnClaim) (table : ℕ) (z cs v : List ℕ) → claims ≡ [] → new ≡ claims ++ column_claims table z cs v → length cs < 2 ^ 30 → length new < 2 ^ 30
told_few claims new table z cs v none h l =
    let s = claims_short table z cs v in
    let m = ap length (h ∙ ap (λ (w : List ColumnClaim). w ++ column_claims table z cs v) none) in
    omega arith

-- ---- a flush of a shape
some_width : (o : Option ChannelShape) (n : ℕ) → ((c : ChannelShape) → o ≡ Some c → ChannelFits c) → IsSomeAnd o (λ (c : ChannelShape). n ≡ c.width) → n ≤ max_channel_width
some_width None n h w = absurd w
some_width (Some c) n h w = let k = (h c refl).few in omega arith

pub flush_width : (shape : ShapeParts) (t f : ℕ) (flush : FlushShape) → ShapeFits shape → flush_in shape.tables t f ≡ Some flush → length flush.columns ≤ max_channel_width
flush_width shape t f flush fits e = from (slice_get shape.tables t) refl e
  where
    from : (o : Option TableShape) → slice_get shape.tables t ≡ o → option_and_then (λ (table : TableShape). slice_get table.flushes f) o ≡ Some flush → length flush.columns ≤ max_channel_width
    from None k e = absurd (cc)
    from (Some table) k e = some_width (slice_get shape.channels flush.channel) (length flush.columns) (λ c q. fits.channels flush.channel c q) (fits.flushes t table k f flush e).width
