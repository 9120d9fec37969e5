-- The reductions of channels and of products of flushes, in their course.
use Rattle.std.proofs.Common.{◌≡◌, ◌∙◌, ◌≤◌, ◌+◌, ◌==◌, ℕ, zero, suc, cond, List, [], ◌∷◌, ◌++◌, length, map, slice_index, refl, sym, ap, subst, arith}
use Rattle.std.proofs.lemmas.List.{append_assoc, append-nil, length-append}
use Rattle.std.proofs.lemmas.Grind.{flat_map-append}
use Rattle.std.specs.List.{flat_map}
use Rattle.poly_forms.specs.declared.check_kind.CheckKind.TheVariants as check
use Rattle.poly_forms.specs.declared.draw_kind.DrawKind.{DrawKind}
use Rattle.poly_forms.specs.declared.draw_kind.DrawKind.TheVariants as draw
use Rattle.sumcheck.specs.declared.entry.Entry.{Entry}
use Rattle.sumcheck.specs.declared.entry.Entry.TheVariants as due
use Rattle.sumcheck.specs.Rounds.{rounds}
use Rattle.table_shape.specs.declared.shape.ChannelShape.{ChannelShape}
use Rattle.table_shape.specs.declared.shape.FlushShape.{FlushShape}
use Rattle.table_shape.specs.declared.shape.TableShape.{TableShape}
use Rattle.table_shape.specs.Counts.{alpha_count, gamma_count}
use Rattle.table_shape.specs.Fits.{ShapeFits}
use Rattle.table_shape.specs.Parts.{ShapeParts}
use Rattle.channel_products.specs.declared.flushed.Flushed.{Flushed}
use Rattle.channel_products.specs.Balancing as balance
use Rattle.channel_products.specs.Channels.{channels_of, flushes_from, flushes_of}
use Rattle.channel_products.specs.Descent as descent
use Rattle.channel_products.specs.Descent.{leaf_columns, row_vars}
use Rattle.channel_products.proofs.FirstLaws.{without_channels}
use Rattle.proof_plan.specs.declared.plan_entry.PlanEntry.{PlanEntry}
use Rattle.proof_plan.specs.declared.plan_entry.PlanEntry.TheVariants.{Root, Message, Draw, Constant, Queries}
use Rattle.proof_plan.specs.Plan as plans
use Rattle.proof_plan.specs.Plan.{channel_entries, flush_count, flush_entries, flushes_entries}
use Rattle.m3_walk.specs.declared.stage.Stage.{Stage}
use Rattle.m3_walk.specs.declared.stage.Stage.TheVariants as stage
use Rattle.m3_walk.specs.Course.{channel_stages, flush_stage, walked}
use Rattle.m3_walk.specs.Linked.{HasRoom}
use Rattle.m3_walk.specs.Linking.{Place, Sizes, balance_flushes, flush_places}
use Rattle.m3_walk.proofs.Keys.{descending_places}
use Rattle.m3_walk.proofs.CourseSteps.{Goes, blank_flushes, blank_places, none_go, not_none, one_goes, same_due, same_left, then_go}

-- ---- entries
pub walked_append : (es fs : List PlanEntry) → walked (es ++ fs) ≡ walked es ++ walked fs
walked_append [] fs = refl
walked_append (Root ∷ es) fs = walked_append es fs
walked_append (Message c n ∷ es) fs = ap (λ l. due.Message c n ∷ l) (walked_append es fs)
walked_append (Draw k n ∷ es) fs = ap (λ l. due.Draw k n ∷ l) (walked_append es fs)
walked_append (Constant ∷ es) fs = ap (λ l. due.Message check.Constant 1 ∷ l) (walked_append es fs)
walked_append (Queries ∷ es) fs = walked_append es fs

pub walked_rounds : (kind : DrawKind) (d n : ℕ) → walked (plans.rounds kind d n) ≡ rounds kind d n
walked_rounds kind d zero = refl
walked_rounds kind d (suc n) = ap (λ l. due.Message check.RoundSum (suc d) ∷ due.Draw kind d ∷ l) (walked_rounds kind d n)

-- ---- sizes while nothing is on bits or words
abbrev pub kept_at : ℕ → List Flushed → List Place → Sizes
kept_at room fs ps = record { products = fs; columns = ps; bits = []; packed = []; room = room }

pub has_room : (room : ℕ) (fs : List Flushed) (ps : List Place) → length fs ≤ room → length ps ≤ room → HasRoom (kept_at room fs ps)
has_room room fs ps f p = record { products = f; columns = p; bits = omega arith; packed = omega arith }

-- ---- flushes
abbrev pub flush_due : Flushed → List Entry
flush_due f = descent.layer_entries f 0 (row_vars f)

abbrev pub leaf_places : Flushed → List Place
leaf_places f = flush_places f (row_vars f)

descending_entries : (f : Flushed) (a g k d : ℕ) (z : List ℕ) (c : ℕ) → descent.descent.entries (descent.descending f a g k d z c) ≡ descent.layer_entries f k d
descending_entries f a g k zero z c = refl
descending_entries f a g k (suc d) z c = refl

flush_goes : (room : ℕ) (f : Flushed) (fs : List Flushed) (ps : List Place) → length (f ∷ fs) ≤ room → length ps ≤ room
    → Goes (kept_at room (f ∷ fs) ps) (flush_stage f ∷ []) (flush_due f) (kept_at room fs (ps ++ leaf_places f))
flush_goes room f fs ps few low =
    one_goes (flush_stage f) _ _ _ (has_room room (f ∷ fs) ps few low) refl (descending_entries f 0 0 0 (row_vars f) [] 0)
    (λ i. kept_at room (blank_flushes fs i) (blank_places ps i ++ descending_places f 0 0 0 (row_vars f) [] 0 i))

flushes_go : (room : ℕ) (fs : List Flushed) (ps : List Place) → length fs ≤ room → length ps + length (flat_map leaf_places fs) ≤ room
    → Goes (kept_at room fs ps) (map flush_stage fs) (flat_map flush_due fs) (kept_at room [] (ps ++ flat_map leaf_places fs))
flushes_go room [] ps few low = same_left (ap (kept_at room []) (sym (append-nil ps))) (none_go _)
flushes_go room (f ∷ fs) ps few low =
    let now = length-append (leaf_places f) (flat_map leaf_places fs) in
    let more = length-append ps (leaf_places f) in
    same_left (ap (kept_at room []) (append_assoc ps (leaf_places f) (flat_map leaf_places fs)))
    (then_go (flush_goes room f fs ps few (omega arith)) (flushes_go room fs (ps ++ leaf_places f) (omega arith) (omega arith)))

walked_layers : (f : Flushed) (k d : ℕ) → k + d ≡ row_vars f → walked (plans.layer_entries (length (leaf_columns f)) k d) ≡ descent.layer_entries f k d
walked_layers f k zero e =
    let all : k ≡ row_vars f = omega arith in
    walked_append (plans.rounds draw.LeafRound 4 k) _ ∙ (λ i. walked_rounds draw.LeafRound 4 k i ++ due.Message check.LeafFinal (length (leaf_columns f)) ∷ [])
    ∙ ap (λ n. rounds draw.LeafRound 4 n ++ due.Message check.LeafFinal (length (leaf_columns f)) ∷ []) all
walked_layers f k (suc d) e =
    walked_append (plans.rounds draw.LayerRound 3 k) _
    ∙ (λ i. walked_rounds draw.LayerRound 3 k i ++ due.Message check.LayerFinal 2 ∷ due.Draw draw.LayerJoin 1 ∷ walked_layers f (suc k) d (omega arith) i)

walked_flushes_of : (t rows n : ℕ) (fs : List FlushShape) → walked (flat_map (flush_entries rows) fs) ≡ flat_map flush_due (flushes_of t rows n fs)
walked_flushes_of t rows n [] = refl
walked_flushes_of t rows n (flush ∷ fs) =
    let f : Flushed = record { table = t; number = n; rows = rows; shape = flush } in
    walked_append (flush_entries rows flush) _ ∙ (λ i. walked_layers f 0 (row_vars f) (omega arith) i ++ walked_flushes_of t rows (n + 1) fs i)

walked_flushes : (rows : List ℕ) (t : ℕ) (tables : List TableShape) → walked (flushes_entries rows t tables) ≡ flat_map flush_due (flushes_from rows t tables)
walked_flushes rows t [] = refl
walked_flushes rows t (table ∷ tables) =
    walked_append (flat_map (flush_entries (slice_index rows t)) table.flushes) _
    ∙ (λ i. walked_flushes_of t (slice_index rows t) 0 table.flushes i ++ walked_flushes rows (t + 1) tables i)
    ∙ sym (flat_map-append flush_due (flushes_of t (slice_index rows t) 0 table.flushes) (flushes_from rows (t + 1) tables))

length-flushes_of : (t rows n : ℕ) (fs : List FlushShape) → length (flushes_of t rows n fs) ≡ length fs
length-flushes_of t rows n [] = refl
length-flushes_of t rows n (f ∷ fs) = ap suc (length-flushes_of t rows (n + 1) fs)

pub length-flushes_from : (rows : List ℕ) (t : ℕ) (tables : List TableShape) → length (flushes_from rows t tables) ≡ flush_count tables
length-flushes_from rows t [] = refl
length-flushes_from rows t (table ∷ tables) =
    length-append (flushes_of t (slice_index rows t) 0 table.flushes) _ ∙ (λ i. length-flushes_of t (slice_index rows t) 0 table.flushes i + length-flushes_from rows (t + 1) tables i)

-- ---- channels
-- the claims on columns that flushes leave
abbrev pub flushed_places : ShapeParts → List ℕ → List Place
flushed_places shape rows = flat_map leaf_places (flushes_from rows 0 shape.tables)

-- of a list of channels that is the shape's
abbrev stages_with : ShapeParts → List ℕ → List ChannelShape → List Stage
stages_with shape rows cs = cond (length cs == 0) [] (stage.Channels (balance.waiting (channels_of shape rows)) ∷ map flush_stage (flushes_from rows 0 shape.tables))

abbrev entries_with : ShapeParts → List ℕ → List ChannelShape → List PlanEntry
entries_with shape rows cs =
    cond (length cs == 0) []
    (Draw draw.Alpha (alpha_count shape rows) ∷ Draw draw.Gamma (gamma_count shape rows) ∷ Message check.Products (flush_count shape.tables) ∷ flushes_entries rows 0 shape.tables)

channels_with : (shape : ShapeParts) (rows : List ℕ) (room : ℕ) → ShapeFits shape → flush_count shape.tables ≤ room → length (flushed_places shape rows) ≤ room → (cs : List ChannelShape) → shape.channels ≡ cs
    → Goes (kept_at room [] []) (stages_with shape rows cs) (walked (entries_with shape rows cs)) (kept_at room [] (flushed_places shape rows))
channels_with shape rows room fits few low [] e =
    same_left (ap (λ fs. kept_at room [] (flat_map leaf_places fs)) (sym (without_channels shape rows fits (ap (map (λ (c : ChannelShape). c.width)) e)))) (none_go _)
channels_with shape rows room fits few low (c ∷ cs) e =
    let ch = channels_of shape rows in
    let fs = flushes_from rows 0 shape.tables in
    let count = length-flushes_from rows 0 shape.tables in
    subst (λ b. Goes (kept_at room [] []) (cond b [] (stage.Channels (balance.waiting ch) ∷ map flush_stage fs)) (walked (cond b [] (Draw draw.Alpha (alpha_count shape rows) ∷ Draw draw.Gamma (gamma_count shape rows) ∷ Message check.Products (flush_count shape.tables) ∷ flushes_entries rows 0 shape.tables))) (kept_at room [] (flushed_places shape rows)))
    (sym (not_none (length cs)))
    (same_due (λ i. due.Draw draw.Alpha (alpha_count shape rows) ∷ due.Draw draw.Gamma (gamma_count shape rows) ∷ due.Message check.Products (count i) ∷ sym (walked_flushes rows 0 shape.tables) i)
    (then_go (one_goes (stage.Channels (balance.waiting ch)) _ (kept_at room fs []) _ (has_room room [] [] (omega arith) (omega arith)) tt
    (ap (λ (x : List ChannelShape). balance.balancing.entries (balance.opened ch (map (λ (c : ChannelShape). c.width) x))) e)
    (ap (λ (x : List ChannelShape). kept_at room (balance_flushes (balance.opened ch (map (λ (c : ChannelShape). c.width) x))) []) e))
    (flushes_go room fs [] (omega (arith, count)) (omega arith))))

pub channels_go : (shape : ShapeParts) (rows : List ℕ) (room : ℕ) → ShapeFits shape → flush_count shape.tables ≤ room → length (flushed_places shape rows) ≤ room
    → Goes (kept_at room [] []) (channel_stages shape rows) (walked (channel_entries shape rows)) (kept_at room [] (flushed_places shape rows))
channels_go shape rows room fits few low = channels_with shape rows room fits few low shape.channels refl
