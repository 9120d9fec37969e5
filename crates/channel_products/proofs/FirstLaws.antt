-- The first state says that every channel is in balance.
use Rattle.std.proofs.Common.{◌≡◌, ◌∙◌, ℕ, zero, suc, ◌+◌, ◌-◌, ◌*◌, ◌^◌, ◌<◌, ◌≤◌, ◌==◌, ◌&&◌, max, Bool, true, false, cond, List, [], ◌∷◌, ◌++◌, length, map, Option, Some, None, refl, sym, ap, subst, append_assoc, arith, length-append}
use Rattle.std.specs.Prelude.{◌↔◌, slice_get, slice_index}
use Rattle.std.specs.List.{AllByRecursion, filter, flat_map}
use Rattle.std.specs.Option.{IsSomeAnd}
use Rattle.std.proofs.lemmas.Bool.{and_parts, eqb-true}
use Rattle.std.proofs.lemmas.List.{length-map}
use Rattle.std.proofs.Math.Nat.{le-max_left, le-max_right, mul-le-mul_right}
use Rattle.cube_laws.proofs.Weights.{length-tabulate}
use Rattle.multiset_laws.specs.Balance.{Balance, IsBalanced, IsWide}
use Rattle.table_text.specs.declared.decl.Side.{Side}
use Rattle.table_text.specs.declared.decl.Side.TheVariants.{Push, Pull}
use Rattle.table_shape.specs.declared.shape.BoundaryShape.{BoundaryShape}
use Rattle.table_shape.specs.declared.shape.ChannelShape.{ChannelShape}
use Rattle.table_shape.specs.declared.shape.ColumnShape.{ColumnShape}
use Rattle.table_shape.specs.declared.shape.FlushShape.{FlushShape}
use Rattle.table_shape.specs.declared.shape.TableShape.{TableShape}
use Rattle.table_shape.specs.Channels.{IsInBalance, balance_of, boundary_tuples, flush_tuples, is_boundary_of, is_flush_of, is_taken, rows_below, same_side, table_tuples, tuple_at, tuples}
use Rattle.table_shape.specs.Counts.{alpha_count, alpha_counts, flush_rows, gamma_count, gamma_counts, most_tuples}
use Rattle.table_shape.specs.Filling.{Filling, IsFilling, values_of}
use Rattle.table_shape.specs.Fits.{FlushFits, FlushesFit, IsSelector, ShapeFits}
use Rattle.table_shape.specs.Lowering.{selector_at}
use Rattle.table_shape.specs.Parts.{ShapeParts}
use Rattle.table_shape.specs.Value.{greatest}
use Rattle.channel_products.specs.declared.flushed.Flushed.{Flushed}
use Rattle.channel_products.specs.Balancing.{BalancingFits, BalancingHolds, opened}
use Rattle.channel_products.specs.Channels.{ChannelsFit, HasBits, balances_from, channels_of, flushes_from, flushes_of, tuples_of}
use Rattle.channel_products.specs.First.{FirstStatesAreMeant}

-- ---- lists
all_append : {X : Type 0} (P : X → Type 0) (xs ys : List X) → AllByRecursion P xs → AllByRecursion P ys → AllByRecursion P (xs ++ ys)
all_append P [] ys h k = k
all_append P (x ∷ xs) ys h k = (h.0, all_append P xs ys h.1 k)

all_map : {X Y : Type 0} (P : Y → Type 0) (f : X → Y) (xs : List X) → ((x : X) → P (f x)) → AllByRecursion P (map f xs)
all_map P f [] h = tt
all_map P f (x ∷ xs) h = (h x, all_map P f xs h)

filter_short : {X : Type 0} (p : X → Bool) (xs : List X) → length (filter p xs) ≤ length xs
filter_short p [] = omega arith
filter_short p (x ∷ xs) = let h = filter_short p xs in elim (p x) as (λ b. length (cond b (x ∷ filter p xs) (filter p xs)) ≤ suc (length xs)) [ true ↦ omega arith | false ↦ omega arith ]

-- ---- the tuples of a side
abbrev sent : Filling → Flushed → List (List ℕ)
sent filling f = flush_tuples (values_of filling f.table) f.rows f.shape

abbrev goes : Side → ℕ → Flushed → Bool
goes side c f = is_flush_of side c f.shape

part_step : (filling : Filling) (t m n : ℕ) (flush : FlushShape) (rest : List Flushed) (fs : List FlushShape) (more : List (List ℕ)) (b : Bool)
    → flat_map (sent filling) rest ≡ flat_map (flush_tuples (values_of filling t) m) fs ++ more
    → flat_map (sent filling) (cond b (record { table = t; number = n; rows = m; shape = flush } ∷ rest) rest) ≡ flat_map (flush_tuples (values_of filling t) m) (cond b (flush ∷ fs) fs) ++ more
part_step filling t m n flush rest fs more true h = ap (λ x. flush_tuples (values_of filling t) m flush ++ x) h ∙ sym (append_assoc (flush_tuples (values_of filling t) m flush) (flat_map (flush_tuples (values_of filling t) m) fs) more)
part_step filling t m n flush rest fs more false h = h

-- those of a table, and then of more flushes
table_part : (filling : Filling) (side : Side) (c t m n : ℕ) (fs : List FlushShape) (more : List Flushed)
    → flat_map (sent filling) (filter (goes side c) (flushes_of t m n fs ++ more)) ≡ flat_map (flush_tuples (values_of filling t) m) (filter (is_flush_of side c) fs) ++ flat_map (sent filling) (filter (goes side c) more)
table_part filling side c t m n [] more = refl
table_part filling side c t m n (flush ∷ fs) more =
    part_step filling t m n flush (filter (goes side c) (flushes_of t m (n + 1) fs ++ more)) (filter (is_flush_of side c) fs) (flat_map (sent filling) (filter (goes side c) more)) (is_flush_of side c flush) (table_part filling side c t m (n + 1) fs more)

tables_part : (filling : Filling) (side : Side) (c : ℕ) (rows : List ℕ) (t : ℕ) (tables : List TableShape)
    → flat_map (sent filling) (filter (goes side c) (flushes_from rows t tables)) ≡ table_tuples side c filling rows t tables
tables_part filling side c rows t [] = refl
tables_part filling side c rows t (table ∷ tables) =
    table_part filling side c t (slice_index rows t) 0 table.flushes (flushes_from rows (t + 1) tables)
    ∙ ap (λ x. flat_map (flush_tuples (values_of filling t) (slice_index rows t)) (filter (is_flush_of side c) table.flushes) ++ x) (tables_part filling side c rows (t + 1) tables)

tuples_are : (shape : ShapeParts) (rows : List ℕ) (filling : Filling) (side : Side) (c : ℕ) → tuples_of (values_of filling) side c (channels_of shape rows) ≡ tuples side shape rows filling c
tuples_are shape rows filling side c = ap (λ x. x ++ boundary_tuples side c shape.boundaries) (tables_part filling side c rows 0 shape.tables)

-- ---- the balances
abbrev width : ChannelShape → ℕ
width channel = channel.width

balance_is : (shape : ShapeParts) (rows : List ℕ) (filling : Filling) (c w : ℕ)
    → balance_of shape rows filling c w ≡ record { width = w; pushed = tuples_of (values_of filling) Push c (channels_of shape rows); pulled = tuples_of (values_of filling) Pull c (channels_of shape rows) }
balance_is shape rows filling c w = (λ i. record { width = w; pushed = sym (tuples_are shape rows filling Push c) i; pulled = sym (tuples_are shape rows filling Pull c) i })

-- what holds of each channel's balance, and what of all balances
all_balances : (P : Balance → Type 0) (shape : ShapeParts) (rows : List ℕ) (filling : Filling) (c : ℕ) (cs : List ChannelShape)
    → ((k : ℕ) (channel : ChannelShape) → slice_get cs k ≡ Some channel → P (balance_of shape rows filling (c + k) channel.width)) → AllByRecursion P (balances_from (values_of filling) (channels_of shape rows) c (map width cs))
all_balances P shape rows filling c [] h = tt
all_balances P shape rows filling c (channel ∷ cs) h = (
  subst P (balance_is shape rows filling c channel.width) (let e : c + 0 ≡ c = omega arith in subst (λ (n : ℕ). P (balance_of shape rows filling n channel.width)) e (h 0 channel refl)),
  all_balances P shape rows filling (c + 1) cs (λ k other at. let e : c + suc k ≡ c + 1 + k = omega arith in subst (λ (n : ℕ). P (balance_of shape rows filling n other.width)) e (h (suc k) other at)),
)

one_balance : (P : Balance → Type 0) (shape : ShapeParts) (rows : List ℕ) (filling : Filling) (c : ℕ) (cs : List ChannelShape) → AllByRecursion P (balances_from (values_of filling) (channels_of shape rows) c (map width cs))
    → (k : ℕ) (channel : ChannelShape) → slice_get cs k ≡ Some channel → P (balance_of shape rows filling (c + k) channel.width)
one_balance P shape rows filling c [] h k channel at = absurd cc
one_balance P shape rows filling c (own ∷ cs) h zero channel at =
    let e : c ≡ c + 0 = omega arith in
    let same : own ≡ channel = cc in
    subst (λ (n : ℕ). P (balance_of shape rows filling n channel.width)) e
    (subst (λ (x : ChannelShape). P (balance_of shape rows filling c x.width)) same (subst P (sym (balance_is shape rows filling c own.width)) h.0))
one_balance P shape rows filling c (own ∷ cs) h (suc k) channel at =
    let e : c + 1 + k ≡ c + suc k = omega arith in
    subst (λ (n : ℕ). P (balance_of shape rows filling n channel.width)) e (one_balance P shape rows filling (c + 1) cs h.1 k channel at)

-- ---- widths
abbrev IsOfWidth : ℕ → List ℕ → Type 0
IsOfWidth w t = length t ≡ w

abbrev FlushIsOfWidth : Side → ℕ → ℕ → FlushShape → Type 0
FlushIsOfWidth side c w flush = is_flush_of side c flush ≡ true → length flush.columns ≡ w

flush_wide : (values : ℕ → List ℕ) (m w : ℕ) (flush : FlushShape) → length flush.columns ≡ w → AllByRecursion (IsOfWidth w) (flush_tuples values m flush)
flush_wide values m w flush h = all_map (IsOfWidth w) (tuple_at values flush) (filter (is_taken values flush.selector) (rows_below m)) (λ row. length-map flush.columns (λ c. slice_index (values c) row) ∙ h)

flushes_wide : (values : ℕ → List ℕ) (m : ℕ) (side : Side) (c w : ℕ) (fs : List FlushShape) → ((f : ℕ) (flush : FlushShape) → slice_get fs f ≡ Some flush → FlushIsOfWidth side c w flush)
    → AllByRecursion (IsOfWidth w) (flat_map (flush_tuples values m) (filter (is_flush_of side c) fs))
flushes_wide values m side c w [] h = tt
flushes_wide values m side c w (flush ∷ fs) h =
    let rest = flushes_wide values m side c w fs (λ f other at. h (suc f) other at) in
    elim (is_flush_of side c flush) as (λ b. is_flush_of side c flush ≡ b → AllByRecursion (IsOfWidth w) (flat_map (flush_tuples values m) (cond b (flush ∷ filter (is_flush_of side c) fs) (filter (is_flush_of side c) fs)))) [
      | true ↦ λ e. all_append (IsOfWidth w) (flush_tuples values m flush) (flat_map (flush_tuples values m) (filter (is_flush_of side c) fs)) (flush_wide values m w flush (h 0 flush refl e)) rest
      | false ↦ λ e. rest
    ] refl

tables_wide : (filling : Filling) (rows : List ℕ) (side : Side) (c w t : ℕ) (tables : List TableShape)
    → ((k : ℕ) (table : TableShape) → slice_get tables k ≡ Some table → (f : ℕ) (flush : FlushShape) → slice_get table.flushes f ≡ Some flush → FlushIsOfWidth side c w flush)
    → AllByRecursion (IsOfWidth w) (table_tuples side c filling rows t tables)
tables_wide filling rows side c w t [] h = tt
tables_wide filling rows side c w t (table ∷ tables) h =
    all_append (IsOfWidth w) (flat_map (flush_tuples (values_of filling t) (slice_index rows t)) (filter (is_flush_of side c) table.flushes)) (table_tuples side c filling rows (t + 1) tables)
    (flushes_wide (values_of filling t) (slice_index rows t) side c w table.flushes (h 0 table refl)) (tables_wide filling rows side c w (t + 1) tables (λ k other at. h (suc k) other at))

boundaries_wide : (side : Side) (c w : ℕ) (bs : List BoundaryShape) → ((b : ℕ) (boundary : BoundaryShape) → slice_get bs b ≡ Some boundary → is_boundary_of side c boundary ≡ true → length boundary.values ≡ w)
    → AllByRecursion (IsOfWidth w) (boundary_tuples side c bs)
boundaries_wide side c w [] h = tt
boundaries_wide side c w (b ∷ bs) h =
    let rest = boundaries_wide side c w bs (λ k other at. h (suc k) other at) in
    elim (is_boundary_of side c b) as (λ t. is_boundary_of side c b ≡ t → AllByRecursion (IsOfWidth w) (map (λ (b : BoundaryShape). b.values) (cond t (b ∷ filter (is_boundary_of side c) bs) (filter (is_boundary_of side c) bs)))) [
      | true ↦ λ e. (h 0 b refl e, rest)
      | false ↦ λ e. rest
    ] refl

width_at : (n w : ℕ) (o : Option ChannelShape) (channel : ChannelShape) → o ≡ Some channel → IsSomeAnd o (λ (x : ChannelShape). n ≡ x.width) → n ≡ channel.width
width_at n w None channel e h = absurd h
width_at n w (Some x) channel e h = let d : x ≡ channel = cc in h ∙ ap width d

same_channel : (one other : Side) (c k : ℕ) → (same_side one other && c == k) ≡ true → c ≡ k
same_channel one other c k h = eqb-true c k (and_parts (same_side one other) (c == k) h).1

side_wide : (shape : ShapeParts) (rows : List ℕ) (filling : Filling) (side : Side) (c : ℕ) (channel : ChannelShape) → ShapeFits shape → slice_get shape.channels c ≡ Some channel
    → AllByRecursion (IsOfWidth channel.width) (tuples side shape rows filling c)
side_wide shape rows filling side c channel fits at =
    all_append (IsOfWidth channel.width) (table_tuples side c filling rows 0 shape.tables) (boundary_tuples side c shape.boundaries)
    (tables_wide filling rows side c channel.width 0 shape.tables (λ t table here f flush own goes.
    width_at (length flush.columns) channel.width (slice_get shape.channels flush.channel) channel (ap (slice_get shape.channels) (sym (same_channel side flush.side c flush.channel goes)) ∙ at) (fits.flushes t table here f flush own).width))
    (boundaries_wide side c channel.width shape.boundaries (λ b boundary here goes.
    width_at (length boundary.values) channel.width (slice_get shape.channels boundary.channel) channel (ap (slice_get shape.channels) (sym (same_channel side boundary.side c boundary.channel goes)) ∙ at) (fits.boundaries b boundary here).width))

-- ---- counts
flush_few : (values : ℕ → List ℕ) (m : ℕ) (flush : FlushShape) → length (flush_tuples values m flush) ≤ m
flush_few values m flush =
    let a = length-map (filter (is_taken values flush.selector) (rows_below m)) (tuple_at values flush) in
    let b = filter_short (is_taken values flush.selector) (rows_below m) in
    let c = length-tabulate m (λ row. row) in
    omega arith

flushes_few : (values : ℕ → List ℕ) (m : ℕ) (fs : List FlushShape) → length (flat_map (flush_tuples values m) fs) ≤ length fs * m
flushes_few values m [] = omega arith
flushes_few values m (flush ∷ fs) =
    let a = flush_few values m flush in
    let b = flushes_few values m fs in
    let c = length-append (flush_tuples values m flush) (flat_map (flush_tuples values m) fs) in
    let d : suc (length fs) * m ≡ m + length fs * m = omega arith in
    omega arith

tables_few : (filling : Filling) (rows : List ℕ) (side : Side) (c t : ℕ) (tables : List TableShape) → length (table_tuples side c filling rows t tables) ≤ flush_rows side c rows t tables
tables_few filling rows side c t [] = omega arith
tables_few filling rows side c t (table ∷ tables) =
    let fs = filter (is_flush_of side c) table.flushes in
    let a = flushes_few (values_of filling t) (slice_index rows t) fs in
    let b = tables_few filling rows side c (t + 1) tables in
    let d = length-append (flat_map (flush_tuples (values_of filling t) (slice_index rows t)) fs) (table_tuples side c filling rows (t + 1) tables) in
    omega arith

side_few : (shape : ShapeParts) (rows : List ℕ) (filling : Filling) (side : Side) (c : ℕ) → length (tuples side shape rows filling c) ≤ most_tuples side shape rows c
side_few shape rows filling side c =
    let a = tables_few filling rows side c 0 shape.tables in
    let b = length-map (filter (is_boundary_of side c) shape.boundaries) (λ (b : BoundaryShape). b.values) in
    let d = length-append (table_tuples side c filling rows 0 shape.tables) (boundary_tuples side c shape.boundaries) in
    omega arith

-- the number of a channel is among those of all
alpha_among : (shape : ShapeParts) (rows : List ℕ) (c : ℕ) (cs : List ChannelShape) (k : ℕ) (channel : ChannelShape) → slice_get cs k ≡ Some channel
    → (most_tuples Push shape rows (c + k) + most_tuples Pull shape rows (c + k)) * (channel.width - 1) ≤ greatest (alpha_counts shape rows c cs)
alpha_among shape rows c [] k channel at = absurd cc
alpha_among shape rows c (own ∷ cs) zero channel at =
    let same : own ≡ channel = cc in
    let e : c ≡ c + 0 = omega arith in
    subst (λ (n : ℕ). (most_tuples Push shape rows n + most_tuples Pull shape rows n) * (channel.width - 1) ≤ greatest (alpha_counts shape rows c (own ∷ cs))) e
    (subst (λ (x : ChannelShape). (most_tuples Push shape rows c + most_tuples Pull shape rows c) * (x.width - 1) ≤ greatest (alpha_counts shape rows c (own ∷ cs))) same
    (le-max_left ((most_tuples Push shape rows c + most_tuples Pull shape rows c) * (own.width - 1)) (greatest (alpha_counts shape rows (c + 1) cs))))
alpha_among shape rows c (own ∷ cs) (suc k) channel at =
    let e : c + 1 + k ≡ c + suc k = omega arith in
    let h = alpha_among shape rows (c + 1) cs k channel at in
    let m = le-max_right ((most_tuples Push shape rows c + most_tuples Pull shape rows c) * (own.width - 1)) (greatest (alpha_counts shape rows (c + 1) cs)) in
    subst (λ (n : ℕ). (most_tuples Push shape rows n + most_tuples Pull shape rows n) * (channel.width - 1) ≤ greatest (alpha_counts shape rows c (own ∷ cs))) e (omega arith)

gamma_among : (shape : ShapeParts) (rows : List ℕ) (c : ℕ) (cs : List ChannelShape) (k : ℕ) (channel : ChannelShape) → slice_get cs k ≡ Some channel
    → max (most_tuples Push shape rows (c + k)) (most_tuples Pull shape rows (c + k)) ≤ greatest (gamma_counts shape rows c cs)
gamma_among shape rows c [] k channel at = absurd cc
gamma_among shape rows c (own ∷ cs) zero channel at =
    let e : c ≡ c + 0 = omega arith in
    subst (λ (n : ℕ). max (most_tuples Push shape rows n) (most_tuples Pull shape rows n) ≤ greatest (gamma_counts shape rows c (own ∷ cs))) e
    (le-max_left (max (most_tuples Push shape rows c) (most_tuples Pull shape rows c)) (greatest (gamma_counts shape rows (c + 1) cs)))
gamma_among shape rows c (own ∷ cs) (suc k) channel at =
    let e : c + 1 + k ≡ c + suc k = omega arith in
    let h = gamma_among shape rows (c + 1) cs k channel at in
    let m = le-max_right (max (most_tuples Push shape rows c) (most_tuples Pull shape rows c)) (greatest (gamma_counts shape rows (c + 1) cs)) in
    subst (λ (n : ℕ). max (most_tuples Push shape rows n) (most_tuples Pull shape rows n) ≤ greatest (gamma_counts shape rows c (own ∷ cs))) e (omega arith)

few_alphas : (p q r s w k : ℕ) → p ≤ r → q ≤ s → (r + s) * w ≤ k → (p + q) * w ≤ k
few_alphas p q r s w k a b h = let m = mul-le-mul_right w (let l : p + q ≤ r + s = omega arith in l) in omega arith

few_gammas : (p q r s k : ℕ) → p ≤ r → q ≤ s → max r s ≤ k → max p q ≤ k
few_gammas p q r s k a b h = omega arith

-- ---- selectors
column_has_bits : (values : List ℕ) (column : ColumnShape) (y : ℕ) → column.level ≡ 0 → slice_index values y < 2 ^ (2 ^ column.level) → slice_index values y < 2
column_has_bits values column y e h = subst (λ (l : ℕ). slice_index values y < 2 ^ (2 ^ l)) e h

selector_has_bits : (filling : Filling) (rows : List ℕ) (tables : List TableShape) (t : ℕ) (table : TableShape) → IsFilling tables rows filling → slice_get tables t ≡ Some table
    → (selector : Option ℕ) → IsSelector table.columns selector → (y : ℕ) → selector_at (values_of filling t) selector y < 2
selector_has_bits filling rows tables t table fills at None is y = omega arith
selector_has_bits filling rows tables t table fills at (Some s) is y = go (slice_get table.columns s) refl is
  where
    go : (found : Option ColumnShape) → slice_get table.columns s ≡ found → IsSomeAnd found (λ (column : ColumnShape). (column.level ≡ 0) × (column.log_values ≡ 0)) → slice_index (values_of filling t s) y < 2
    go None e is = absurd is
    go (Some column) e is = column_has_bits (values_of filling t s) column y is.0 ((fills.columns t s table column at e).fits y)

table_has_bits : (filling : Filling) (t m n : ℕ) (fs : List FlushShape) → ((f : ℕ) (flush : FlushShape) → slice_get fs f ≡ Some flush → (y : ℕ) → selector_at (values_of filling t) flush.selector y < 2)
    → AllByRecursion (HasBits (values_of filling)) (flushes_of t m n fs)
table_has_bits filling t m n [] h = tt
table_has_bits filling t m n (flush ∷ fs) h = ((λ row below. h 0 flush refl row), table_has_bits filling t m (n + 1) fs (λ f other at. h (suc f) other at))

tables_have_bits : (filling : Filling) (rows : List ℕ) (t : ℕ) (tables : List TableShape)
    → ((k : ℕ) (table : TableShape) → slice_get tables k ≡ Some table → (f : ℕ) (flush : FlushShape) → slice_get table.flushes f ≡ Some flush → (y : ℕ) → selector_at (values_of filling (t + k)) flush.selector y < 2)
    → AllByRecursion (HasBits (values_of filling)) (flushes_from rows t tables)
tables_have_bits filling rows t [] h = tt
tables_have_bits filling rows t (table ∷ tables) h =
    let e : t + 0 ≡ t = omega arith in
    all_append (HasBits (values_of filling)) (flushes_of t (slice_index rows t) 0 table.flushes) (flushes_from rows (t + 1) tables)
    (table_has_bits filling t (slice_index rows t) 0 table.flushes (λ f flush own y. subst (λ (n : ℕ). selector_at (values_of filling n) flush.selector y < 2) e (h 0 table refl f flush own y)))
    (tables_have_bits filling rows (t + 1) tables (λ k other at f flush own y. let d : t + suc k ≡ t + 1 + k = omega arith in subst (λ (n : ℕ). selector_at (values_of filling n) flush.selector y < 2) d (h (suc k) other at f flush own y)))

shape_has_bits : (shape : ShapeParts) (rows : List ℕ) (filling : Filling) → ShapeFits shape → IsFilling shape.tables rows filling → AllByRecursion (HasBits (values_of filling)) (flushes_from rows 0 shape.tables)
shape_has_bits shape rows filling fits fills =
    tables_have_bits filling rows 0 shape.tables (λ t table at f flush own y.
    let e : t ≡ 0 + t = omega arith in
    subst (λ (n : ℕ). selector_at (values_of filling n) flush.selector y < 2) e (selector_has_bits filling rows shape.tables t table fills at flush.selector (fits.flushes t table at f flush own).selector y))

-- ---- where there is no channel there is no flush
no_channel : (n : ℕ) (cs : List ChannelShape) (k : ℕ) → cs ≡ [] → IsSomeAnd (slice_get cs k) (λ (x : ChannelShape). n ≡ x.width) → ⊥
no_channel n [] k e h = h
no_channel n (c ∷ cs) k e h = absurd cc

no_flushes_of : (cs : List ChannelShape) (columns : List ColumnShape) (t m n : ℕ) (fs : List FlushShape) → cs ≡ [] → ((f : ℕ) (flush : FlushShape) → slice_get fs f ≡ Some flush → FlushFits cs columns flush) → flushes_of t m n fs ≡ []
no_flushes_of cs columns t m n [] e h = refl
no_flushes_of cs columns t m n (flush ∷ fs) e h = absurd (no_channel (length flush.columns) cs flush.channel e (h 0 flush refl).width)

no_flushes : (cs : List ChannelShape) (rows : List ℕ) (t : ℕ) (tables : List TableShape) → cs ≡ [] → ((k : ℕ) (table : TableShape) → slice_get tables k ≡ Some table → FlushesFit cs table) → flushes_from rows t tables ≡ []
no_flushes cs rows t [] e h = refl
no_flushes cs rows t (table ∷ tables) e h =
    (λ i. no_flushes_of cs table.columns t (slice_index rows t) 0 table.flushes e (h 0 table refl) i ++ no_flushes cs rows (t + 1) tables e (λ k other at. h (suc k) other at) i)

no_widths : (shape : ShapeParts) (rows : List ℕ) → ShapeFits shape → (cs : List ChannelShape) → shape.channels ≡ cs → map width cs ≡ [] → flushes_from rows 0 shape.tables ≡ []
no_widths shape rows fits [] e h = no_flushes shape.channels rows 0 shape.tables e fits.flushes
no_widths shape rows fits (c ∷ cs) e h = absurd cc

pub without_channels : (shape : ShapeParts) (rows : List ℕ) → ShapeFits shape → map width shape.channels ≡ [] → flushes_from rows 0 shape.tables ≡ []
without_channels shape rows fits h = no_widths shape rows fits shape.channels refl h

-- ---- the first state
channels_fit : (shape : ShapeParts) (rows : List ℕ) (filling : Filling) → ShapeFits shape → IsFilling shape.tables rows filling → ChannelsFit (values_of filling) (channels_of shape rows)
channels_fit shape rows filling fits fills = record {
  wide = all_balances IsWide shape rows filling 0 shape.channels (λ c channel at.
      let e : c ≡ 0 + c = omega arith in
      subst (λ (n : ℕ). IsWide (balance_of shape rows filling n channel.width)) e ((fits.channels c channel at).wide, side_wide shape rows filling Push c channel fits at, side_wide shape rows filling Pull c channel fits at));
  alphas = all_balances (λ b. (length b.pushed + length b.pulled) * (b.width - 1) ≤ alpha_count shape rows) shape rows filling 0 shape.channels (λ c channel at.
      few_alphas _ _ _ _ _ _ (side_few shape rows filling Push (0 + c)) (side_few shape rows filling Pull (0 + c)) (alpha_among shape rows 0 shape.channels c channel at));
  gammas = all_balances (λ b. max (length b.pushed) (length b.pulled) ≤ gamma_count shape rows) shape rows filling 0 shape.channels (λ c channel at.
      few_gammas _ _ _ _ _ (side_few shape rows filling Push (0 + c)) (side_few shape rows filling Pull (0 + c)) (gamma_among shape rows 0 shape.channels c channel at));
  bits = shape_has_bits shape rows filling fits fills;
}

-- of a list of channels that is the shape's
fits_at : (shape : ShapeParts) (rows : List ℕ) (filling : Filling) → ShapeFits shape → IsFilling shape.tables rows filling → (cs : List ChannelShape) → shape.channels ≡ cs → BalancingFits (values_of filling) (opened (channels_of shape rows) (map width cs))
fits_at shape rows filling fits fills [] e = ap length (sym (no_flushes shape.channels rows 0 shape.tables e fits.flushes))
fits_at shape rows filling fits fills (c ∷ cs) e = channels_fit shape rows filling fits fills

in_balance : (shape : ShapeParts) (rows : List ℕ) (filling : Filling) → AllByRecursion IsBalanced (balances_from (values_of filling) (channels_of shape rows) 0 (map width shape.channels)) → (channel : ℕ) → IsInBalance shape rows filling channel
in_balance shape rows filling h channel c at =
    let e : 0 + channel ≡ channel = omega arith in
    subst (λ (n : ℕ). IsBalanced (balance_of shape rows filling n c.width)) e (one_balance IsBalanced shape rows filling 0 shape.channels h channel c at)

all_in_balance : (shape : ShapeParts) (rows : List ℕ) (filling : Filling) → ((channel : ℕ) → IsInBalance shape rows filling channel) → AllByRecursion IsBalanced (balances_from (values_of filling) (channels_of shape rows) 0 (map width shape.channels))
all_in_balance shape rows filling h =
    all_balances IsBalanced shape rows filling 0 shape.channels (λ channel c at.
    let e : channel ≡ 0 + channel = omega arith in
    subst (λ (n : ℕ). IsBalanced (balance_of shape rows filling n c.width)) e (h channel c at))

same_at : (shape : ShapeParts) (rows : List ℕ) (filling : Filling) → ShapeFits shape → (cs : List ChannelShape) → shape.channels ≡ cs
    → BalancingHolds (values_of filling) (opened (channels_of shape rows) (map width cs)) ↔ ((channel : ℕ) → IsInBalance shape rows filling channel)
same_at shape rows filling fits [] e = (
  (λ h channel c at. absurd (let f : None ≡ Some c = sym (ap (λ cs. slice_get cs channel) e) ∙ at in cc)),
  (λ h. (let n = no_flushes shape.channels rows 0 shape.tables e fits.flushes in sym (ap (map _) n))),
)
same_at shape rows filling fits (c ∷ cs) e = (in_balance shape rows filling, all_in_balance shape rows filling)

pub first_means : FirstStatesAreMeant
first_means shape rows filling fits fills = record {
  fits = fits_at shape rows filling fits fills shape.channels refl;
  same = same_at shape rows filling fits shape.channels refl;
}
