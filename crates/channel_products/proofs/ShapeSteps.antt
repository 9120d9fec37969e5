-- Steps of what is read from a shape.
use Rattle.std.proofs.Common.{◌≡◌, ◌∙◌, ℕ, suc, ◌+◌, ◌*◌, ◌<◌, ◌≤◌, max, List, [], ◌∷◌, length, map, drop, get_or, Some, refl, sym, ap, subst, arith, length-append}
use Rattle.std.specs.List.{slice_get, slice_index}
use Rattle.std.proofs.lemmas.List.{drop_more, length-map}
use Rattle.list_laws.proofs.Lists.{item_here}
use Rattle.table_text.specs.declared.decl.Side.TheVariants.{Push, Pull}
use Rattle.table_shape.specs.declared.shape.ChannelShape.{ChannelShape}
use Rattle.table_shape.specs.declared.shape.FlushShape.{FlushShape}
use Rattle.table_shape.specs.declared.shape.TableShape.{TableShape}
use Rattle.table_shape.specs.Counts.{gamma_counts, most_tuples}
use Rattle.table_shape.specs.Fits.{ShapeFits}
use Rattle.table_shape.specs.Parts.{ShapeParts}
use Rattle.table_shape.specs.Value.{greatest}
use Rattle.channel_products.specs.Channels.{flushes_from, flushes_of}

-- ---- sizes
pub flushes_few : (shape : ShapeParts) (tables : List TableShape) (i : ℕ) (table : TableShape) → tables ≡ shape.tables → i < length tables → table ≡ get_or tables i table → ShapeFits shape → length table.flushes ≤ 64
flushes_few shape tables i table all h e fit = (fit.tables i table (subst (λ (ts : List TableShape). slice_get ts i ≡ Some table) all (item_here tables i table h e))).few_flushes

length-flushes_of : (t m n : ℕ) (fs : List FlushShape) → length (flushes_of t m n fs) ≡ length fs
length-flushes_of t m n [] = refl
length-flushes_of t m n (f ∷ fs) = ap suc (length-flushes_of t m (n + 1) fs)

all_few : (rows : List ℕ) (t : ℕ) (tables : List TableShape) → ((i : ℕ) (table : TableShape) → slice_get tables i ≡ Some table → length table.flushes ≤ 64) → length (flushes_from rows t tables) ≤ length tables * 64
all_few rows t [] h = omega arith
all_few rows t (table ∷ tables) h =
    let a = h 0 table refl in
    let b = all_few rows (t + 1) tables (λ i other at. h (suc i) other at) in
    let c = length-append (flushes_of t (slice_index rows t) 0 table.flushes) (flushes_from rows (t + 1) tables) in
    let d = length-flushes_of t (slice_index rows t) 0 table.flushes in
    omega arith

pub shape_flushes_few : (shape : ShapeParts) (rows : List ℕ) → ShapeFits shape → length (flushes_from rows 0 shape.tables) ≤ 4096
shape_flushes_few shape rows fit =
    let a = all_few rows 0 shape.tables (λ i table at. (fit.tables i table at).few_flushes) in
    let b = fit.few_tables in
    omega arith

pub shape_widths_few : (shape : ShapeParts) → ShapeFits shape → length (map (λ (c : ChannelShape). c.width) shape.channels) ≤ 64
shape_widths_few shape fit = let a = length-map shape.channels (λ (c : ChannelShape). c.width) in let b = fit.few_channels in omega arith

-- ---- the greatest number of the channels
some_first : {X : Type 0} (xs : List X) (i : ℕ) → i < length xs → (x : X) × (drop i xs ≡ x ∷ drop (i + 1) xs)
some_first [] i h = absurd (omega arith)
some_first (x ∷ xs) i h = (get_or (x ∷ xs) i x, drop_more (x ∷ xs) i x h)

pub gamma_more : (shape : ShapeParts) (rows : List ℕ) (c n new : ℕ) → c < length shape.channels → new ≡ max (max (most_tuples Push shape rows c) (most_tuples Pull shape rows c)) n
    → max n (greatest (gamma_counts shape rows c (drop c shape.channels))) ≡ greatest (gamma_counts shape rows 0 shape.channels)
    → max new (greatest (gamma_counts shape rows (c + 1) (drop (c + 1) shape.channels))) ≡ greatest (gamma_counts shape rows 0 shape.channels)
gamma_more shape rows c n new below is so_far = go (drop c shape.channels) (drop (c + 1) shape.channels) (some_first shape.channels c below) so_far
  where
    go : (own rest : List ChannelShape) → (x : ChannelShape) × (own ≡ x ∷ rest) → max n (greatest (gamma_counts shape rows c own)) ≡ greatest (gamma_counts shape rows 0 shape.channels)
        → max new (greatest (gamma_counts shape rows (c + 1) rest)) ≡ greatest (gamma_counts shape rows 0 shape.channels)
    go own rest t h = let k = sym (ap (λ cs. max n (greatest (gamma_counts shape rows c cs))) t.1) ∙ h in omega arith
