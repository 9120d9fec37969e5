-- How large the counts of alpha and gamma may be.
use Rattle.std.proofs.Common.{ℕ, suc, ◌+◌, ◌-◌, ◌*◌, ◌^◌, ◌≤◌, Bool, true, false, cond, List, [], ◌∷◌, length, arith}
use Rattle.std.specs.List.{AllByRecursion, filter, slice_index}
use Rattle.std.proofs.lemmas.Nat.{mul-le}
use Rattle.std.proofs.Math.Nat.{max-le}
use Rattle.table_text.specs.declared.decl.Side.{Side}
use Rattle.table_text.specs.declared.decl.Side.TheVariants.{Push, Pull}
use Rattle.table_shape.specs.declared.shape.ChannelShape.{ChannelShape}
use Rattle.table_shape.specs.declared.shape.TableShape.{TableShape}
use Rattle.table_shape.specs.Channels.{is_boundary_of, is_flush_of}
use Rattle.table_shape.specs.Counts.{alpha_count, alpha_counts, flush_rows, gamma_count, gamma_counts, most_tuples}
use Rattle.table_shape.specs.Fits.{ChannelFits, ShapeFits}
use Rattle.table_shape.specs.Parts.{ShapeParts}
use Rattle.table_shape.specs.Value.{greatest}
use Rattle.proof_plan.specs.Small.{TableIsSmall}
use Rattle.proof_plan.proofs.SmallShape.{all_from, tables_small}

abbrev pub FewRows : List ℕ → Type 0
FewRows rows = (t : ℕ) → slice_index rows t ≤ 1048576

pub filter_short : {X : Type 0} (p : X → Bool) (xs : List X) → length (filter p xs) ≤ length xs
filter_short p [] = omega arith
filter_short p (x ∷ xs) = let h = filter_short p xs in elim (p x) as (λ b. length (cond b (x ∷ filter p xs) (filter p xs)) ≤ suc (length xs)) [ true ↦ omega arith | false ↦ omega arith ]

flush_rows_few : (side : Side) (channel : ℕ) (rows : List ℕ) (t : ℕ) (tables : List TableShape) → FewRows rows → AllByRecursion TableIsSmall tables → flush_rows side channel rows t tables ≤ length tables * 67108864
flush_rows_few side channel rows t [] few h = omega arith
flush_rows_few side channel rows t (table ∷ tables) few h =
    let rest = flush_rows_few side channel rows (t + 1) tables few h.1 in
    let own = filter_short (is_flush_of side channel) table.flushes in
    let flushes = h.0.few_flushes in
    let one = mul-le (length (filter (is_flush_of side channel) table.flushes)) (slice_index rows t) 64 1048576 (omega arith) (few t) in
    omega arith

tuples_few : (side : Side) (shape : ShapeParts) (rows : List ℕ) (channel : ℕ) → ShapeFits shape → FewRows rows → most_tuples side shape rows channel ≤ 2 ^ 33
tuples_few side shape rows channel s few =
    let a = flush_rows_few side channel rows 0 shape.tables few (tables_small shape s) in
    let b = s.few_tables in
    let c = filter_short (is_boundary_of side channel) shape.boundaries in
    let d = s.few_boundaries in
    omega arith

alphas_few : (shape : ShapeParts) (rows : List ℕ) (c : ℕ) (channels : List ChannelShape) → ShapeFits shape → FewRows rows → AllByRecursion ChannelFits channels → greatest (alpha_counts shape rows c channels) ≤ 2 ^ 38
alphas_few shape rows c [] s few h = omega arith
alphas_few shape rows c (channel ∷ channels) s few h =
    let a = tuples_few Push shape rows c s few in
    let b = tuples_few Pull shape rows c s few in
    let w = h.0.few in
    let one = mul-le (most_tuples Push shape rows c + most_tuples Pull shape rows c) (channel.width - 1) (2 ^ 34) 16 (omega arith) (omega arith) in
    max-le one (alphas_few shape rows (c + 1) channels s few h.1)

gammas_few : (shape : ShapeParts) (rows : List ℕ) (c : ℕ) (channels : List ChannelShape) → ShapeFits shape → FewRows rows → greatest (gamma_counts shape rows c channels) ≤ 2 ^ 38
gammas_few shape rows c [] s few = omega arith
gammas_few shape rows c (channel ∷ channels) s few =
    let a = tuples_few Push shape rows c s few in
    let b = tuples_few Pull shape rows c s few in
    let one = max-le {k = 2 ^ 33} a b in
    max-le (omega arith) (gammas_few shape rows (c + 1) channels s few)

pub alpha_few : (shape : ShapeParts) (rows : List ℕ) → ShapeFits shape → FewRows rows → alpha_count shape rows ≤ 2 ^ 38
alpha_few shape rows s few = alphas_few shape rows 0 shape.channels s few (all_from ChannelFits shape.channels s.channels)

pub gamma_few : (shape : ShapeParts) (rows : List ℕ) → ShapeFits shape → FewRows rows → gamma_count shape rows ≤ 2 ^ 38
gamma_few shape rows s few = gammas_few shape rows 0 shape.channels s few
