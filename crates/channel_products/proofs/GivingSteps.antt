-- What the prover of a flush's product gives.
use Rattle.std.proofs.Common.{◌≡◌, ◌∙◌, ℕ, zero, suc, ◌+◌, ◌^◌, ◌<◌, cond, List, [], ◌∷◌, ◌++◌, Option, None, Some, is_some, take, drop, length, map, refl, sym, ap, subst, arith, bit_xor}
use Rattle.tower_laws.specs.Tower.{mul}
use Rattle.tower_laws.proofs.Field.{identity, field_terms}
use Rattle.cube_laws.specs.Extension.{extension, fold_all, weights}
use Rattle.cube_laws.specs.SumClaim.{AllLong, row}
use Rattle.cube_laws.proofs.Coordinates.{extension_halves, last_value}
use Rattle.sumcheck.specs.Column.{column_claims}
use Rattle.sumcheck.specs.Ending.{Ending}
use Rattle.sumcheck.specs.Machine.{Filling, AwaitsSome}
use Rattle.sumcheck.specs.Proving.{Proving, Goes, sum_of}
use Rattle.sumcheck.specs.Rounds.{Rounds, sum_claim, round_claim, true_round, variables}
use Rattle.sumcheck.specs.Summing.{adding, summed_entries, summed_honest, summed_message}
use Rattle.sumcheck.proofs.Following.{goes_passed, goes_round}
use Rattle.sumcheck.proofs.Told.{claims_told}
use Rattle.channel_products.specs.declared.halves.Halves.{Halves}
use Rattle.channel_products.specs.declared.leaf_term.LeafTerm.{LeafTerm}
use Rattle.channel_products.specs.Descent.{Layered, Pointed, layered_sum, leaf_columns, leaves_sum, next_layer, row_steps, row_vars, selector_list}
use Rattle.channel_products.specs.DescentProver.{AddsLeaves, FollowsLeaves}
use Rattle.channel_products.specs.Given.{selector_columns}
use Rattle.channel_products.specs.Summands.{halves_form, leaf_term_form}

-- ---- the tables' values once all variables are set
first_values : (z : List ℕ) (lists : List (List ℕ)) → AllLong (2 ^ length z) lists → row (map (fold_all z) lists) 0 ≡ map (λ list. extension list z) lists
first_values z [] h = refl
first_values z (list ∷ lists) h = (λ i. last_value list z h.0 i ∷ first_values z lists h.1 i)

all_set : (z : List ℕ) (kept lists : List (List ℕ)) → kept ≡ map (fold_all z) lists → AllLong (2 ^ (length z + 0)) lists → row kept 0 ≡ map (λ list. extension list z) lists
all_set z kept lists e h =
    let k : length z + 0 ≡ length z = omega arith in
    ap (λ ls. row ls 0) e ∙ first_values z lists (subst (λ m. AllLong (2 ^ m) lists) k h)

-- ---- of a layer
low_half : (a b : ℕ) → a ≡ bit_xor (mul (bit_xor 1 0) a) (mul 0 b)
low_half a b = identity (a ∷ b ∷ []) (search field_terms depth 60 fits 20000) refl

high_half : (a b : ℕ) → b ≡ bit_xor (mul (bit_xor 1 1) a) (mul 1 b)
high_half a b = identity (a ∷ b ∷ []) (search field_terms depth 60 fits 20000) refl

both_halves : (k : ℕ) (z below : List ℕ) → length z ≡ k → extension (take (2 ^ k) below) z ∷ extension (drop (2 ^ k) below) z ∷ [] ≡ extension below (z ++ 0 ∷ []) ∷ extension below (z ++ 1 ∷ []) ∷ []
both_halves k z below l =
    let a = ap (λ n. extension (take (2 ^ n) below) z) (sym l) ∙ low_half _ _ ∙ sym (extension_halves below z 0) in
    let b = ap (λ n. extension (drop (2 ^ n) below) z) (sym l) ∙ high_half _ _ ∙ sym (extension_halves below z 1) in
    (λ i. a i ∷ b i ∷ [])

pub layer_round : (p : Proving Halves) (old new : List ℕ) → 0 < p.left → ((n : ℕ) → p.left ≡ suc n → new ≡ old ++ true_round (sum_of halves_form p) p.degree n [])
    → (F : Filling) (t : Layered) (r : Rounds) → Goes halves_form p (layered_sum.sum F t) r → AwaitsSome (summed_entries layered_sum (adding t r)) → new ≡ old ++ summed_honest layered_sum F (adding t r)
layer_round p old new l o F t (sum_claim d zero z c) h w = let k = h.left in absurd (omega arith)
layer_round p old new l o F t (sum_claim d (suc n) z c) h w = o n h.left ∙ ap (λ v. old ++ v) (goes_round halves_form p (layered_sum.sum F t) d n z c h)
layer_round p old new l o F t (round_claim d n z v) h w = absurd w

pub layer_final : (p : Proving Halves) (old new finals v : List ℕ) → p.left ≡ 0 → finals ≡ row p.lists 0 → v ≡ drop 1 finals → new ≡ old ++ v
    → (F : Filling) (t : Layered) (r : Rounds) → Goes halves_form p (layered_sum.sum F t) r → variables r ≡ t.layer → AwaitsSome (summed_entries layered_sum (adding t r)) → new ≡ old ++ summed_honest layered_sum F (adding t r)
layer_final p old new finals v l f e o F t (sum_claim d (suc n) z c) h a w = let k = h.left in absurd (omega arith)
layer_final p old new finals v l f e o F t (round_claim d n z u) h a w = absurd w
layer_final p old new finals v l f e o F t (sum_claim d zero z c) h a w =
    let k : length z ≡ t.layer = omega arith in
    o ∙ ap (λ v. old ++ v) (e ∙ ap (drop 1) (f ∙ all_set z p.lists (layered_sum.sum F t).lists h.lists h.long) ∙ both_halves t.layer z (next_layer F t) k)

-- ---- of the leaves
-- how many values come before those that are told
abbrev pub skipped : Option ℕ → ℕ
skipped o = cond (is_some o) 2 3

column_finals : (values : ℕ → List ℕ) (n x y : ℕ) (z cs : List ℕ) (o : Option ℕ) → drop (skipped o) (x ∷ y ∷ extension (selector_list values n o) z ∷ map (λ list. extension list z) (map values cs)) ≡ map (λ list. extension list z) (map values (selector_columns o ++ cs))
column_finals values n x y z cs None = refl
column_finals values n x y z cs (Some s) = refl

pub leaves_round : (p : Proving LeafTerm) (e : Ending) (old new : List ℕ) → 0 < p.left → ((n : ℕ) → p.left ≡ suc n → new ≡ old ++ true_round (sum_of leaf_term_form p) p.degree n [])
    → (F : Filling) (t : Pointed) (r : Rounds) → AddsLeaves p e F t r → AwaitsSome (summed_entries leaves_sum (adding t r))
    → (new ≡ old ++ summed_honest leaves_sum F (adding t r)) × FollowsLeaves p e F (summed_message leaves_sum (adding t r) (summed_honest leaves_sum F (adding t r)))
leaves_round p e old new l o F t (sum_claim d zero z c) h w = let k = h.goes.left in absurd (omega arith)
leaves_round p e old new l o F t (round_claim d n z v) h w = absurd w
leaves_round p e old new l o F t (sum_claim d (suc n) z c) h w = (
  o n h.goes.left ∙ ap (λ v. old ++ v) (goes_round leaf_term_form p (leaves_sum.sum F t) d n z c h.goes),
  record { goes = goes_passed leaf_term_form p (leaves_sum.sum F t) d n z c (true_round (leaves_sum.sum F t) d n z) h.goes; ending = h.ending; all = h.all },
)

told_values : (p : Proving LeafTerm) (F : Filling) (t : Pointed) (d c : ℕ) (z finals v : List ℕ) → Goes leaf_term_form p (leaves_sum.sum F t) (sum_claim d zero z c) → finals ≡ row p.lists 0 → v ≡ drop (skipped t.flushed.shape.selector) finals → v ≡ leaves_sum.finals F t z
told_values p F t d c z finals v h f e =
    let values = F t.flushed.table in
    e ∙ ap (drop (skipped t.flushed.shape.selector)) (f ∙ all_set z p.lists (leaves_sum.sum F t).lists h.lists h.long)
    ∙ column_finals values (row_vars t.flushed) (extension (weights t.point) z) (extension (row_steps t.flushed) z) z t.flushed.shape.columns t.flushed.shape.selector

pub leaves_final : (p : Proving LeafTerm) (e f : Ending) (old new finals v : List ℕ) (u : Pointed) → p.left ≡ 0 → finals ≡ row p.lists 0 → v ≡ drop (skipped u.flushed.shape.selector) finals → new ≡ old ++ v → f ≡ record e { claims = column_claims e.table e.point e.columns v }
    → (F : Filling) (t : Pointed) (r : Rounds) → u ≡ t → AddsLeaves p e F t r → AwaitsSome (summed_entries leaves_sum (adding t r))
    → (new ≡ old ++ summed_honest leaves_sum F (adding t r)) × FollowsLeaves p f F (summed_message leaves_sum (adding t r) (summed_honest leaves_sum F (adding t r)))
leaves_final p e f old new finals v u l a g o b F t (sum_claim d (suc n) z c) s h w = let k = h.goes.left in absurd (omega arith)
leaves_final p e f old new finals v u l a g o b F t (round_claim d n z x) s h w = absurd w
leaves_final p e f old new finals v u l a g o b F t (sum_claim d zero z c) s h w =
    let is = told_values p F t d c z finals v h.goes a (g ∙ ap (λ (x : Pointed). drop (skipped x.flushed.shape.selector) finals) s) in (
      o ∙ ap (λ v. old ++ v) is,
      record {
        told = ap (λ (x : Ending). x.claims) b ∙ (λ i. column_claims (h.ending i).table (h.ending i).point (h.ending i).columns (is i));
        hold = claims_told F t.flushed.table z (leaf_columns t.flushed);
      },
    )
