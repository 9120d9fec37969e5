use Rattle.std.proofs.Common.{◌*◌, ◌^◌, ◌≤◌, ◌∙◌, ℕ, List, length, ap, subst, sym, vec_capacity, arith}
use Rattle.std.specs.List.{AllByRecursion}
use Rattle.cube_laws.specs.SumClaim.{AllLong}
use Rattle.sumcheck.specs.declared.column_claim.ColumnClaim.{ColumnClaim}
use Rattle.table_shape.specs.Placement.{Block, places_log}
use Rattle.bit_claim.specs.Bits.{IsPlaced}
use Rattle.bit_claim.specs.PackedSum.{OnWords, PackedFits, high_of, low_of, tables_of}
use Rattle.bit_claim.specs.Words.{word_bits}
use Rattle.bit_claim.proofs.PackedSteps.{fits_first, tables_begin}
use Rattle.bit_claim.proofs.WordRounds.{length-part_tables}
use Rattle.bit_claim.proofs.packed_sum.PackedSum.begin.Goals as goal

pub begin-requires-clause-some : goal.begin-requires-clause-some
begin-requires-clause-some c =
    let b = c.args.batch in
    let count = ap length c.in_ok-tables.ensures ∙ length-part_tables (low_of b.blocks) (high_of b.blocks) word_bits c.as_slice.result.now b.lambda 1 b.claims in
    omega (arith, count, c.requires.some)

pub begin-requires-clause-suits : goal.begin-requires-clause-suits
begin-requires-clause-suits c =
    let b = c.args.batch in
    ap length c.in_ok-tables.ensures ∙ length-part_tables (low_of b.blocks) (high_of b.blocks) word_bits c.as_slice.result.now b.lambda 1 b.claims ∙ ap (λ (cs : List ColumnClaim). 2 * length cs) (sym c.claims.ensures.claims)

pub begin-requires-clause-long : goal.begin-requires-clause-long
begin-requires-clause-long c =
    let b = c.args.batch in
    let log = c.vars-vars.ensures.log ∙ ap places_log c.placement.ensures in
    let known : OnWords b c.args.words.items = record {
      whole = c.requires.whole;
      small = omega (arith, log, c.vars-vars.ensures.few);
      placed = subst (AllByRecursion (IsPlaced b.blocks)) c.claims.ensures.claims c.claims.ensures.placed;
      low = subst (λ (bs : List Block). AllByRecursion (λ (x : Block). x.level ≤ 7) bs) c.placement-2.ensures c.levels_are_low.ensures;
    } in
    (7, omega arith, subst (AllLong (2 ^ 7)) (sym (c.in_ok-tables.ensures ∙ ap (tables_of b) c.as_slice.ensures.value)) (tables_begin b c.args.words.items known))

pub invariant_of-result : goal.invariant_of-result
invariant_of-result c =
    let b = c.args.batch in
    let log = c.vars-vars.ensures.log ∙ ap places_log c.placement.ensures in
    let known : OnWords b c.args.words.items = record {
      whole = c.requires.whole;
      small = omega (arith, log, c.vars-vars.ensures.few);
      placed = subst (AllByRecursion (IsPlaced b.blocks)) c.claims.ensures.claims c.claims.ensures.placed;
      low = subst (λ (bs : List Block). AllByRecursion (λ (x : Block). x.level ≤ 7) bs) c.placement-2.ensures c.levels_are_low.ensures;
    } in
    let tables = c.in_ok-tables.ensures ∙ ap (tables_of b) c.as_slice.ensures.value in
    let long = subst (AllLong (2 ^ 7)) (sym tables) (tables_begin b c.args.words.items known) in
    let made = c.in_ok-parts.ensures 7 long ∙ (λ j. record { summand = record { count = length (c.claims.ensures.claims j) }; degree = 2; left = 7; lists = tables j }) in
    subst (λ (ds : List ℕ). PackedFits b c.args.words.items ds (vec_capacity c.in_ok-draws.draws) c.in_ok-parts.parts) (sym c.in_ok-draws.ensures.items)
    (fits_first b c.args.words.items (vec_capacity c.in_ok-draws.draws) c.in_ok-parts.parts known (omega (arith, log, c.in_ok-draws.ensures.capacity)) made)
