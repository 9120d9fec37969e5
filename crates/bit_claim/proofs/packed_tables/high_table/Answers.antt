use Rattle.std.proofs.Common.{◌≡◌, ℕ, ◌<◌, ◌≤◌, ◌*◌, List, length, bit_xor, get_or, ◌∙◌, ap, subst, arith}
use Rattle.tower_laws.specs.Tower.{mul}
use Rattle.cube_laws.proofs.Rounds.{index_value}
use Rattle.cube_laws.proofs.Weights.{length-tabulate}
use Rattle.sumcheck.specs.declared.column_claim.ColumnClaim.{ColumnClaim}
use Rattle.table_shape.specs.Placement.{Block}
use Rattle.bit_claim.specs.PackedSum.{high_of}
use Rattle.bit_claim.proofs.PackedSteps.{high_done, high_more, high_start}
use Rattle.bit_claim.proofs.packed_tables.high_table.Goals as goal

pub loop-i-init : goal.loop-i-init
loop-i-init c = record {
  long = ap length c.in_ok-cells.ensures ∙ length-tabulate c.args.count (λ p. 0);
  left = high_start (high_of c.args.batch.now.blocks) c.args.batch.now.claims c.args.finals.now c.args.count c.in_ok-cells.cells.items c.in_ok-cells.ensures;
}

pub loop-i-preserved : goal.loop-i-preserved
loop-i-preserved c =
    let claim = c.index-claims-i.result in
    let claims = c.claims-claims.ensures.claims in
    let within : c.loop-i.i < length c.args.batch.now.claims = subst (λ (cs : List ColumnClaim). c.loop-i.i < length cs) claims c.loop-i-test.true in
    let at : claim ≡ get_or c.args.batch.now.claims c.loop-i.i claim = subst (λ (cs : List ColumnClaim). claim ≡ get_or cs c.loop-i.i claim) claims c.index-claims-i.is in
    let two = c.requires.finals in
    record {
      long = c.in_ok-add_claim_high.ensures.long ∙ c.loop-i.invariant.long;
      left = high_more (high_of c.args.batch.now.blocks) c.args.batch.now.claims c.args.finals.now c.loop-i.i c.index-finals-i.result claim c.loop-i.cells.items c.add_claim_high.new.cells.items within at two
          (index_value c.index-finals-i.result (2 * c.loop-i.i) c.args.finals.now c.index-finals-i.is (omega (arith, within, two)))
          (subst (λ (bs : List Block). (p : ℕ) → get_or c.add_claim_high.new.cells.items p 0 ≡ bit_xor (get_or c.loop-i.cells.items p 0) (mul c.index-finals-i.result (get_or (high_of bs claim) p 0))) c.placement-placement.ensures c.in_ok-add_claim_high.ensures.added)
          c.loop-i.invariant.left;
    }

pub returns-clause-cells : goal.returns-clause-cells
returns-clause-cells c =
    high_done (high_of c.args.batch.now.blocks) c.args.batch.now.claims c.args.finals.now c.loop-i.i c.loop-i.cells.items
    (subst (λ (cs : List ColumnClaim). length cs ≤ c.loop-i.i) c.claims-claims.ensures.claims c.loop-i-test.false) c.loop-i.invariant.left
