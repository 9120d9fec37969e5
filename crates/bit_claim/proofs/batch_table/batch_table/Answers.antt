use Rattle.std.proofs.Common.{◌≡◌, ℕ, ◌*◌, ◌%◌, ◌^◌, ◌<◌, ◌≤◌, List, length, bit_xor, get_or, ◌∙◌, ap, subst, arith}
use Rattle.std.proofs.lemmas.Nat.{one_shl}
use Rattle.std.specs.List.{AllByRecursion}
use Rattle.tower_laws.specs.Tower.{mul}
use Rattle.cube_laws.proofs.Weights.{length-tabulate}
use Rattle.sumcheck.specs.declared.column_claim.ColumnClaim.{ColumnClaim}
use Rattle.table_shape.specs.Placement.{Block, places_log}
use Rattle.bit_claim.specs.Bits.{claim_table, IsPlaced}
use Rattle.bit_claim.proofs.TablePlaces.{batch_done, batch_more, batch_start}
use Rattle.bit_claim.proofs.batch_table.batch_table.Goals as goal

pub loop-i-init : goal.loop-i-init
loop-i-init c =
    let n = 1 * 2 ^ c.vars.result % 18446744073709551616 in
    let small = c.vars.ensures.few in
    let size : n ≡ 2 ^ c.vars.result = one_shl c.vars.result 64 (omega (arith, small)) in
    let log : c.vars.result ≡ places_log c.args.batch.now.blocks = c.vars.ensures.log ∙ ap places_log c.placement-placement.ensures in
    record {
      long = ap length c.in_ok-cells.ensures ∙ length-tabulate n (λ p. 0) ∙ size ∙ ap (λ l. 2 ^ l) log;
      left = batch_start c.args.batch.now.blocks c.args.batch.now.claims c.args.batch.now.lambda n c.in_ok-cells.cells.items c.in_ok-cells.ensures;
    }

pub loop-i-preserved : goal.loop-i-preserved
loop-i-preserved c =
    let claim = c.index-claims-i.result in
    let claims = c.claims-claims.ensures.claims in
    let within : c.loop-i.i < length c.args.batch.now.claims = subst (λ (cs : List ColumnClaim). c.loop-i.i < length cs) claims c.loop-i-test.true in
    let at : claim ≡ get_or c.args.batch.now.claims c.loop-i.i claim = subst (λ (cs : List ColumnClaim). claim ≡ get_or cs c.loop-i.i claim) claims c.index-claims-i.is in
    record {
      long = c.in_ok-add_claim.ensures.long ∙ c.loop-i.invariant.long;
      left = batch_more c.args.batch.now.blocks c.args.batch.now.claims c.args.batch.now.lambda c.loop-i.i c.loop-i.factor c.mul-factor.result claim c.loop-i.cells.items c.add_claim.new.cells.items within at
          (c.mul-factor.ensures ∙ ap (mul c.loop-i.factor) c.lambda.ensures)
          (subst (λ (bs : List Block). (p : ℕ) → get_or c.add_claim.new.cells.items p 0 ≡ bit_xor (get_or c.loop-i.cells.items p 0) (mul c.loop-i.factor (get_or (claim_table bs claim) p 0))) c.placement-placement.ensures c.in_ok-add_claim.ensures.added)
          c.loop-i.invariant.left;
    }

pub returns-clause-table : goal.returns-clause-table
returns-clause-table c =
    let claims = c.claims-claims.ensures.claims in
    batch_done c.args.batch.now.blocks c.args.batch.now.claims c.args.batch.now.lambda c.loop-i.i c.loop-i.factor c.loop-i.cells.items (subst (λ (cs : List ColumnClaim). length cs ≤ c.loop-i.i) claims c.loop-i-test.false)
    c.loop-i.invariant.long (subst (AllByRecursion (IsPlaced c.args.batch.now.blocks)) claims c.claims-claims.ensures.placed) c.loop-i.invariant.left
