use Rattle.std.proofs.Common.{◌∙◌, ◌-◌, ap, sym, arith}
use Rattle.cube_laws.specs.Extension.{weights}
use Rattle.cube_mle.proofs.Doubling.{weights_are}
use Rattle.eval_reduce.proofs.ProverSteps.{batch_long, batch_more}
use Rattle.eval_reduce.proofs.merge_prover.batch_table.Goals as goal

pub add_scaled-requires : goal.add_scaled-requires
add_scaled-requires c =
    let t = c.loop-i-test.true in
    let b = c.loop-i.invariant.0 in
    batch_long c.args.vars c.args.mu (c.loop-i.i - 1) c.loop-i.i c.args.claims.now c.index-claims-i.result c.as_slice-in-loop-i.result.now c.loop-i.cells.items c.requires.placed (omega arith) c.index-claims-i.is
    (c.as_slice-in-loop-i.ensures.value ∙ c.in-Ok.ensures ∙ sym (weights_are c.as_slice.result.now) ∙ ap weights c.as_slice.ensures) c.loop-i.invariant.1

pub loop-i-preserved : goal.loop-i-preserved
loop-i-preserved c =
    let t = c.loop-i-test.true in
    let b = c.loop-i.invariant.0 in (
      omega arith,
      batch_more c.args.vars c.args.mu (c.loop-i.i - 1) c.loop-i.i c.args.claims.now c.index-claims-i.result c.as_slice-in-loop-i.result.now c.loop-i.cells.items c.add_scaled.new.cells.items (omega arith) (omega arith) c.index-claims-i.is
          (c.as_slice-in-loop-i.ensures.value ∙ c.in-Ok.ensures ∙ sym (weights_are c.as_slice.result.now) ∙ ap weights c.as_slice.ensures) c.loop-i.invariant.1 c.add_scaled.ensures,
    )
