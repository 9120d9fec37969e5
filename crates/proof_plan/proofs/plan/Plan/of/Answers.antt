use Rattle.std.proofs.Common.{◌∙◌, ◌-◌, List, length, ap}
use Rattle.table_shape.specs.Placement.{places_log}
use Rattle.table_shape.specs.declared.shape.TableShape.{TableShape}
use Rattle.proof_plan.proofs.PlanBounds.{made_fits}
use Rattle.proof_plan.proofs.plan.Plan.of.Goals as goal

pub invariant_of-result : goal.invariant_of-result
invariant_of-result c =
    let places = c.log_bits-places.ensures ∙ ap places_log c.in_ok-place.ensures.blocks in
    made_fits c.args.shape.now c.args.rows.now c.in_ok-entries.entries.items (length c.tables.result.now) (c.log_bits-places.result - 7) c.tables.ensures.fits c.requires.few c.in_ok-place.ensures.size c.in_ok-entries.ensures (ap (λ (ts : List TableShape). length ts) c.tables.ensures.all) (ap (λ n. n - 7) places)
