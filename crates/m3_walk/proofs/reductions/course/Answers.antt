use Rattle.std.proofs.Common.{◌≤◌, sym, subst}
use Rattle.table_shape.specs.Placement.{places_log}
use Rattle.proof_plan.proofs.PlanBounds.{places_few}
use Rattle.m3_walk.proofs.reductions.course.Goals as goal

pub ordered-requires-clause-low : goal.ordered-requires-clause-low
ordered-requires-clause-low c = subst (λ bs. places_log bs ≤ 24) (sym c.in_ok-placement.ensures.blocks) (places_few c.args.shape.now.tables c.args.rows.now c.in_ok-placement.ensures.size)
