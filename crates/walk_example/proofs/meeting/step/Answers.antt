use Rattle.walk_example.proofs.Meetings.{draw_passes, draw_stays}
use Rattle.walk_example.proofs.meeting.step.Goals as goal
use Rattle.std.proofs.Common.{refl}

pub returns-in-Draw-clause-passed : goal.returns-in-Draw-clause-passed
returns-in-Draw-clause-passed g c = λ e. draw_passes g.P.Walk.Steps.machine c.is_lawful.ensures c.args.walk.now c.draw.new.self c.args.challenge c.args.entry c.in-Draw.kind c.in-Draw.count c.in-Draw.is c.requires.2 c.draw.ensures

pub returns-in-Draw-clause-true_passes : goal.returns-in-Draw-clause-true_passes
returns-in-Draw-clause-true_passes g c = λ F f h. (refl, draw_stays g.P.Walk.Steps.machine c.is_lawful.ensures F c.args.walk.now c.draw.new.self c.args.challenge c.fits.ensures c.args.entry c.in-Draw.kind c.in-Draw.count c.in-Draw.is c.requires.2 c.draw.ensures h)
