use Rattle.tower_laws.proofs.Halves.{carried_up}
use Rattle.tower_field.proofs.ladder.carried_by_halves.Goals as goal

pub returns : goal.returns
returns g c = carried_up g.F.Half.Level.LEVEL (g.F.Halves.whole c.args.a) (g.F.Half.Level.number c.carried.result) (g.F.Halves.whole c.joined.result) c.low-low.ensures.fits (cc) (cc)
