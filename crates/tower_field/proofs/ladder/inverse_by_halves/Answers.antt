use Rattle.tower_laws.proofs.Halves.{inverse_up}
use Rattle.tower_field.proofs.ladder.inverse_by_halves.Goals as goal

pub returns : goal.returns
returns g c =
    let number = g.F.Half.Level.number in
    inverse_up g.F.Half.Level.LEVEL (g.F.Halves.whole c.args.a) (number c.plus-carried.result) (number c.inverted-inverse.result) (g.F.Halves.whole c.joined.result)
    c.low-low.ensures.fits (cc) (cc) (cc)
