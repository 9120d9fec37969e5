use Rattle.tower_laws.proofs.Halves.{square_up}
use Rattle.tower_field.proofs.ladder.square_by_halves.Goals as goal

pub returns : goal.returns
returns g c =
    let number = g.F.Half.Level.number in
    square_up g.F.Half.Level.LEVEL (g.F.Halves.whole c.args.a) (number c.squared-lows.result) (number c.squared-highs.result) (number c.carried.result) (g.F.Halves.whole c.joined.result)
    c.low-low.ensures.fits (cc) (cc) (cc) (cc)
