use Rattle.tower_laws.proofs.Halves.{product_up}
use Rattle.tower_field.proofs.ladder.product_by_halves.Goals as goal

pub returns : goal.returns
returns g c =
    let number = g.F.Half.Level.number in
    product_up g.F.Half.Level.LEVEL (g.F.Halves.whole c.args.a) (g.F.Halves.whole c.args.b)
    (number c.times-lows.result) (number c.times-highs.result) (number c.times-sums.result) (number c.carried.result) (g.F.Halves.whole c.joined.result)
    c.low-a_low.ensures.fits c.low-b_low.ensures.fits (cc) (cc) (cc) (cc) (cc)
