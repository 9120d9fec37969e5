use Rattle.walk_chain.proofs.Going.{draw_awaited, suits_drawn, drawn_on}
use Rattle.walk_chain.proofs.chain_walk.ChainWalkSteps.draw.Goals as goal

pub draw-requires : goal.draw-requires
draw-requires g c = draw_awaited g.A.Linked.chain _ c.is_linked.ensures.same _ _ c.self.view_is c.requires

pub settle-requires : goal.settle-requires
settle-requires g c = suits_drawn g.A.Linked.chain _ c.is_linked.ensures.lawful c.is_linked.ensures.same c.self.inside.active _ c.args.c _ _ c.draw.ensures c.self.invariant.suits

pub returns : goal.returns
returns g c = drawn_on g.A.Linked.chain _ c.is_linked.ensures.same _ _ _ _ c.args.c c.self.view_is c.draw.ensures c.settle.ensures.state
