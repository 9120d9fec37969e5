use Rattle.walk_chain.proofs.Going.{message_awaited, suits_told, told_on, refusal_on}
use Rattle.walk_chain.proofs.chain_walk.ChainWalkSteps.message.Goals as goal

pub message-requires : goal.message-requires
message-requires g c = message_awaited g.A.Linked.chain _ c.is_linked.ensures.same _ _ _ c.self.view_is c.requires

pub returns-in-Err-clause-answer : goal.returns-in-Err-clause-answer
returns-in-Err-clause-answer g c = refusal_on g.A.Linked.chain _ c.is_linked.ensures.same _ _ _ _ c.self.view_is c.in-Err.ensures.answer

pub settle-requires : goal.settle-requires
settle-requires g c = suits_told g.A.Linked.chain _ c.is_linked.ensures.lawful c.is_linked.ensures.same c.self.inside.active _ c.args.values.now _ _ (message_awaited g.A.Linked.chain _ c.is_linked.ensures.same _ _ _ c.self.view_is c.requires) c.in_default.ensures.state c.self.invariant.suits

pub returns-clause-answer : goal.returns-clause-answer
returns-clause-answer g c = refusal_on g.A.Linked.chain _ c.is_linked.ensures.same _ _ _ _ c.self.view_is c.in_default.ensures.answer

pub returns-clause-state : goal.returns-clause-state
returns-clause-state g c = told_on g.A.Linked.chain _ c.is_linked.ensures.same _ _ _ _ c.args.values.now c.self.view_is c.in_default.ensures.state c.settle.ensures.state
