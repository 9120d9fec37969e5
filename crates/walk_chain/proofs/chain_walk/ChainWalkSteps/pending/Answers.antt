use Rattle.std.proofs.Common.{◌∙◌, ◌-◌, ◌<◌, sym, ap, subst, length, reverse}
use Rattle.std.specs.List.{flat_map, slice_get}
use Rattle.walk_chain.proofs.Pieces.{own_on, kept_on, waiting_on, waits_within}
use Rattle.walk_chain.proofs.chain_walk.ChainWalkSteps.pending.Goals as goal

pub returns-then-i-own : goal.returns-then-i-own
returns-then-i-own g c = own_on g.A.Linked.chain _ c.is_linked.ensures.same _ _ c.args.i _ c.self.view_is c.pending.ensures

pub returns-then-i-own-2 : goal.returns-then-i-own-2
returns-then-i-own-2 g c = kept_on g.A.Linked.chain _ c.is_linked.ensures.same _ _ c.args.i _ _ c.self.view_is c.pending_count-own.ensures c.if-i-own.false c.kept_pending.ensures

pub waiting_at-requires : goal.waiting_at-requires
waiting_at-requires g c =
    subst (λ xs. c.args.i - c.pending_count-own.result - c.kept_count-kept.result < length (flat_map g.A.Linked.chain.stage_pending (reverse xs))) (sym c.as_slice.ensures.value)
    (waits_within g.A.Linked.chain _ c.is_linked.ensures.same _ _ c.args.i _ _ c.self.view_is c.pending_count-own.ensures c.kept_count-kept.ensures.count c.if-i-own.false c.if-i-own-2.false c.requires)

pub returns : goal.returns
returns g c =
    waiting_on g.A.Linked.chain _ c.is_linked.ensures.same _ _ c.args.i _ _ _ c.self.view_is c.pending_count-own.ensures c.kept_count-kept.ensures.count c.if-i-own.false c.if-i-own-2.false
    (ap (λ xs. slice_get (flat_map g.A.Linked.chain.stage_pending (reverse xs)) (c.args.i - c.pending_count-own.result - c.kept_count-kept.result)) (sym c.as_slice.ensures.value) ∙ c.waiting_at.ensures)
