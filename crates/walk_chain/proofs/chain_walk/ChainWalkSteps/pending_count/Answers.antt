use Rattle.std.proofs.Common.{◌∙◌, ap, length, reverse}
use Rattle.std.specs.List.{flat_map}
use Rattle.walk_chain.proofs.Pieces.{counted_on}
use Rattle.walk_chain.proofs.chain_walk.ChainWalkSteps.pending_count.Goals as goal

pub returns : goal.returns
returns g c = counted_on g.A.Linked.chain _ c.is_linked.ensures.same _ _ _ _ _ c.self.view_is c.pending_count-own.ensures c.kept_count-kept.ensures.count
    (c.count_waiting.ensures.count ∙ ap (λ xs. length (flat_map g.A.Linked.chain.stage_pending (reverse xs))) c.as_slice.ensures.value)
