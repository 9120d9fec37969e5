use Rattle.std.proofs.Common.{subst, vec_capacity}
use Rattle.bit_claim.specs.PackedSum.{PackedBatch, PackedFits}
use Rattle.bit_claim.proofs.PackedSteps.{round_is}
use Rattle.bit_claim.proofs.packed_sum.PackedSum.round.Goals as goal

pub returns : goal.returns
returns c = λ n left.
    let s = c.self.inside in
    round_is c.args.self.now s.parts (vec_capacity s.draws) n c.args.out.now.items c.round.new.out.items
    (subst (λ (p : PackedBatch). PackedFits p.batch p.words p.draws (vec_capacity s.draws) s.parts) c.self.view_is c.self.invariant) c.requires c.in_ok-round.ensures left
