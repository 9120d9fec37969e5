use Rattle.std.proofs.Common.{◌≡◌, ◌++◌, ◌∷◌, [], ◌<◌, ◌∙◌, ℕ, List, length, ap, subst, sym, vec_capacity, arith}
use Rattle.std.proofs.lemmas.Grind.{common_steps}
use Rattle.table_shape.specs.Placement.{places_log}
use Rattle.bit_claim.specs.declared.packed_sum.PackedSum.TheInside.{Inside}
use Rattle.bit_claim.specs.PackedSum.{PackedBatch, PackedFits}
use Rattle.bit_claim.proofs.PackedSteps.{bound_after, bound_in_word}
use Rattle.bit_claim.proofs.packed_sum.PackedSum.bind.Goals.{then-left-gt0, else-left-gt0}
use Rattle.bit_claim.proofs.packed_sum.PackedSum.bind.Goals as goal

pub invariant_of-self : goal.invariant_of-self
invariant_of-self c =
    let s = c.self.inside in
    let few = subst (λ (p : PackedBatch). length p.draws < places_log p.batch.blocks) (sym c.self.view_is) c.requires in
    let now = c.if-left-gt0.self-inside in
    let pushed : c.push.new.self.items ≡ now.draws.items ++ c.args.r ∷ [] = grind (arith, common_steps) in
    elim c.if-left-gt0.branch [
      | then-left-gt0 w ↦
          let same = ap (λ (i : Inside). i.draws.items ++ c.args.r ∷ []) w.self-inside-is in
          let room = ap (λ (i : Inside). vec_capacity i.draws) w.self-inside-is in
          subst (λ (i : Inside). PackedFits i.batch i.words.items c.push.new.self.items (vec_capacity c.push.new.self) i.parts) (sym w.self-inside-is)
          (subst (λ (ds : List ℕ). PackedFits s.batch s.words.items ds (vec_capacity c.push.new.self) w.bind.new.self) (sym (pushed ∙ same))
          (bound_in_word s.batch s.words.items s.draws.items (vec_capacity s.draws) (vec_capacity c.push.new.self) c.args.r s.parts w.bind.new.self c.self.invariant few (omega (arith, w.if-left-gt0.true, c.left.ensures)) w.bind.ensures (omega (arith, room, c.push.ensures.capacity))))
      | else-left-gt0 w ↦
          let same = ap (λ (i : Inside). i.draws.items ++ c.args.r ∷ []) w.self-inside-is in
          let room = ap (λ (i : Inside). vec_capacity i.draws) w.self-inside-is in
          subst (λ (i : Inside). PackedFits i.batch i.words.items c.push.new.self.items (vec_capacity c.push.new.self) i.parts) (sym w.self-inside-is)
          (subst (λ (ds : List ℕ). PackedFits s.batch s.words.items ds (vec_capacity c.push.new.self) s.parts) (sym (pushed ∙ same))
          (bound_after s.batch s.words.items s.draws.items (vec_capacity s.draws) (vec_capacity c.push.new.self) c.args.r s.parts c.self.invariant few (omega (arith, w.if-left-gt0.false, c.left.ensures)) (omega (arith, room, c.push.ensures.capacity))))
    ]
