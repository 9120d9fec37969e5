use Rattle.std.proofs.Common.{◌≡◌, ◌++◌, ◌∷◌, [], sym, subst, arith}
use Rattle.std.proofs.lemmas.Grind.{common_steps}
use Rattle.eval_reduce.proofs.VirtualSteps.{Parted, part_start, part_more, part_end}
use Rattle.eval_reduce.proofs.pack_prover.every.Goals as goal

pub loop-p-init : goal.loop-p-init
loop-p-init c = subst (Parted c.args.values.now c.args.size c.args.index c.args.index) (sym c.new-part.ensures.items) (part_start c.args.values.now c.args.size c.args.index)

pub loop-p-preserved : goal.loop-p-preserved
loop-p-preserved c =
    let pushed : c.push.new.self.items ≡ c.loop-p.part.items ++ c.index-values-p.result ∷ [] = grind (arith, common_steps) in
    part_more c.args.values.now c.args.size c.args.index c.loop-p.p c.index-values-p.result c.loop-p.part.items c.push.new.self.items c.requires.within c.requires.blocks.0 c.requires.blocks.1 c.loop-p-test.true c.index-values-p.is pushed c.loop-p.invariant

pub returns : goal.returns
returns c = part_end c.args.values.now c.args.size c.args.index c.loop-p.p c.loop-p.part.items c.requires.within c.loop-p-test.false c.loop-p.invariant
