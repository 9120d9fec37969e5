use Rattle.std.proofs.Common.{◌≡◌, ◌++◌, ◌∷◌, [], refl, arith}
use Rattle.std.proofs.lemmas.Grind.{common_steps}
use Rattle.eval_reduce.proofs.ProverSteps.{pushed}
use Rattle.eval_reduce.proofs.merge_prover.zero_table.Goals as goal

pub loop-preserved : goal.loop-preserved
loop-preserved c =
    let e : c.push.new.self.items ≡ c.loop.cells.items ++ 0 ∷ [] = grind (arith, common_steps) in
    pushed c.loop.counter 0 (λ p. 0) c.loop.cells.items c.push.new.self.items c.loop.invariant e refl
