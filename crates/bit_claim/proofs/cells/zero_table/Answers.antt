use Rattle.std.proofs.Common.{◌≡◌, ◌++◌, ◌∷◌, [], sym, ◌∙◌, ap, arith}
use Rattle.std.proofs.lemmas.Grind.{common_steps}
use Rattle.cube_laws.proofs.Weights.{tabulate-add}
use Rattle.bit_claim.proofs.cells.zero_table.Goals as goal

pub loop-preserved : goal.loop-preserved
loop-preserved c =
    let e : c.push.new.self.items ≡ c.loop.cells.items ++ 0 ∷ [] = grind (arith, common_steps) in
    e ∙ ap (λ l. l ++ 0 ∷ []) c.loop.invariant ∙ sym (tabulate-add c.loop.counter 1 (λ p. 0))
