use Rattle.std.proofs.Common.{◌≡◌, ◌∙◌, sym, below_more, arith}
use Rattle.std.proofs.lemmas.Bool.Decides.{nat_tests}
use Rattle.m3_judge.proofs.constraints.first_in_row.Goals as goal

pub loop-index-preserved : goal.loop-index-preserved
loop-index-preserved g c =
    let none : c.value_by-value.result ≡ 0 = grind (arith, nat_tests) in
    let same = rw c.values_per_row-count.ensures.value at c.value_by-value.ensures in
    below_more _ _ c.loop-index.invariant (sym same ∙ none)
