use Rattle.std.proofs.Common.{◌∙◌, ◌++◌, ap, sym}
use Rattle.cube_laws.specs.Extension.{weights}
use Rattle.cube_laws.specs.Sums.{tabulate}
use Rattle.cube_mle.proofs.Doubling.{weights_are}
use Rattle.tensor_laws.specs.Tensor.{column}
use Rattle.ring_switch.proofs.switch_prover.SwitchProver.give_columns.Goals as goal

pub returns : goal.returns
returns c =
    let ws = c.as_slice.ensures.value ∙ c.in_ok-weights.ensures ∙ sym (weights_are c.high.result.now) ∙ ap weights c.high.ensures in
    c.in_ok-extend_from_slice.ensures.items ∙ ap (λ v. c.args.out.now.items ++ v) (c.columns-columns.ensures ∙ (λ i. tabulate 128 (column (ws i) (c.as_slice-2.ensures.value i))))
