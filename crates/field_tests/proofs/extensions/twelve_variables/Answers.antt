use Rattle.std.proofs.Common.{◌∙◌, ◌^◌, length, ap, sym}
use Rattle.cube_laws.specs.Extension.{eq}
use Rattle.cube_laws.proofs.Weights.{length-tabulate}
use Rattle.field_tests.proofs.extensions.twelve_variables.Goals as goal

pub mle_at-requires : goal.mle_at-requires
mle_at-requires g c =
    let i = c.loop-k.invariant in
    ap length (c.as_slice.ensures.value ∙ c.in_ok-table.ensures) ∙ length-tabulate (2 ^ length c.loop-k.point) (eq c.loop-k.point) ∙ ap (λ n. 2 ^ n) (i.point ∙ sym i.other)
