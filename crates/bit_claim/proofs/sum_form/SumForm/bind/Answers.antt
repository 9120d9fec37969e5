use Rattle.std.proofs.Common.{◌-◌, map, ap, sym, ◌∙◌}
use Rattle.cube_laws.specs.Extension.{fold_low}
use Rattle.bit_claim.specs.declared.sum_form.SumForm.{SumForm}
use Rattle.bit_claim.specs.PackedSum.{packed_proving}
use Rattle.bit_claim.specs.SumForm.{proving_of}
use Rattle.bit_claim.proofs.PackedSteps.{next_proving}
use Rattle.bit_claim.proofs.sum_form.SumForm.bind.Goals as goal

pub returns-in-Words : goal.returns-in-Words
returns-in-Words c =
    ap packed_proving c.bind-in-Words.ensures
    ∙ next_proving c.in-Words.sum c.args.r
    ∙ ap (λ (f : SumForm). record (proving_of f) { left = (proving_of f).left - 1; lists = map (fold_low c.args.r) (proving_of f).lists }) (sym c.in-Words.is)
