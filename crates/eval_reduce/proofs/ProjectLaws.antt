-- A claim on a projected column is as true as that on its source.
use Rattle.std.proofs.Common.{◌≡◌, ◌∙◌, ◌+◌, ◌^◌, ◌++◌, length, refl, sym, ap, length-append}
use Rattle.cube_laws.specs.Extension.{extension, bits_of}
use Rattle.cube_laws.proofs.Folding.{length-bits_of}
use Rattle.batch_laws.proofs.Parts.{extension_every}
use Rattle.column_laws.specs.Columns.{projected}
use Rattle.sumcheck.specs.declared.column_claim.ColumnClaim.{ColumnClaim}
use Rattle.sumcheck.specs.Machine.{Filling, Lawful}
use Rattle.eval_reduce.specs.declared.projection.Projection.{Projection}
use Rattle.eval_reduce.specs.Virtual.{IsOn}
use Rattle.eval_reduce.specs.Project.{IsProjected, ProjectsKeepTruth, project}

pub project_lawful : Lawful project
project_lawful = record { message = λ F s c n es e. absurd (cc); draw = λ F s k n es e. absurd (cc); round = λ s. refl }

-- the values of both claims
pub projected_is : (F : Filling) (p : Projection) (claim : ColumnClaim) → IsProjected F p → IsOn p.table p.column p.vars claim
    → extension (F claim.table claim.column) claim.point ≡ extension (F p.table p.source) (bits_of p.log p.index ++ claim.point)
projected_is F p claim h o =
    (λ i. extension (F (o.table_is i) (o.column_is i)) claim.point)
    ∙ ap (λ t. extension t claim.point) (h.column_is ∙ ap (λ n. projected p.log p.index (2 ^ n) (F p.table p.source)) (sym o.long))
    ∙ extension_every p.log p.index (F p.table p.source) claim.point h.index_fits

pub projects_keep : ProjectsKeepTruth
projects_keep F p claim h o =
    let e = projected_is F p claim h o in
    let l : length (bits_of p.log p.index ++ claim.point) ≡ p.log + p.vars = length-append (bits_of p.log p.index) claim.point ∙ (λ i. length-bits_of p.log p.index i + o.long i) in
    (h.source_long ∙ ap (λ n. 2 ^ n) (sym l), ((λ t. sym e ∙ t), (λ t. e ∙ t)))
