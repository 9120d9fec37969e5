use Rattle.eval_reduce.proofs.ProjectLaws.{project_lawful, projects_keep}
use Rattle.eval_reduce.proofs.laws.projections_keep_truth.Goals as goal

pub returns : goal.returns
returns c = record { lawful = project_lawful; same = projects_keep }
