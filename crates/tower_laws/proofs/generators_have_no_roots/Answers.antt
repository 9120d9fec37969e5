use Rattle.tower_laws.proofs.Roots.{no_root, no_norm_root}
use Rattle.tower_laws.proofs.generators_have_no_roots.Goals as goal

pub returns : goal.returns
returns c = record { no_root_of_trace = no_root; no_root_of_norm = no_norm_root }
