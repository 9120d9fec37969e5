use Rattle.cube_laws.proofs.Weights.{extension-bits, extension-fold_low, by_weights_is}
use Rattle.cube_laws.proofs.extensions.Goals as goal

pub returns : goal.returns
returns c = record { corners = extension-bits; fold = extension-fold_low; quick = by_weights_is }
