use Rattle.cube_laws.proofs.Dots.{sum_to-exchange}
use Rattle.cube_laws.proofs.Linear.{extension-scale, extension-sums, extension-constant, extension-zeros}
use Rattle.cube_laws.proofs.extensions_are_linear.Goals as goal

pub returns : goal.returns
returns c = record { multiple = extension-scale; sum = extension-sums; constant = extension-constant; zero = extension-zeros; exchange = sum_to-exchange }
