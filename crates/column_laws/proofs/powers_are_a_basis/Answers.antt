use Rattle.column_laws.proofs.Powers.{power_is, number_is, subsets-generators, powers_extend}
use Rattle.column_laws.proofs.powers_are_a_basis.Goals as goal

pub returns : goal.returns
returns c = record { power = power_is; number = number_is; powers = subsets-generators; extended = powers_extend }
