use Rattle.poly_laws.proofs.Batches.{horner-sums, horner-scaled, horner_fits, batches_differ}
use Rattle.poly_laws.proofs.batches_tell_values.Goals as goal

pub returns : goal.returns
returns c = record { sum = horner-sums; multiple = horner-scaled; fits = horner_fits; differ = batches_differ }
