use Rattle.counting_laws.proofs.Several.{same_or_not}
use Rattle.counting_laws.proofs.Removal.{numbers, tuples}
use Rattle.counting_laws.specs.Multiset.{same_number, same_tuple}
use Rattle.counting_laws.proofs.equal_multisets_are_stable.Goals as goal

pub returns : goal.returns
returns c = record { numbers = same_or_not same_number numbers; tuples = same_or_not same_tuple tuples }
