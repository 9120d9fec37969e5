use Rattle.counting_laws.specs.Multiset.{same_tuple}
use Rattle.counting_laws.proofs.Removal.{tuples, same_products}
use Rattle.counting_laws.proofs.equal_multisets_have_equal_products.Goals as goal

pub returns : goal.returns
returns c = same_products same_tuple tuples
