use Rattle.counting_laws.specs.Multiset.{same_number, same_tuple}
use Rattle.counting_laws.proofs.Removal.{numbers, tuples}
use Rattle.counting_laws.proofs.Permutations.{permutation_from_same, same_from_permutation}
use Rattle.counting_laws.proofs.equal_multisets_are_permutations.Goals as goal

pub returns : goal.returns
returns c = record {
  numbers = λ xs ys. (permutation_from_same same_number numbers xs ys, same_from_permutation same_number xs ys);
  tuples = λ xs ys. (permutation_from_same same_tuple tuples xs ys, same_from_permutation same_tuple xs ys);
}
