use Rattle.tower_laws.proofs.Lists.{sum_all-append, product_all-append, get_or-sums, get_or-scaled, sum_all_fits, product_all_fits, all_fit-sums, all_fit-scaled}
use Rattle.tower_laws.proofs.lists_add_and_multiply.Goals as goal

pub returns : goal.returns
returns c = record {
  values = record { sum_of_joined = sum_all-append; product_of_joined = product_all-append; sums_at = get_or-sums; multiples_at = get_or-scaled };
  levels = record { sum = sum_all_fits; product = product_all_fits; sums = all_fit-sums; multiples = all_fit-scaled };
}
