use Rattle.packed_words.proofs.ByteSums.{all_sums}
use Rattle.packed_words.proofs.bit_sums.columns_by_buckets.Goals as goal

pub returns-clause-sums : goal.returns-clause-sums
returns-clause-sums c = all_sums c.args.words.now c.args.weights.now c.fill_by_elements.new.buckets c.sums_of_places.result c.sums_of_places.ensures.long c.fill_by_elements.ensures c.sums_of_places.ensures.sums
