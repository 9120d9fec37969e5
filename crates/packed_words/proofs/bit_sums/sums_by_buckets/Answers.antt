use Rattle.packed_words.proofs.ByteSums.{all_sums}
use Rattle.packed_words.proofs.bit_sums.sums_by_buckets.Goals as goal

pub returns-clause-sums : goal.returns-clause-sums
returns-clause-sums c = all_sums c.args.words.now c.args.weights.now c.fill.new.buckets c.sums_of_places.result c.sums_of_places.ensures.long c.fill.ensures c.sums_of_places.ensures.sums
