use Rattle.packed_words.proofs.ByteSums.{dot_of_columns}
use Rattle.packed_words.proofs.bit_sums.Buckets.dot.Goals as goal

pub returns : goal.returns
returns c = dot_of_columns c.args.ys.now c.args.xs.now c.columns.result c.under_powers.result c.numbers_fit.ensures c.columns.ensures c.under_powers.ensures
