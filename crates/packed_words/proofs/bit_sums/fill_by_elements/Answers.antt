use Rattle.std.proofs.Common.{◌≤◌, min, length, arith}
use Rattle.packed_words.proofs.Filling.{all_filled, ended}
use Rattle.packed_words.proofs.bit_sums.fill_by_elements.Goals as goal

pub returns : goal.returns
returns c = let m = c.min-k-end.ensures in let h : min (length c.args.weights.now) (length c.args.words.now) ≤ c.loop-k.k = omega arith in
    all_filled c.loop-k.k c.args.words.now c.args.weights.now c.loop-k.buckets (ended (length c.args.weights.now) (length c.args.words.now) c.loop-k.k h) c.loop-k.invariant
