use Rattle.std.proofs.Common.{◌≡◌, ◌*◌, ◌/◌, ◌%◌, ◌^◌, get_or, bit_and, sym, subst}
use Rattle.packed_words.specs.LaneWords.{high_at, low_at}
use Rattle.packed_words.specs.declared.transpose.TheConstants.{CLEAR}
use Rattle.packed_words.proofs.LaneWords.{half_width, highs_low, lows_high}
use Rattle.packed_words.proofs.lane_words.highs.Goals as goal

pub overflow_shr-result : goal.overflow_shr-result
overflow_shr-result c = (half_width c.args.level c.requires).0

pub returns-clause-low : goal.returns-clause-low
returns-clause-low c =
    let i = c.args.level in
    λ q l. subst (λ w. low_at i (bit_and (c.args.word / 2 ^ w) (get_or CLEAR i 0)) q ≡ high_at i c.args.word q) (sym (half_width i c.requires).1) (highs_low i c.args.word q c.requires l)

pub returns-clause-high : goal.returns-clause-high
returns-clause-high c = let i = c.args.level in λ q l. lows_high i (c.args.word / 2 ^ (1 * 2 ^ i % 4294967296)) q c.requires l
