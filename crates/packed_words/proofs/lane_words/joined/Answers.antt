use Rattle.std.proofs.Common.{◌≡◌, ◌*◌, ◌%◌, ◌^◌, bit_xor, sym, subst}
use Rattle.packed_words.specs.LaneWords.{high_at, low_at}
use Rattle.packed_words.proofs.LaneWords.{half_width, joined_low, joined_high}
use Rattle.packed_words.proofs.lane_words.joined.Goals as goal

pub overflow_shl-result-2 : goal.overflow_shl-result-2
overflow_shl-result-2 c = (half_width c.args.level c.requires.is_below).0

pub returns-clause-low : goal.returns-clause-low
returns-clause-low c =
    let i = c.args.level in
    λ q l. subst (λ w. low_at i (bit_xor (c.args.high * 2 ^ w % 2 ^ 128) c.args.low) q ≡ low_at i c.args.low q) (sym (half_width i c.requires.is_below).1)
    (joined_low i c.args.high c.args.low q c.requires.is_below l c.requires.high_alone)

pub returns-clause-high : goal.returns-clause-high
returns-clause-high c =
    let i = c.args.level in
    λ q l. subst (λ w. high_at i (bit_xor (c.args.high * 2 ^ w % 2 ^ 128) c.args.low) q ≡ low_at i c.args.high q) (sym (half_width i c.requires.is_below).1)
    (joined_high i c.args.high c.args.low q c.requires.is_below l c.requires.low_alone)
