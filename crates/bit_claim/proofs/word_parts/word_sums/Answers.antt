use Rattle.std.proofs.Common.{◌≡◌, ◌∙◌, ℕ, List, length, take, ap, subst, IfOk}
use Rattle.bit_claim.specs.Words.{word_bits}
use Rattle.bit_claim.proofs.LowHigh.{high_fits, sums_made}
use Rattle.bit_claim.proofs.word_parts.word_sums.Goals as goal

pub high_weights-requires-clause-small : goal.high_weights-requires-clause-small
high_weights-requires-clause-small c = (high_fits c.args.log c.args.part.level c.args.part.above c.args.part.index (length c.args.words.now) c.args.point.now c.requires.low c.requires.wide c.requires.small c.requires.part c.requires.whole).small

pub returns : goal.returns
returns c =
    let fits = high_fits c.args.log c.args.part.level c.args.part.above c.args.part.index (length c.args.words.now) c.args.point.now c.requires.low c.requires.wide c.requires.small c.requires.part c.requires.whole in
    let made = sums_made word_bits c.args.log c.args.part.level c.args.part.above c.args.part.index c.in_ok-first.first c.args.point.now c.args.words.now c.as_slice-weights.result.now c.split-2.result.0.now fits.part c.in_ok-first.ensures.first
    (c.as_slice-weights.ensures.value ∙ c.in_ok-first.ensures.weights) (c.split-2.ensures.first ∙ ap (take (length c.as_slice-weights.result.now)) c.split.ensures.rest) in
    subst (λ (l : List ℕ). IfOk c.sums_of_bits.result (λ sums. sums.items ≡ l)) made c.sums_of_bits.ensures
