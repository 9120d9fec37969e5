use Rattle.std.proofs.Common.{◌≡◌, ◌-◌, ◌*◌, ◌/◌, ◌^◌, length, drop, ap, ◌∙◌, arith}
use Rattle.cube_laws.proofs.Folding.{length-weights}
use Rattle.bit_claim.specs.Words.{rest_of}
use Rattle.bit_claim.proofs.word_parts.high_weights.Goals as goal

pub overflow_mul-first : goal.overflow_mul-first
overflow_mul-first c =
    let q = c.args.part.index in
    let above = drop (c.args.log - c.args.part.level) c.args.point.now in
    let all = ap length c.in_ok-made.ensures ∙ length-weights c.split.result.1.now ∙ ap (λ z. 2 ^ length z) c.split.ensures.rest in
    let long : c.len.result ≡ 2 ^ length above = omega (arith, all, c.len.ensures) in
    let first : q / 2 ^ c.rest_of.result * c.len.result ≡ q / 2 ^ rest_of c.args.log c.args.part.level c.args.point.now * 2 ^ length above = λ i. q / 2 ^ c.rest_of.ensures i * long i in
    let small = c.requires.small in
    omega (arith, first, small)

pub returns-clause-first : goal.returns-clause-first
returns-clause-first c =
    let q = c.args.part.index in
    let above = drop (c.args.log - c.args.part.level) c.args.point.now in
    let all = ap length c.in_ok-made.ensures ∙ length-weights c.split.result.1.now ∙ ap (λ z. 2 ^ length z) c.split.ensures.rest in
    let long : c.len.result ≡ 2 ^ length above = omega (arith, all, c.len.ensures) in
    λ i. q / 2 ^ c.rest_of.ensures i * long i
