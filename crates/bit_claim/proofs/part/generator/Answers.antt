use Rattle.std.proofs.Common.{◌^◌, ◌*◌, ◌%◌, ◌∙◌, ap, arith}
use Rattle.std.proofs.lemmas.Nat.{one_shl}
use Rattle.bit_claim.proofs.PartSteps.{generator_fits}
use Rattle.bit_claim.proofs.part.generator.Goals as goal

pub overflow_shl-k-2 : goal.overflow_shl-k-2
overflow_shl-k-2 c = let h = generator_fits c.args.k c.requires in omega (arith, h.0, h.1)

pub returns : goal.returns
returns c =
    let h = generator_fits c.args.k c.requires in
    c.in-Some.ensures.some ∙ ap (λ e. 1 * 2 ^ e % 340282366920938463463374607431768211456) h.1 ∙ one_shl (2 ^ c.args.k) 128 h.0
