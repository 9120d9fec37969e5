use Rattle.std.proofs.Common.{◌≡◌, ◌*◌, ◌∙◌, ap, length, arith}
use Rattle.tensor_laws.specs.Tensor.{bits_of_table}
use Rattle.bit_claim.proofs.WordSums.{length-bits_of_table}
use Rattle.bit_claim.proofs.bit_prover.BitProver.begin_packed.Goals as goal

pub begin_with-requires : goal.begin_with-requires
begin_with-requires c =
    let swap : length c.args.words.now * 128 ≡ 128 * length c.args.words.now = omega arith in
    ap length (c.of_words.ensures ∙ ap (bits_of_table 128) c.in_ok-held.ensures.items) ∙ length-bits_of_table 128 c.args.words.now ∙ swap ∙ c.requires.whole
