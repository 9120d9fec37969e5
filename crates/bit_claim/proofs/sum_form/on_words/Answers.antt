use Rattle.std.proofs.Common.{◌^◌, ap, refl, subst, ◌∙◌}
use Rattle.std.specs.List.{AllByRecursion}
use Rattle.table_shape.specs.Placement.{places_log}
use Rattle.tensor_laws.specs.Tensor.{bits_of_table}
use Rattle.bit_claim.specs.Bits.{IsPlaced}
use Rattle.bit_claim.specs.PackedSum.{packed_proving}
use Rattle.bit_claim.proofs.SumSteps.{begun_long, packed_begun, table_whole}
use Rattle.bit_claim.proofs.sum_form.on_words.Goals as goal

pub by_tables-requires : goal.by_tables-requires
by_tables-requires c = table_whole (2 ^ places_log c.args.batch.blocks) c.args.words.items c.of_words.result c.of_words.ensures c.requires

pub returns-clause-sum : goal.returns-clause-sum
returns-clause-sum c = ap packed_proving c.in_ok-sum-2.ensures ∙ packed_begun c.args.batch c.args.words.items

pub returns-clause-long : goal.returns-clause-long
returns-clause-long c =
    let b = c.args.batch in
    let bits = bits_of_table 128 c.args.words.items in
    begun_long b bits (packed_proving c.in_ok-sum-2.sum) (subst (AllByRecursion (IsPlaced b.blocks)) c.claims-claims.ensures.claims c.claims-claims.ensures.placed)
    (table_whole (2 ^ places_log b.blocks) c.args.words.items bits refl c.requires) (ap packed_proving c.in_ok-sum-2.ensures ∙ packed_begun b c.args.words.items)
