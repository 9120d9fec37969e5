use Rattle.std.proofs.Common.{map, bit_xor, ap, ◌∙◌}
use Rattle.std.specs.Prelude.{slice_index}
use Rattle.std.specs.Option.{option_copied}
use Rattle.tower_laws.specs.Tower.{mul}
use Rattle.poly_laws.specs.Polynomial.{horner}
use Rattle.multiset_laws.specs.Fingerprint.{fingerprint, leaf}
use Rattle.channel_products.specs.Given.{selected_at}
use Rattle.channel_products.proofs.ProverSteps.{rows_more}
use Rattle.channel_products.proofs.leaves.rows_product.Goals as goal

pub loop-row-preserved : goal.loop-row-preserved
loop-row-preserved c =
    let tuple = c.as_slice.ensures.value ∙ c.in_ok-read_tuple.ensures in
    let collapsed = c.collapse-collapsed.ensures ∙ ap (λ t. horner t c.args.alpha) tuple in
    rows_more c.loop-row.row (λ row. leaf 1 (selected_at (option_copied c.args.selector) row) (fingerprint c.args.alpha c.args.gamma (map (λ r. slice_index r.now row) c.args.lists.now))) c.loop-row.product c.mul-product.result
    (c.mul-product.ensures ∙ ap (mul c.loop-row.product) (c.leaf.ensures ∙ (λ i. leaf 1 (c.selected.ensures i) (bit_xor c.args.gamma (collapsed i))))) c.loop-row.invariant
