use Rattle.std.proofs.Common.{◌∙◌, map, bit_xor, ap}
use Rattle.std.specs.Prelude.{slice_index}
use Rattle.std.specs.Option.{option_copied}
use Rattle.poly_laws.specs.Polynomial.{horner}
use Rattle.cube_laws.proofs.Tabulate.{tabulate_pushed}
use Rattle.multiset_laws.specs.Fingerprint.{fingerprint, leaf}
use Rattle.table_shape.specs.Lowering.{step}
use Rattle.channel_products.specs.Given.{selected_at}
use Rattle.channel_products.proofs.layers.leaves_at.Goals as goal

pub loop-row-preserved : goal.loop-row-preserved
loop-row-preserved c =
    let tuple = c.as_slice.ensures.value ∙ c.in_ok-read_tuple.ensures in
    let collapsed = c.collapse-collapsed.ensures ∙ ap (λ t. horner t c.args.alpha) tuple in
    tabulate_pushed c.loop-row.row c.leaf.result (λ row. leaf (step c.args.rows row) (selected_at (option_copied c.args.selector) row) (fingerprint c.args.alpha c.args.gamma (map (λ r. slice_index r.now row) c.args.lists.now))) c.loop-row.leaves.items c.push.new.self.items c.loop-row.invariant c.in_ok-push.ensures.items
    (c.leaf.ensures ∙ (λ i. leaf (c.step.ensures i) (c.selected.ensures i) (bit_xor c.args.gamma (collapsed i))))
