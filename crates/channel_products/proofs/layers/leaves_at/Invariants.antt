use Rattle.std.proofs.Common.{◌≡◌, map}
use Rattle.std.specs.Prelude.{slice_index}
use Rattle.std.specs.Option.{option_copied}
use Rattle.cube_laws.specs.Sums.{tabulate}
use Rattle.multiset_laws.specs.Fingerprint.{fingerprint, leaf}
use Rattle.table_shape.specs.Lowering.{step}
use Rattle.channel_products.specs.Given.{selected_at}
use Rattle.channel_products.proofs.layers.leaves_at.Given as goal

abbrev pub invariant-loop-row : goal.invariant-loop-row
invariant-loop-row l =
    l.leaves.items ≡ tabulate l.row (λ row. leaf (step l.rows row) (selected_at (option_copied l.selector) row) (fingerprint l.alpha l.gamma (map (λ r. slice_index r.now row) l.lists)))
