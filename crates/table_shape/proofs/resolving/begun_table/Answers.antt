use Rattle.std.proofs.Common.{ap, sym, subst, ◌∙◌}
use Rattle.table_shape.specs.Fits.{TableFits}
use Rattle.table_shape.proofs.FitsSteps.{empty_table, empty_fits}
use Rattle.table_shape.proofs.resolving.begun_table.Goals as goal

pub returns-clause-fits : goal.returns-clause-fits
returns-clause-fits c = subst TableFits (sym (c.new.ensures ∙ ap empty_table c.in_ok-copied_name.ensures)) (empty_fits c.args.name.now)
