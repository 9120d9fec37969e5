use Rattle.std.proofs.Common.{◌≡◌, false, length, subst, sym, ap, ◌∙◌, arith}
use Rattle.std.specs.List.{list_any}
use Rattle.std.specs.Str.{bytes_eq}
use Rattle.table_shape.specs.declared.shape.ColumnKind.TheVariants.{Committed}
use Rattle.table_shape.specs.declared.shape.ColumnShape.{ColumnShape}
use Rattle.table_shape.specs.Fits.{TableFits}
use Rattle.table_shape.proofs.FitsSteps.{column_pushed, committed_fits}
use Rattle.table_shape.proofs.resolving.with_column.Goals as goal

pub returns-clause-fits : goal.returns-clause-fits
returns-clause-fits c =
    let table = c.args.table in
    let name = c.args.name.now in
    let new : list_any (λ d. bytes_eq name d.name) table.columns ≡ false = sym c.has_column.ensures ∙ c.if-has_column.false in
    let column : ColumnShape = record { name = name; level = c.args.level; log_values = c.args.log_values; kind = Committed } in
    subst TableFits (sym c.in_ok-add_column.ensures)
    (column_pushed table column c.requires.fits (committed_fits table.columns name c.args.level c.args.log_values c.requires.level c.requires.log_values) (omega (arith, ap length c.columns.ensures)) new)
