use Rattle.batch_laws.proofs.Parts.{extension_every}
use Rattle.column_laws.proofs.Fits.{linear_fits, projected_fits, packed_fits}
use Rattle.column_laws.proofs.Making.{linear_is, packed_is}
use Rattle.column_laws.proofs.columns_are_made.Goals as goal

pub returns : goal.returns
returns c = record {
  columns = record { linear_column = linear_is; projected_column = extension_every; packed_column = packed_is };
  levels = record { linear_fits = linear_fits; projected_fits = projected_fits; packed_fits = packed_fits };
}
