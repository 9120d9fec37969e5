use Rattle.cube_laws.proofs.Kron.{get_or-kron, weights-joined, extension-kron}
use Rattle.batch_laws.proofs.Parts.{extension_at, extension_part, dot_part, extension_every, fold_list}
use Rattle.batch_laws.proofs.tables_have_parts.Goals as goal

pub returns : goal.returns
returns c = record {
  product_at = get_or-kron;
  product_weights = weights-joined;
  product = extension-kron;
  corner = extension_at;
  aligned = extension_part;
  against = dot_part;
  every = extension_every;
  list = fold_list;
}
