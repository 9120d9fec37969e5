use Rattle.cube_laws.proofs.Coordinates.{extension_halves, extension_choice, fold_all-append, extension-fold_all, fold_all_is, prefix_folded, sum_at-all}
use Rattle.cube_laws.proofs.coordinates_are_set.Goals as goal

pub returns : goal.returns
returns c = record {
  tables = record { halves = extension_halves; line = extension_choice; folds = fold_all-append; first = extension-fold_all; all = fold_all_is };
  sums = record { first = prefix_folded; all = sum_at-all };
}
