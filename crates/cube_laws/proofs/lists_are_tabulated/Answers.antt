use Rattle.cube_laws.proofs.Tabulate.{get_or-tabulate, tabulate-suc, entries, product_all-pairs}
use Rattle.cube_laws.proofs.Weights.{tabulate-add}
use Rattle.cube_laws.proofs.lists_are_tabulated.Goals as goal

pub returns : goal.returns
returns c = record { at = get_or-tabulate; longer = tabulate-suc; joined = tabulate-add; entries = entries; products = product_all-pairs }
