use Rattle.multiset_laws.proofs.Balances.{alpha_count, gamma_count, all_collapsed, all_multiplied}
use Rattle.multiset_laws.proofs.balances_are_counted.Goals as goal

pub returns : goal.returns
returns c = record { alpha = alpha_count; gamma = gamma_count; collapsed = all_collapsed; multiplied = all_multiplied }
