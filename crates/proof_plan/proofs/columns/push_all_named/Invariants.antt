use Rattle.std.proofs.Common.{◌≡◌, ◌++◌, drop}
use Rattle.std.specs.List.{flat_map}
use Rattle.channel_products.specs.Given.{named_columns}
use Rattle.proof_plan.proofs.columns.push_all_named.Given as goal

abbrev pub invariant-loop-flush : goal.invariant-loop-flush
invariant-loop-flush l = l.claimed.items ++ flat_map named_columns (drop l.flush-index l.flushes) ≡ l.initial.claimed.items ++ flat_map named_columns l.flushes
