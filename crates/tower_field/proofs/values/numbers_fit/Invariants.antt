use Rattle.std.proofs.Common.{drop}
use Rattle.tower_laws.specs.Lists.{AllFit}
use Rattle.tower_field.proofs.values.numbers_fit.Given as goal

abbrev pub invariant-loop-value : goal.invariant-loop-value
invariant-loop-value l = AllFit 7 (drop l.value-index l.values) → AllFit 7 l.values
