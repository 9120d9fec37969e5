use Rattle.std.proofs.Common.{◌≡◌, ◌++◌, map, drop}
use Rattle.std.specs.Option.{option_map}
use Rattle.table_shape.specs.Shape.{number_of_name, all_some}
use Rattle.table_shape.proofs.flushes.numbers_of.Given as goal

abbrev pub invariant-loop-name : goal.invariant-loop-name
invariant-loop-name l =
    option_map (λ more. l.found ++ more) (all_some (map (λ name. number_of_name name l.table.columns) (drop l.name-index l.names))) ≡ all_some (map (λ name. number_of_name name l.table.columns) l.names)
