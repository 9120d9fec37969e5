use Rattle.std.proofs.Common.{not, bytes_eq, string_bytes, rules, tests, ◌∙◌}
use Rattle.std.specs.List.{list_any}
use Rattle.std.specs.Map.{keys_of}
use Rattle.std.proofs.lemmas.Iterator.Search.{any_from_yields_List}
use Rattle.table_shape.specs.Shape.{table_names}
use Rattle.witness_reader.proofs.Members.{has_other-keys, keys_yield}
use Rattle.witness_reader.proofs.witness.has_other_table.Goals as goal

pub returns : goal.returns
returns c =
    let names = (table_names c.args.tables.now) in
    any_from_yields_List (λ k. not (list_any (bytes_eq (string_bytes k)) names)) _ _ c.any.result c.any.ensures.ran (keys_yield c.keys.result (keys_of c.args.whole.now.entries) c.keys.ensures.rest) (λ x b q k. search (rules, tests))
    ∙ has_other-keys names c.args.whole.now.entries
