use Rattle.std.proofs.Common.{◌∷◌, codes, not, bytes_eq, string_bytes, rules, tests, ◌∙◌}
use Rattle.std.specs.List.{list_any}
use Rattle.std.specs.Map.{keys_of}
use Rattle.std.proofs.lemmas.Iterator.Search.{any_from_yields_List}
use Rattle.witness_reader.specs.Witness.{committed_names}
use Rattle.witness_reader.proofs.Members.{has_other-keys, keys_yield}
use Rattle.witness_reader.proofs.witness.has_other_column.Goals as goal

pub returns : goal.returns
returns c =
    let names = (codes "rows" ∷ committed_names c.args.columns.now) in
    any_from_yields_List (λ k. not (list_any (bytes_eq (string_bytes k)) names)) _ _ c.any.result c.any.ensures.ran (keys_yield c.keys.result (keys_of c.args.object.now.entries) c.keys.ensures.rest) (λ x b q k. search (rules, tests))
    ∙ has_other-keys names c.args.object.now.entries
