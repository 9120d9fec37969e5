use Rattle.std.proofs.Common.{bytes_eq, rules, tests, ◌∙◌}
use Rattle.std.proofs.lemmas.Iterator.{YieldsList-from_slice}
use Rattle.std.proofs.lemmas.Iterator.Search.{any_from_yields_List}
use Rattle.list_laws.proofs.Names.{list_any-map}
use Rattle.witness_reader.proofs.witness.is_table.Goals as goal

pub returns : goal.returns
returns c =
    any_from_yields_List (λ t. bytes_eq c.args.key.now t.name) _ _ c.any.result c.any.ensures.ran (YieldsList-from_slice c.args.tables.now cc) (λ x b q k. search (rules, tests))
    ∙ list_any-map (bytes_eq c.args.key.now) (λ t. t.name) c.args.tables.now
