use Rattle.std.proofs.Common.{List, ℕ, ap, sym, ◌∙◌}
use Rattle.std.specs.List.{position_from}
use Rattle.std.specs.Str.{bytes_eq}
use Rattle.list_laws.proofs.Names.{position_is}
use Rattle.table_shape.proofs.numbering.Numbers.number_of.Goals as goal

pub returns-in-Some : goal.returns-in-Some
returns-in-Some c =
    let named = bytes_eq c.as_slice.result.now in
    sym c.in-Some.is ∙ c.get_index_of.ensures.index ∙ position_is named (λ k. k.now) c.self.inside.names.keys ∙ ap (position_from named 0) c.self.view_is
    ∙ ap (λ (name : List ℕ). position_from (bytes_eq name) 0 c.args.self.now) c.as_slice.ensures

pub returns-in-None : goal.returns-in-None
returns-in-None c =
    let named = bytes_eq c.as_slice.result.now in
    sym c.in-None.is ∙ c.get_index_of.ensures.index ∙ position_is named (λ k. k.now) c.self.inside.names.keys ∙ ap (position_from named 0) c.self.view_is
    ∙ ap (λ (name : List ℕ). position_from (bytes_eq name) 0 c.args.self.now) c.as_slice.ensures
