use Rattle.std.proofs.Common.{List, ℕ, ap, ◌∙◌}
use Rattle.std.specs.List.{list_any}
use Rattle.std.specs.Str.{bytes_eq}
use Rattle.list_laws.proofs.Names.{list_any-map}
use Rattle.table_shape.proofs.numbering.Numbers.has.Goals as goal

pub returns : goal.returns
returns c =
    let named = bytes_eq c.as_slice.result.now in
    c.contains.ensures ∙ list_any-map named (λ k. k.now) c.self.inside.names.keys ∙ ap (list_any named) c.self.view_is ∙ ap (λ (name : List ℕ). list_any (bytes_eq name) c.args.self.now) c.as_slice.ensures
