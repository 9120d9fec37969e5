use Rattle.std.proofs.Common.{◌++◌, ◌∷◌, [], List, ℕ, ap, ◌∙◌}
use Rattle.std.specs.List.{list_any}
use Rattle.std.specs.Str.{bytes_eq}
use Rattle.list_laws.proofs.Names.{list_any-map, names_added}
use Rattle.table_shape.proofs.numbering.Numbers.add.Goals as goal

pub returns : goal.returns
returns c =
    let named = bytes_eq c.as_slice.result.now in
    let keys = c.self.inside.names.keys in
    let new = list_any-map named (λ k. k.now) keys ∙ ap (list_any named) c.self.view_is ∙ ap (λ (name : List ℕ). list_any (bytes_eq name) c.args.self.now) c.as_slice.ensures ∙ c.requires in
    names_added (λ k. named k.now) (λ k. k.now) keys c.insert.new.self.keys c.as_slice.result new c.in_ok-insert.ensures.keys
    ∙ ap (λ (names : List (List ℕ)). names ++ c.as_slice.result.now ∷ []) c.self.view_is ∙ ap (λ (name : List ℕ). c.args.self.now ++ name ∷ []) c.as_slice.ensures
