use Rattle.std.proofs.Common.{ap, sym, ◌∙◌}
use Rattle.std.specs.List.{position_from}
use Rattle.std.specs.Str.{bytes_eq}
use Rattle.table_shape.specs.declared.shape.ColumnShape.{ColumnShape}
use Rattle.table_shape.specs.declared.shape.TableShape.{TableShape}
use Rattle.table_shape.specs.Shape.{number_of_name}
use Rattle.list_laws.proofs.Names.{position_from-map}
use Rattle.table_shape.proofs.draft.TableDraft.number_of.Goals as goal

pub returns : goal.returns
returns c =
    let name = c.args.name.now in
    c.number_of.ensures ∙ ap (position_from (bytes_eq name) 0) c.self.invariant.0 ∙ sym (position_from-map (bytes_eq name) (λ (d : ColumnShape). d.name) 0 c.self.inside.table.columns)
    ∙ ap (λ (table : TableShape). number_of_name name table.columns) c.self.view_is
