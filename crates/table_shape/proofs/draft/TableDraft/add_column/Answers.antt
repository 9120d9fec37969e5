use Rattle.std.proofs.Common.{ap, sym, ◌∙◌}
use Rattle.std.specs.List.{list_any}
use Rattle.std.specs.Str.{bytes_eq}
use Rattle.table_shape.specs.declared.shape.ColumnShape.{ColumnShape}
use Rattle.table_shape.specs.declared.shape.TableShape.{TableShape}
use Rattle.list_laws.proofs.Names.{list_any-map}
use Rattle.table_shape.proofs.draft.TableDraft.add_column.Goals as goal

pub add-requires : goal.add-requires
add-requires c =
    let named = bytes_eq c.args.name.now in
    ap (list_any named) c.self.invariant.0 ∙ sym (list_any-map named (λ (d : ColumnShape). d.name) c.self.inside.table.columns)
    ∙ ap (λ (table : TableShape). list_any (λ d. named d.name) table.columns) c.self.view_is ∙ c.requires
