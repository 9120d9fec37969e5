use Rattle.std.proofs.Common.{ap, sym, ◌∙◌}
use Rattle.std.specs.List.{list_any}
use Rattle.std.specs.Str.{bytes_eq}
use Rattle.table_shape.specs.declared.shape.ConstraintShape.{ConstraintShape}
use Rattle.table_shape.specs.declared.shape.TableShape.{TableShape}
use Rattle.list_laws.proofs.Names.{list_any-map}
use Rattle.table_shape.proofs.draft.TableDraft.has_constraint.Goals as goal

pub returns : goal.returns
returns c =
    let named = bytes_eq c.args.name.now in
    c.has.ensures ∙ ap (list_any named) c.self.invariant.1 ∙ sym (list_any-map named (λ (d : ConstraintShape). d.name) c.self.inside.table.constraints)
    ∙ ap (λ (table : TableShape). list_any (λ d. named d.name) table.constraints) c.self.view_is
