use Rattle.std.proofs.Common.{◌-◌, ◌^◌, sym, ap, ◌∙◌}
use Rattle.cube_laws.proofs.Tabulate.{get_or-tabulate}
use Rattle.table_shape.specs.Oracle.{bit_table, word_at}
use Rattle.table_shape.specs.Placement.{blocks, places_log}
use Rattle.column_store.specs.Draft.{Stored}
use Rattle.oracle_lowering.proofs.lowered.Lowered.packed.Goals as goal

pub returns : goal.returns
returns c =
    let s = c.args.self.now in
    c.element.ensures
    ∙ c.word_at.ensures
    ∙ ap (λ (d : Stored). word_at (bit_table d.shape.tables d.rows d.filling) c.args.place) c.self.view_is
    ∙ sym (get_or-tabulate (2 ^ (places_log (blocks s.shape.tables s.rows) - 7)) c.args.place (word_at (bit_table s.shape.tables s.rows s.filling)) c.requires)
