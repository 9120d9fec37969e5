use Rattle.std.proofs.Common.{ap, ◌∙◌}
use Rattle.column_store.specs.Draft.{zero_columns}
use Rattle.column_store.proofs.Kept.{zeros_next}
use Rattle.column_store.proofs.draft.zero_tables.Goals as goal

pub loop-t-preserved : goal.loop-t-preserved
loop-t-preserved c =
    zeros_next c.args.shapes.now c.args.rows.now c.loop-t.t c.index-shapes-t.result c.loop-t.tables.items c.push.new.self.items c.in_ok-zeros.field-0 c.loop-t-test.true c.requires.counts c.index-shapes-t.is
    c.loop-t.invariant (c.in_ok-zeros.ensures ∙ ap (zero_columns _) c.as_slice.ensures) c.in_ok-push.ensures.items
