use Rattle.std.proofs.Common.{◌+◌, length, get_or, ap, sym, subst, ◌∙◌, arith}
use Rattle.std.proofs.lemmas.List.{drop-set-lt}
use Rattle.std.proofs.Math.ListN.{length-set}
use Rattle.table_shape.specs.declared.shape.TableShape.{TableShape}
use Rattle.list_laws.proofs.Lists.{item_here}
use Rattle.column_store.specs.Column.{lists}
use Rattle.column_store.specs.Draft.{AreKept}
use Rattle.column_store.specs.Filled.{filled}
use Rattle.column_store.proofs.FillSteps.{drop_next}
use Rattle.column_store.proofs.Kept.{item_left, tables_step}
use Rattle.column_store.proofs.draft.fill_tables.Goals as goal

pub fill-requires-clause-kept : goal.fill-requires-clause-kept
fill-requires-clause-kept c =
    let at = item_here c.args.shapes.now c.loop-t.t c.index-shapes-t.result c.loop-t-test.true c.index-shapes-t.is in
    let item = item_left c.args.tables.now.items c.loop-t.tables.items c.loop-t.t _ c.index_mut-columns.result.now (let a = c.requires.each_has_columns in let b = c.loop-t-test.true in omega arith) c.loop-t.invariant.left c.index_mut-columns.ensures.value in
    let these = c.as_slice.ensures ∙ ap (λ (s : TableShape). s.columns) (sym c.index-shapes-t.is) in
    subst (λ cs. AreKept (get_or c.args.rows.now c.loop-t.t 0) cs c.index_mut-columns.result.now) (sym these) (c.requires.kept c.loop-t.t c.index-shapes-t.result c.index_mut-columns.result.now at item)

pub loop-t-preserved : goal.loop-t-preserved
loop-t-preserved c =
    let these = c.as_slice.ensures ∙ ap (λ (s : TableShape). s.columns) (sym c.index-shapes-t.is) in
    let made = c.fill.ensures ∙ (λ i. filled (get_or c.args.rows.now c.loop-t.t 0) (these i) (lists c.index_mut-columns.result.now) (length (these i))) in
    let now = c.loop-t.tables.items in
    record {
      len = length-set now c.loop-t.t c.fill.new.self ∙ c.loop-t.invariant.len;
      done = tables_step c.args.rows.now c.args.shapes.now now c.loop-t.t c.index-shapes-t.result _ c.index_mut-columns.result.now c.fill.new.self _ c.requires.counts (c.loop-t.invariant.len ∙ c.requires.each_has_columns) c.loop-t-test.true
          c.index-shapes-t.is c.index_mut-columns.ensures.value made c.loop-t.invariant.done;
      left = drop-set-lt (c.loop-t.t + 1) now c.loop-t.t c.fill.new.self (omega arith) ∙ drop_next now c.args.tables.now.items c.loop-t.t c.loop-t.invariant.left;
    }
