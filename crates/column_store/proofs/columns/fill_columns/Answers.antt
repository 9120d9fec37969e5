use Rattle.std.proofs.Common.{◌≡◌, ◌++◌, take, drop, set, get_or, length-append, ap, length, refl, sym, ◌∙◌, arith}
use Rattle.std.proofs.lemmas.List.{length-take-le, with_items_is}
use Rattle.std.proofs.Math.ListN.{length-set}
use Rattle.list_laws.proofs.Lists.{item_here}
use Rattle.column_store.specs.Column.{ColumnValues}
use Rattle.column_store.proofs.FillSteps.{begun, ended, committed_of, own_kept, own_reads, own_fits, kept_step, filled_step}
use Rattle.column_store.proofs.columns.fill_columns.Goals as goal
use Rattle.column_store.proofs.columns.fill_columns.Goals.{in-Virtual, in_default}

pub loop-c-init : goal.loop-c-init
loop-c-init c = begun c.args.rows c.args.shapes.now c.args.columns.now.items

pub count_of-requires-clause-values : goal.count_of-requires-clause-values
count_of-requires-clause-values c = (c.requires.fit c.loop-c.c c.index-shapes-c.result (item_here c.args.shapes.now c.loop-c.c c.index-shapes-c.result c.loop-c-test.true c.index-shapes-c.is)).log_values

pub split_at_mut-before-requires : goal.split_at_mut-before-requires
split_at_mut-before-requires c = omega (arith, ap length c.as_mut_slice.ensures.value, c.loop-c.invariant.len, c.requires.kept.counts)

pub fill_column-requires : goal.fill_column-requires
fill_column-requires c =
    let shapes = c.args.shapes.now in
    let shape = c.index-shapes-c.result in
    let split = c.split_at_mut-before.ensures in
    let slice = c.as_mut_slice.ensures.value in
    let front = split.front ∙ ap (take c.loop-c.c) slice in
    let back = split.back ∙ ap (drop c.loop-c.c) slice in
    let own = c.index-others-0.is in
    let kept = own_kept c.args.rows shapes c.args.columns.now.items c.loop-c.columns.items c.loop-c.c shape c.index-others-0.result c.requires.kept c.loop-c-test.true c.index-shapes-c.is c.loop-c.invariant.left (own ∙ ap (λ xs. get_or xs 0 c.index-others-0.result) back) in
    let reads = own_reads shapes c.loop-c.c shape c.in-Virtual.form c.requires.fit c.loop-c-test.true c.index-shapes-c.is c.in-Virtual.is in
    record {
      counts = split.front_len ∙ sym (length-take-le c.loop-c.c shapes (let h = c.loop-c-test.true in omega arith));
      reads = reads.0;
      count = c.count_of.ensures.value ∙ sym kept.given.len ∙ ap (λ (k : ColumnValues). length k.values) own;
      small = c.count_of.ensures.bound;
      fits = own_fits c.args.rows shapes c.args.columns.now.items c.loop-c.columns.items c.split_at_mut-before.result.0.now c.loop-c.c shape c.index-others-0.result _ c.in-Virtual.form
          c.requires.fit c.requires.kept c.loop-c-test.true c.index-shapes-c.is c.in-Virtual.is c.loop-c.invariant.done front kept own;
    }

pub loop-c-preserved : goal.loop-c-preserved
loop-c-preserved c = elim c.match-shape.branch [
  | in-Virtual w ↦
      let split = w.split_at_mut-before.ensures in
      let slice = w.as_mut_slice.ensures.value in
      let front = w.split_at_mut-before.result.0.now in
      let back = w.split_at_mut-before.result.1.now in
      let next = set back 0 w.fill_column.new.column in
      let long : length (front ++ next) ≡ c.loop-c.columns.len =
      omega (arith, length-append front next, length-set back 0 w.fill_column.new.column, split.front_len, split.back_len, w.as_mut_slice.ensures.len) in
      let changed = w.columns-is in
      let made : c.match-shape.columns.items ≡ front ++ next = rw changed (with_items_is c.loop-c.columns (front ++ next) long) in
      filled_step c.args.rows c.args.shapes.now c.args.columns.now.items c.loop-c.columns.items w.split_at_mut-before.result.0.now w.split_at_mut-before.result.1.now c.match-shape.columns.items
      c.loop-c.c w.count_of.result 0 c.index-shapes-c.result w.fill_column.new.column w.in-Virtual.form
      c.requires.fit c.requires.kept c.loop-c-test.true c.index-shapes-c.is w.in-Virtual.is
      (split.front ∙ ap (take c.loop-c.c) slice) (split.back ∙ ap (drop c.loop-c.c) slice) w.count_of.ensures.value
      (ap (λ (k : ColumnValues). k.values) w.fill_column.ensures) made c.loop-c.invariant
  | in_default w ↦
      kept_step c.args.rows c.args.shapes.now c.args.columns.now.items c.loop-c.columns.items c.match-shape.columns.items c.loop-c.c c.index-shapes-c.result
      c.requires.kept c.loop-c-test.true c.index-shapes-c.is (committed_of c.index-shapes-c.result.kind w.in_default.not-Virtual) (let e = w.columns-is in rw e refl) c.loop-c.invariant
]

pub returns : goal.returns
returns c = ended c.args.rows c.args.shapes.now c.args.columns.now.items c.loop-c.columns.items c.loop-c.c c.requires.kept (let a = c.loop-c-test.false in let b = c.loop-c.auto.c-end in omega arith) c.loop-c.invariant
