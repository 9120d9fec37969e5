use Rattle.std.proofs.Common.{◌≡◌, Some, List, [], length, get_or, ap, sym, subst, ◌∙◌, arith}
use Rattle.std.specs.List.{slice_get}
use Rattle.std.proofs.lemmas.Option.{slice_get-get_or}
use Rattle.table_shape.specs.declared.shape.ColumnShape.{ColumnShape}
use Rattle.list_laws.proofs.Lists.{item_here}
use Rattle.column_store.specs.Draft.{Drafted, TakesBits, with_values}
use Rattle.column_store.specs.Spelled.{column_values}
use Rattle.witness_reader.proofs.Putting.{columns_begun, columns_ended, column_taken, column_left, committed_bits, virtual_bits, drafted_as}
use Rattle.witness_reader.proofs.witness.put_columns.Goals as goal
use Rattle.witness_reader.proofs.witness.put_columns.Goals.{then-is_committed, else-is_committed}

pub loop-c-init : goal.loop-c-init
loop-c-init c = columns_begun c.args.draft.now c.args.t _ c.args.table.now.columns c.args.bytes.now c.requires.zero

pub put_bits-requires : goal.put_bits-requires
put_bits-requires c =
    let d = c.args.draft.now in
    let column = c.index-columns-c.result in
    let here : slice_get c.args.table.now.columns c.loop-c.c ≡ Some column =
    subst (λ (cs : List ColumnShape). slice_get cs c.loop-c.c ≡ Some column) c.as_slice-columns.ensures (item_here c.as_slice-columns.result.now c.loop-c.c column c.loop-c-test.true c.index-columns-c.is) in
    let all = ap length c.as_slice-columns.ensures in
    let own = item_here c.args.bytes.now c.loop-c.c c.index-bytes-c.result (let a = c.loop-c-test.true in let b = c.requires.spelled.counts in omega arith) c.index-bytes-c.is in
    let bits = committed_bits (get_or d.rows c.args.t 0) column c.index-bytes-c.result column.kind (c.requires.spelled.each c.loop-c.c column c.index-bytes-c.result here own) (sym c.is_committed.ensures ∙ c.if-is_committed.true) in
    let takes : TakesBits d.shape.tables d.rows c.args.t c.loop-c.c c.index-bytes-c.result =
    record { table = c.args.table.now; column = column; table_is = c.requires.table; column_is = here; is_committed = bits.0; len = bits.1.0; no_padding = bits.1.1 } in
    subst (λ b. TakesBits c.loop-c.draft.shape.tables c.loop-c.draft.rows c.args.t c.loop-c.c b) (sym c.as_slice.ensures)
    (subst (λ (n : Drafted). TakesBits n.shape.tables n.rows c.args.t c.loop-c.c c.index-bytes-c.result) (sym c.loop-c.invariant) takes)

pub loop-c-preserved : goal.loop-c-preserved
loop-c-preserved c =
    let d = c.args.draft.now in
    let m = get_or d.rows c.args.t 0 in
    let column = c.index-columns-c.result in
    let here : slice_get c.args.table.now.columns c.loop-c.c ≡ Some column =
    subst (λ (cs : List ColumnShape). slice_get cs c.loop-c.c ≡ Some column) c.as_slice-columns.ensures (item_here c.as_slice-columns.result.now c.loop-c.c column c.loop-c-test.true c.index-columns-c.is) in
    let all = ap length c.as_slice-columns.ensures in
    let now = c.loop-c.draft in
    elim c.if-is_committed.branch [
      | then-is_committed w ↦
          let b = w.index-bytes-c.result in
          let own = item_here c.args.bytes.now c.loop-c.c b (let a = c.loop-c-test.true in let k = c.requires.spelled.counts in omega arith) w.index-bytes-c.is in
          let at : slice_get now.shape.tables c.args.t ≡ Some c.args.table.now = ap (λ (n : Drafted). slice_get n.shape.tables c.args.t) c.loop-c.invariant ∙ c.requires.table in
          let put = w.put_bits.ensures c.args.table.now column at here in
          column_taken d now c.if-is_committed.draft c.args.t m c.args.table.now.columns c.args.bytes.now c.loop-c.c column b c.requires.place c.requires.spelled.counts here own c.loop-c.invariant
          (w.draft-is ∙ put ∙ (λ i. drafted_as now (with_values now.values c.args.t c.loop-c.c (column_values (get_or (ap (λ (n : Drafted). n.rows) c.loop-c.invariant i) c.args.t 0) column (w.as_slice.ensures i)))))
      | else-is_committed w ↦
          let none = slice_get-get_or c.args.bytes.now c.loop-c.c [] (let a = c.loop-c-test.true in let k = c.requires.spelled.counts in omega arith) in
          column_left d now c.if-is_committed.draft c.args.t m c.args.table.now.columns c.args.bytes.now c.loop-c.c column (get_or c.args.bytes.now c.loop-c.c []) c.requires.spelled.counts here none
          (virtual_bits m column (get_or c.args.bytes.now c.loop-c.c []) column.kind (c.requires.spelled.each c.loop-c.c column _ here none) (sym c.is_committed.ensures ∙ w.if-is_committed.false))
          c.loop-c.invariant w.draft-is
    ]

pub returns : goal.returns
returns c =
    let all = ap length c.as_slice-columns.ensures in
    c.loop-c.invariant ∙ columns_ended c.args.draft.now c.args.t _ c.args.table.now.columns c.args.bytes.now c.loop-c.c c.requires.spelled.counts (let a = c.loop-c-test.false in omega arith)
