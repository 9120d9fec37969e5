use Rattle.std.proofs.Common.{◌≡◌, Some, set, map, get_or, sym, ap, subst, ◌∙◌}
use Rattle.std.specs.List.{slice_get}
use Rattle.std.proofs.lemmas.Option.{get_or_from_slice_get}
use Rattle.column_store.specs.Column.{lists}
use Rattle.column_store.specs.Spelled.{column_values}
use Rattle.column_store.specs.Draft.{Drafted, IsDraft, TakesBits, with_values}
use Rattle.column_store.proofs.Kept.{held, put_draft, put_values, spelled, drafted_as, same_draft}
use Rattle.column_store.proofs.draft.Draft.put_bits.Goals as goal

pub invariant_of-self : goal.invariant_of-self
invariant_of-self c =
    let s = c.self.inside in
    let stored = s.tables.items in
    let takes = subst (λ (d : Drafted). TakesBits d.shape.tables d.rows c.args.table c.args.column c.args.bytes.now) (sym c.self.view_is) c.requires in
    let h = held s.shape.tables s.rows stored c.args.table c.args.column takes.table takes.column c.self.invariant takes.table_is takes.column_is in
    let columns = c.index_mut-columns.ensures.value ∙ get_or_from_slice_get stored c.args.table h.columns _ h.columns_are in
    let found : slice_get c.index_mut-columns.result.now c.args.column ≡ Some h.column = ap (λ cs. slice_get cs c.args.column) columns ∙ h.column_is in
    let made : c.put_bytes.new.self ≡ set h.columns c.args.column (spelled h.column c.args.bytes.now) =
    c.put_bytes.ensures h.column found ∙ ap (λ cs. set cs c.args.column (spelled h.column c.args.bytes.now)) columns in
    subst (λ cs. IsDraft s.shape.tables s.rows (set stored c.args.table cs)) (sym made)
    (put_draft s.shape.tables s.rows stored c.args.table c.args.column takes.table takes.column c.args.bytes.now c.self.invariant takes.table_is takes.column_is takes.no_padding h)

pub returns : goal.returns
returns c own shape e f =
    let s = c.self.inside in
    let stored = s.tables.items in
    let at : slice_get s.shape.tables c.args.table ≡ Some own = ap (λ (d : Drafted). slice_get d.shape.tables c.args.table) c.self.view_is ∙ e in
    let h = held s.shape.tables s.rows stored c.args.table c.args.column own shape c.self.invariant at f in
    let columns = c.index_mut-columns.ensures.value ∙ get_or_from_slice_get stored c.args.table h.columns _ h.columns_are in
    let found : slice_get c.index_mut-columns.result.now c.args.column ≡ Some h.column = ap (λ cs. slice_get cs c.args.column) columns ∙ h.column_is in
    let made : c.put_bytes.new.self ≡ set h.columns c.args.column (spelled h.column c.args.bytes.now) =
    c.put_bytes.ensures h.column found ∙ ap (λ cs. set cs c.args.column (spelled h.column c.args.bytes.now)) columns in
    same_draft s.shape s.rows (map lists (set stored c.args.table c.put_bytes.new.self)) _
    (ap (λ cs. map lists (set stored c.args.table cs)) made ∙ put_values s.shape.tables s.rows stored c.args.table c.args.column own shape c.args.bytes.now h)
    ∙ ap (λ (d : Drafted). drafted_as d.shape d.rows (with_values d.values c.args.table c.args.column (column_values (get_or d.rows c.args.table 0) shape c.args.bytes.now))) c.self.view_is
