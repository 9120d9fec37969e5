use Rattle.std.proofs.Common.{get_or, map, ap, sym, subst, ◌∙◌}
use Rattle.std.specs.List.{slice_get}
use Rattle.column_store.specs.Column.{lists}
use Rattle.column_store.specs.Draft.{AreKept}
use Rattle.column_store.specs.Filled.{filled_tables}
use Rattle.column_store.proofs.Kept.{filled_store}
use Rattle.column_store.proofs.draft.Draft.fill.Goals as goal

pub fill_tables-requires-clause-fit : goal.fill_tables-requires-clause-fit
fill_tables-requires-clause-fit c t table e = c.tables.ensures.fits.tables t table (ap (λ ts. slice_get ts t) (sym c.tables.ensures.all) ∙ e)

pub fill_tables-requires-clause-kept : goal.fill_tables-requires-clause-kept
fill_tables-requires-clause-kept c t table columns e f =
    subst (λ rs. AreKept (get_or rs t 0) table.columns columns) (sym c.as_slice.ensures) (c.self.invariant.each t table columns (ap (λ ts. slice_get ts t) (sym c.tables.ensures.all) ∙ e) f)

pub of-requires : goal.of-requires
of-requires c =
    let s = c.self.inside in
    filled_store s.shape s.rows s.tables.items c.fill_tables.new.tables.items c.self.invariant c.tables.ensures.fits.tables
    (c.fill_tables.ensures ∙ (λ i. filled_tables (c.tables.ensures.all i) (c.as_slice.ensures i) (map lists s.tables.items)))
