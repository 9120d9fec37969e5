use Rattle.std.proofs.Common.{length, ap, ◌∙◌, sym}
use Rattle.std.specs.List.{slice_get}
use Rattle.serde_json.specs.View.{members_view}
use Rattle.witness_reader.proofs.KeptWitness.{rows_kept}
use Rattle.witness_reader.proofs.witness.witness_of.Goals as goal

pub new-requires-clause-counts : goal.new-requires-clause-counts
new-requires-clause-counts c =
    let kept = rows_kept c.tables.result.now (members_view c.in-Some.whole.now.entries) c.in_ok-rows.rows c.in_ok-rows.ensures in
    ap length c.as_slice.ensures ∙ kept.counts ∙ ap length c.tables.ensures.all

pub new-requires-clause-few : goal.new-requires-clause-few
new-requires-clause-few c =
    let kept = rows_kept c.tables.result.now (members_view c.in-Some.whole.now.entries) c.in_ok-rows.rows c.in_ok-rows.ensures in
    rw c.as_slice.ensures kept.few

pub tables_bytes-requires-clause-fit : goal.tables_bytes-requires-clause-fit
tables_bytes-requires-clause-fit c t table e = c.tables-2.ensures.fits.tables t table (ap (λ ts. slice_get ts t) (sym c.tables-2.ensures.all) ∙ e)
