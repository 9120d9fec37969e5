use Rattle.std.proofs.Common.{List, sym, ap, subst, ◌∙◌, arith, length}
use Rattle.std.specs.List.{slice_get}
use Rattle.table_shape.specs.declared.shape.TableShape.{TableShape}
use Rattle.column_store.specs.Draft.{Drafted, Stored, zero_tables}
use Rattle.column_store.specs.Spelled.{all_values}
use Rattle.column_store.specs.Filled.{filled_tables}
use Rattle.witness_reader.specs.Putting.{AreTablesSpelled}
use Rattle.witness_reader.specs.Witness.{WitnessData}
use Rattle.witness_reader.proofs.GivenWitness.{read_where_given}
use Rattle.witness_reader.proofs.Putting.{tables_spelled}
use Rattle.witness_reader.proofs.witness.read_witness.Goals as goal

pub put_tables-requires : goal.put_tables-requires
put_tables-requires c =
    let draft = c.in_ok-draft.draft in
    let tables = c.args.shape.now.tables in
    let w : WitnessData = record { rows = draft.rows; bytes = c.in_ok-draft.bytes } in
    let g = (read_where_given tables c.args.file.now w).0 c.in_ok-draft.ensures.given in
    let spelled = tables_spelled g.whole tables w.rows w.bytes g.each in
    let all = c.tables.ensures.all in
    record {
      shape = ap (λ (d : Drafted). d.shape.tables) c.in_ok-draft.ensures.begun ∙ sym all;
      few = (let e = ap length all in let h = c.tables.ensures.fits.few_tables in omega arith);
      fit = λ t table e. c.tables.ensures.fits.tables t table (ap (λ ts. slice_get ts t) (sym all) ∙ e);
      spelled = subst (λ (ts : List TableShape). AreTablesSpelled ts draft.rows c.as_slice.result.now) (sym all) (subst (AreTablesSpelled tables draft.rows) (sym c.as_slice.ensures) spelled);
      zero = ap (λ (d : Drafted). d.values) c.in_ok-draft.ensures.begun ∙ ap (λ ts. zero_tables ts draft.rows) (sym all);
    }

pub returns-clause-found : goal.returns-clause-found
returns-clause-found c =
    let draft = c.in_ok-draft.draft in
    let w : WitnessData = record { rows = draft.rows; bytes = c.in_ok-draft.bytes } in
    let shape = ap (λ (d : Drafted). d.shape) c.in_ok-draft.ensures.begun in (
      ap (λ (s : Stored). s.shape) c.fill.ensures.filled ∙ ap (λ (d : Drafted). d.shape) c.put_tables.ensures ∙ shape,
      (
        w,
        c.in_ok-draft.ensures.given,
        ap (λ (s : Stored). s.rows) c.fill.ensures.filled ∙ ap (λ (d : Drafted). d.rows) c.put_tables.ensures,
        ap (λ (s : Stored). s.filling) c.fill.ensures.filled ∙ ap (λ (d : Drafted). filled_tables d.shape.tables d.rows d.values) c.put_tables.ensures
            ∙ (λ i. filled_tables (shape i).tables draft.rows (all_values (c.tables.ensures.all i) draft.rows (c.as_slice.ensures i))),
      ),
    )
