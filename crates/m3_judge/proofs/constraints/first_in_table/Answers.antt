use Rattle.std.proofs.Common.{refl, subst, arith}
use Rattle.std.proofs.lemmas.Option.{slice_get_read}
use Rattle.m3_judge.proofs.Searching.{AreZero-more}
use Rattle.m3_judge.specs.Judging.{IsZeroOn, IsFirstFound}
use Rattle.m3_judge.proofs.constraints.first_in_table.Goals as goal

pub first_at_level-requires-clause-log_values : goal.first_at_level-requires-clause-log_values
first_at_level-requires-clause-log_values c =
    let item = rw c.as_slice-constraint-items.ensures at c.constraint-item.is in
    let below = rw c.as_slice-constraint-items.ensures at c.loop-constraint_number-test.true in
    (c.requires.fits.constraints c.loop-constraint_number.constraint_number c.constraint-item.result (slice_get_read _ _ _ _ refl below item)).log_values

pub returns-in-Some : goal.returns-in-Some
returns-in-Some c =
    let item = rw c.as_slice-constraint-items.ensures at c.constraint-item.is in
    let below = rw c.as_slice-constraint-items.ensures at c.loop-constraint_number-test.true in (
      refl,
      record {
        constraint = c.constraint-item.result;
        is = slice_get_read _ _ _ _ refl below item;
        found = subst (λ ls. IsFirstFound ls c.constraint-item.result c.args.rows c.in-Some.found) c.columns-columns.ensures c.in-Some.ensures;
        before = c.loop-constraint_number.invariant;
      },
    )

pub loop-constraint_number-preserved : goal.loop-constraint_number-preserved
loop-constraint_number-preserved c =
    let item = rw c.as_slice-constraint-items.ensures at c.constraint-item.is in
    let below = rw c.as_slice-constraint-items.ensures at c.loop-constraint_number-test.true in
    AreZero-more c.args.store.now.filling c.args.number c.args.table.now c.args.rows c.loop-constraint_number.constraint_number c.constraint-item.result (slice_get_read _ _ _ _ refl below item) c.loop-constraint_number.invariant (subst (λ ls. IsZeroOn ls c.constraint-item.result c.args.rows) c.columns-columns.ensures c.in_default.ensures)

pub returns : goal.returns
returns c z constraint below at =
    let past = rw c.as_slice-constraint-items.ensures at c.loop-constraint_number-test.false in
    c.loop-constraint_number.invariant z constraint (omega (arith, past)) at
