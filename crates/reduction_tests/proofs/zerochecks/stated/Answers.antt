use Rattle.std.proofs.Common.{IsSome, slice_get, refl, sym, ◌∙◌, ap, subst}
use Rattle.zerocheck.specs.Zero.{IsWaiting}
use Rattle.zerocheck.proofs.GroupSteps.{first_group}
use Rattle.reduction_tests.proofs.zerochecks.stated.Goals as goal

pub begin-requires-clause-some : goal.begin-requires-clause-some
begin-requires-clause-some c =
    let table = c.in-Some.table.now in
    let constraint = c.in-Some-at.constraint.now in
    let there = first_group c.args.shape.now.tables c.args.rows 0 table constraint (ap (λ xs. slice_get xs 0) (sym c.tables.ensures.all) ∙ sym c.in-Some.ensures) (ap (λ xs. slice_get xs 0) (sym c.as_slice.ensures) ∙ sym c.in-Some-at.ensures) in
    subst IsSome (sym there.1) refl

pub enter-requires : goal.enter-requires
enter-requires c =
    let table = c.in-Some.table.now in
    let constraint = c.in-Some-at.constraint.now in
    let there = first_group c.args.shape.now.tables c.args.rows 0 table constraint (ap (λ xs. slice_get xs 0) (sym c.tables.ensures.all) ∙ sym c.in-Some.ensures) (ap (λ xs. slice_get xs 0) (sym c.as_slice.ensures) ∙ sym c.in-Some-at.ensures) in
    subst IsWaiting (sym (c.in_ok-walk.ensures there.0 there.1)) tt
