use Rattle.std.proofs.Common.{◌-◌, arith}
use Rattle.column_store.proofs.ByteDigits.{AreBytes, number_of_rest}
use Rattle.column_store.proofs.column.number_of_bytes.Goals as goal

pub overflow_mul-number : goal.overflow_mul-number
overflow_mul-number c =
    let bytes : AreBytes c.args.bytes.now = λ i. omega (arith, c.type_inv.bytes i) in
    omega (arith, c.loop-at.invariant.spelled, number_of_rest c.args.bytes.now c.loop-at.at bytes c.requires c.loop-at-test.true)

pub overflow_add-number : goal.overflow_add-number
overflow_add-number c =
    let bytes : AreBytes c.args.bytes.now = λ i. omega (arith, c.type_inv.bytes i) in
    omega (arith, c.from.ensures, bytes (c.loop-at.at - 1), c.loop-at.invariant.spelled, number_of_rest c.args.bytes.now c.loop-at.at bytes c.requires c.loop-at-test.true)
