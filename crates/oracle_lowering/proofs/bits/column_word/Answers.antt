use Rattle.std.proofs.Common.{arith}
use Rattle.column_store.specs.Column.{list_of, lists}
use Rattle.oracle_lowering.proofs.AlignedWords.{next_value}
use Rattle.oracle_lowering.proofs.bits.column_word.Goals as goal

pub overflow_add-number : goal.overflow_add-number
overflow_add-number c =
    let one = next_value c.args.block.now.level c.loop-k.k c.args.count c.loop-k.number c.value_at.result c.args.first (list_of (lists c.args.columns.now) c.args.block.now.column)
    c.requires.is_a_level c.loop-k-test.true c.requires.room c.requires.fits c.value_at.ensures c.loop-k.invariant.value c.loop-k.invariant.fits in
    omega (arith, one.small)

pub loop-k-preserved : goal.loop-k-preserved
loop-k-preserved c =
    let one = next_value c.args.block.now.level c.loop-k.k c.args.count c.loop-k.number c.value_at.result c.args.first (list_of (lists c.args.columns.now) c.args.block.now.column)
    c.requires.is_a_level c.loop-k-test.true c.requires.room c.requires.fits c.value_at.ensures c.loop-k.invariant.value c.loop-k.invariant.fits in
    record { value = one.value; fits = one.fits }
