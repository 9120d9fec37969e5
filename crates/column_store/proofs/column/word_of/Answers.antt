use Rattle.std.proofs.Common.{◌∙◌, arith}
use Rattle.column_store.proofs.ByteDigits.{AreBytes}
use Rattle.column_store.proofs.Words.{word_is}
use Rattle.column_store.proofs.column.word_of.Goals as goal

pub returns : goal.returns
returns c =
    let bytes : AreBytes c.args.bytes.now = λ i. omega (arith, c.type_inv.bytes i) in
    c.number_of_bytes.ensures ∙ word_is c.args.bytes.now c.args.k c.min.result c.min-2.result bytes c.min.ensures c.min-2.ensures
