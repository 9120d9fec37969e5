use Rattle.std.proofs.Common.{eq-eqb, ◌∙◌, arith}
use Rattle.column_store.proofs.ByteDigits.{AreBytes}
use Rattle.column_store.proofs.Padding.{whole_bytes_fit, last_byte_decides}
use Rattle.column_store.proofs.bits.spells_bits.Goals as goal

pub returns-then-used-eq0 : goal.returns-then-used-eq0
returns-then-used-eq0 c =
    let bytes : AreBytes c.args.bytes.now = λ i. omega (arith, c.type_inv.bytes i) in
    eq-eqb _ 0 c.if-used-eq0.true ∙ whole_bytes_fit c.args.bytes.now c.args.bits bytes c.requires c.if-used-eq0.true

pub returns-else-used-eq0 : goal.returns-else-used-eq0
returns-else-used-eq0 c =
    let bytes : AreBytes c.args.bytes.now = λ i. omega (arith, c.type_inv.bytes i) in
    last_byte_decides c.args.bytes.now c.args.bits bytes c.requires (omega arith)
