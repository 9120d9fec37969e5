use Rattle.std.proofs.Common.{◌*◌, ◌/◌, ◌%◌, ◌^◌, get_or, sym, ap, ◌∙◌, arith}
use Rattle.std.proofs.lemmas.Nat.{one_shl, pow_pos}
use Rattle.cube_laws.specs.Extension.{bit}
use Rattle.column_store.specs.Column.{list_of, lists}
use Rattle.oracle_lowering.proofs.BitPlaces.{bit_of_value, flag_of_bit}
use Rattle.oracle_lowering.proofs.bits.column_bit.Goals as goal

pub returns : goal.returns
returns c =
    let values = list_of (lists c.args.columns.now) c.args.block.now.column in
    let width = one_shl c.args.block.now.level 64 (omega arith) in
    flag_of_bit c.value_at.result (c.args.place % (1 * 2 ^ c.args.block.now.level % 2 ^ 64))
    ∙ ap (λ v. bit v (c.args.place % (1 * 2 ^ c.args.block.now.level % 2 ^ 64))) c.value_at.ensures
    ∙ (λ i. bit (get_or values (c.args.place / width i) 0) (c.args.place % width i))
    ∙ sym (bit_of_value (2 ^ c.args.block.now.level) values c.args.place (pow_pos c.args.block.now.level))
