use Rattle.std.proofs.Common.{ℕ, refl, arith}
use Rattle.std.proofs.lemmas.Nat.{one_shl}
use Rattle.table_shape.specs.Value.{value}
use Rattle.m3_judge.specs.Judging.{values_in}
use Rattle.m3_judge.proofs.Expanding.{blocks_more, rows_done}
use Rattle.m3_judge.proofs.blocks.are_zero_rows.Goals as goal

pub loop-k-preserved : goal.loop-k-preserved
loop-k-preserved g c =
    let f : ℕ → ℕ = λ n. value (values_in c.args.columns.now n) c.args.constraint.now.expr in
    blocks_more f _ c.loop-k.k c.loop-k.invariant (c.if-not-is_zero_block.ensures refl)

pub returns : goal.returns
returns g c true r index from before at =
    let f : ℕ → ℕ = λ n. value (values_in c.args.columns.now n) c.args.constraint.now.expr in
    let log = c.args.constraint.now.log_values in
    rows_done f c.args.row log _ _ c.loop-k.k r index (one_shl log 64 (let l = c.requires.log_values in omega arith)) refl c.loop-k-test.false c.loop-k.invariant from before at
