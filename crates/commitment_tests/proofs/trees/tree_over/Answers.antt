use Rattle.std.proofs.Common.{◌≡◌, ◌≤◌, ◌^◌, ◌%◌, ◌∙◌, length, ap, arith}
use Rattle.std.proofs.Math.Nat.{mod-eq_of_lt, pow-le-pow_right}
use Rattle.commitment_tests.proofs.trees.tree_over.Goals as goal

pub build-requires : goal.build-requires
build-requires c =
    let w : 2 ^ c.args.log ≤ 2 ^ 32 = pow-le-pow_right {n = 2} (omega arith) c.requires in
    let e : 2 ^ c.args.log % 2 ^ 64 ≡ 2 ^ c.args.log = mod-eq_of_lt (omega arith) in
    (c.args.log, (c.requires, ap length c.as_slice.ensures.value ∙ omega arith))
