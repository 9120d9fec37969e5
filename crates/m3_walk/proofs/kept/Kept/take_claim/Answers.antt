use Rattle.std.proofs.Common.{length, ap, arith}
use Rattle.m3_walk.proofs.KeptSteps.{length-but_first}
use Rattle.m3_walk.proofs.kept.Kept.take_claim.Goals as goal

pub invariant_of-self : goal.invariant_of-self
invariant_of-self c =
    let before = c.self.invariant in
    let fewer = length-but_first c.args.table c.args.column c.self.inside.columns.items in
    let left = ap length c.take_first.ensures.others in
    let room = c.take_first.ensures.capacity in
    record {
      small = before.small;
      few_products = before.few_products;
      few_columns = let k = before.few_columns in omega (arith, fewer, left, k);
      products = before.products;
      columns = let k = before.columns in omega (arith, room, k);
      taken = before.taken;
      none = before.none;
    }
