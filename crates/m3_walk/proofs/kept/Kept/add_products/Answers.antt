use Rattle.std.proofs.Common.{length, ap, ◌∙◌, arith}
use Rattle.std.proofs.lemmas.List.{length-append}
use Rattle.m3_walk.specs.Kept as kept
use Rattle.m3_walk.specs.Linking.{products_with}
use Rattle.m3_walk.proofs.KeptSteps.{length-products_with}
use Rattle.m3_walk.proofs.kept.Kept.add_products.Goals as goal

pub invariant_of-self : goal.invariant_of-self
invariant_of-self c =
    let before = c.self.invariant in
    let t = c.args.told in
    let more = length-products_with t.alpha t.gamma t.flushes t.values.items c.requires.few in
    let joined = ap length c.push_products.ensures.items ∙ length-append c.self.inside.products.items (products_with t.alpha t.gamma t.flushes t.values.items) in
    let products = ap (λ (w : kept.Kept). length w.products) c.self.view_is in
    let room = ap (λ (w : kept.Kept). w.room) c.self.view_is in
    record {
      small = before.small;
      few_products = let r = c.requires.room in omega (arith, more, joined, products, room, r);
      few_columns = before.few_columns;
      products = let k = before.products in let r = c.push_products.ensures.capacity in omega (arith, k, r);
      columns = before.columns;
      taken = before.taken;
      none = before.none;
    }
