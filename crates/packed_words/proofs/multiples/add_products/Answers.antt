use Rattle.std.proofs.Common.{◌≡◌, ◌<◌, ◌∷◌, ◌++◌, [], length, arith, ◌∙◌, ap}
use Rattle.std.proofs.lemmas.Grind.{common_steps}
use Rattle.tower_laws.specs.Tower.{mul}
use Rattle.packed_words.proofs.Places.{within, few_before, product_added}
use Rattle.packed_words.proofs.multiples.add_products.Goals as goal

pub index-requires : goal.index-requires
index-requires c = let h = within c.args.factor c.args.place c.args.bit c.loop-k.k c.loop-k.products.items c.requires.bit_exists c.loop-k-test.true c.loop-k.invariant.made in omega (arith, h, c.loop-k.products.ok)

pub unreachable-requires : goal.unreachable-requires
unreachable-requires c =
    let few : length c.loop-k.products.items < 4096 = few_before c.args.factor c.args.place c.args.bit c.loop-k.k c.loop-k.products.items c.requires.place_exists c.requires.bit_exists c.loop-k-test.true c.loop-k.invariant.made in
    grind (arith, common_steps)

pub loop-k-preserved : goal.loop-k-preserved
loop-k-preserved c =
    let pushed : c.push.new.self.items ≡ c.loop-k.products.items ++ c.add-product.result ∷ [] = grind (arith, common_steps) in
    let room = c.loop-k.invariant.room in
    record {
      made = pushed ∙ ap (λ w. c.loop-k.products.items ++ w ∷ []) c.add-product.ensures
          ∙ product_added c.args.factor c.args.place c.args.bit c.loop-k.k c.index.result.now c.mul-step.result c.loop-k.products.items
          c.requires.place_exists c.requires.bit_exists c.loop-k-test.true c.loop-k.invariant.made c.index.ensures (c.mul-step.ensures ∙ ap (mul c.args.factor) c.element_of.ensures);
      room = grind (arith, common_steps);
    }
