use Rattle.std.proofs.Common.{◌≡◌, ◌<◌, ◌∷◌, ◌++◌, [], length, arith, ◌∙◌}
use Rattle.std.proofs.lemmas.Grind.{common_steps}
use Rattle.packed_words.proofs.Places.{few_places, place_begun}
use Rattle.packed_words.proofs.multiples.add_place.Goals as goal

pub unreachable-requires : goal.unreachable-requires
unreachable-requires c =
    let few : length c.args.products.now.items < 4096 = few_places c.args.factor c.args.place c.args.products.now.items c.requires.place_exists c.requires.so_far in
    grind (arith, common_steps)

pub loop-bit-init : goal.loop-bit-init
loop-bit-init c =
    let pushed : c.push.new.self.items ≡ c.args.products.now.items ++ 0 ∷ [] = grind (arith, common_steps) in
    record { made = pushed ∙ place_begun c.args.factor c.args.place c.args.products.now.items c.requires.so_far; room = grind (arith, common_steps) }
