use Rattle.std.proofs.Common.{◌≡◌, ◌∙◌, ◌∷◌, [], ◌^◌, take, drop, length, sym, ap, subst, arith}
use Rattle.cube_laws.specs.Extension.{weights}
use Rattle.cube_laws.specs.SumClaim.{AllLong}
use Rattle.channel_products.proofs.SumSteps.{layer_goes, layer_long}
use Rattle.channel_products.proofs.sum_tables.sum_of_layer.Goals as goal

pub begin-requires : goal.begin-requires
begin-requires c =
    let k = c.args.layer in
    let z = c.args.point.now in
    let below = c.args.below.now in
    let tables : c.in_ok-tables.tables ≡ weights z ∷ take (2 ^ k) below ∷ drop (2 ^ k) below ∷ [] = c.in_ok-tables.ensures ∙ (λ i. weights z ∷ take (c.power.ensures i) below ∷ drop (c.power.ensures i) below ∷ []) in
    let count = ap length tables in
    record {
      some = omega arith;
      long = (k, (let f = c.requires.few in omega arith), subst (AllLong (2 ^ k)) (sym tables) (layer_long k z below c.requires.point c.requires.below));
      low = omega arith;
      suits = omega arith;
    }

pub returns : goal.returns
returns c =
    let k = c.args.layer in
    let z = c.args.point.now in
    let below = c.args.below.now in
    let tables : c.in_ok-tables.tables ≡ weights z ∷ take (2 ^ k) below ∷ drop (2 ^ k) below ∷ [] = c.in_ok-tables.ensures ∙ (λ i. weights z ∷ take (c.power.ensures i) below ∷ drop (c.power.ensures i) below ∷ []) in
    layer_goes c.in_ok-begin.field-0 _ k z below c.in_ok-tables.tables c.requires.point c.requires.below tables
    (c.in_ok-begin.ensures k (subst (AllLong (2 ^ k)) (sym tables) (layer_long k z below c.requires.point c.requires.below)))
