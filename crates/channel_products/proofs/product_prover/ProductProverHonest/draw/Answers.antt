use Rattle.std.proofs.Common.{◌<◌, ◌+◌, ap, refl, subst, arith}
use Rattle.channel_products.specs.Descent.{Pointed}
use Rattle.channel_products.specs.DescentProver.{FollowsSum}
use Rattle.channel_products.specs.declared.product_prover.ProductProver.{ProductProver}
use Rattle.channel_products.specs.declared.product_prover.Standing.{Standing}
use Rattle.channel_products.specs.declared.product_prover.Standing.TheVariants.{Unmade, Layer, Leaves}
use Rattle.channel_products.proofs.DescentProving.{layer_binds, layer_joins, leaves_bind, no_draw}
use Rattle.channel_products.proofs.product_prover.ProductProverHonest.draw.Goals as goal

pub unreachable-requires : goal.unreachable-requires
unreachable-requires c =
    let p : ProductProver = c.args.self.now in
    no_draw p c.requires.0 c.requires.1 (subst (λ (x : Standing). FollowsSum p x c.requires.0 c.requires.1) c.in-Unmade.is c.requires.2) c.requires.3

pub returns-then-left-gt0 : goal.returns-then-left-gt0
returns-then-left-gt0 c = λ F s h w.
    let p : ProductProver = c.args.self.now in
    let r = c.bind.new.self in
    layer_binds p (record p { at = c.set.new.self; sum = Layer r }) c.in-Layer.sum r c.args.c (subst (λ n. 0 < n) c.left.ensures c.if-left-gt0.true) c.bind.ensures (ap (λ (t : Pointed). record p { at = t; sum = Layer r }) c.set.ensures) F s
    (subst (λ (x : Standing). FollowsSum p x F s) c.in-Layer.is h) w

pub returns-else-left-gt0 : goal.returns-else-left-gt0
returns-else-left-gt0 c = λ F s h w.
    let p : ProductProver = c.args.self.now in
    let e = c.left.ensures in
    let l = c.if-left-gt0.false in
    layer_joins p (record p { at = c.set.new.self; layer = p.layer + 1; sum = Unmade }) c.in-Layer.sum c.args.c (omega arith) (ap (λ (t : Pointed). record p { at = t; layer = p.layer + 1; sum = Unmade }) c.set.ensures) F s
    (subst (λ (x : Standing). FollowsSum p x F s) c.in-Layer.is h) w

pub returns-in-Leaves : goal.returns-in-Leaves
returns-in-Leaves c = λ F s h w.
    let p : ProductProver = c.args.self.now in
    let r = c.bind-in-Leaves.new.self in
    let e = c.set-in-Leaves.new.self in
    leaves_bind p (record p { sum = Leaves r; ending = e }) c.in-Leaves.sum r e c.args.c c.bind-in-Leaves.ensures c.set-in-Leaves.ensures refl F s
    (subst (λ (x : Standing). FollowsSum p x F s) c.in-Leaves.is h) w
