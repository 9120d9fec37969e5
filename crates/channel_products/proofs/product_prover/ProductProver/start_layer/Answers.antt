use Rattle.std.proofs.Common.{◌≡◌, ◌∙◌, ◌+◌, ◌<◌, ◌^◌, [], length, ap, subst, sym}
use Rattle.layer_laws.specs.Layers.{layer_sum}
use Rattle.sumcheck.specs.Proving.{Goes}
use Rattle.sumcheck.specs.Rounds.{sum_claim}
use Rattle.channel_products.specs.Descent.{Pointed, row_vars}
use Rattle.channel_products.specs.Summands.{halves_form}
use Rattle.channel_products.specs.declared.product_prover.ProductProver.{ProductProver}
use Rattle.channel_products.specs.declared.product_prover.Standing.TheVariants.{Layer}
use Rattle.channel_products.proofs.DescentProving.{has_next, layer_starts}
use Rattle.channel_products.proofs.product_prover.ProductProver.start_layer.Goals as goal

pub layer_sum-requires-clause-below : goal.layer_sum-requires-clause-below
layer_sum-requires-clause-below c =
    let p : ProductProver = c.args.self.now in
    let m : ProductProver = c.ready.new.self in
    let rest : m ≡ record p { layers = m.layers } = c.in_ok-ready.ensures.rest in
    let above : p.layer < row_vars p.at.flushed = subst (λ n. p.layer < n) c.requires.vars c.requires.above in
    let more = has_next p c.requires.follows.0 c.requires.follows.1 m.layers.items c.requires.follows.2 above (λ t d h. c.in_ok-ready.ensures.kept c.requires.follows.0 t d h) in
    subst (λ (x : ProductProver). length c.next_below-below.result ≡ 2 ^ x.layer + 2 ^ x.layer) (sym rest) (ap length (c.next_below-below.ensures more.before more.next more.is).1 ∙ more.long)

pub returns-clause-follows : goal.returns-clause-follows
returns-clause-follows c = λ F s h.
    let p : ProductProver = c.args.self.now in
    let m : ProductProver = c.ready.new.self in
    let kept = c.next_below-below.new.layers in
    let q = c.in_ok-sum.sum in
    let rest : m ≡ record p { layers = m.layers } = c.in_ok-ready.ensures.rest in
    let above : p.layer < row_vars p.at.flushed = subst (λ n. p.layer < n) c.requires.vars c.requires.above in
    layer_starts p (record m { at = c.clear.new.self; layers = kept; sum = Layer q }) q m.layers.items c.next_below-below.result
    (ap (λ (t : Pointed). record m { at = t; layers = kept; sum = Layer q }) c.clear.ensures ∙ ap (λ (x : ProductProver). record x { at = record x.at { point = [] }; layers = kept; sum = Layer q }) rest)
    above c.next_below-below.ensures
    (λ x. subst (λ (y : ProductProver). Goes halves_form q (layer_sum y.layer y.at.point c.next_below-below.result) (sum_claim 3 y.layer [] x)) rest (c.in_ok-sum.ensures x))
    F s (λ t d k. c.in_ok-ready.ensures.kept F t d k) h
