use Rattle.std.proofs.Common.{◌++◌, [], ap, sym, ◌∙◌, arith}
use Rattle.std.proofs.lemmas.List.{append-nil, drop_all}
use Rattle.m3_walk.specs.Linking.{products_with}
use Rattle.m3_walk.proofs.KeptSteps.{no_values}
use Rattle.m3_walk.proofs.kept.push_products.Goals as goal

pub returns-clause-items : goal.returns-clause-items
returns-clause-items c =
    let t = c.args.told in
    let l = c.loop-i in
    let all = drop_all l.i t.values.items (let e = c.loop-i-test.false in let n = c.len-i-end.ensures in omega (arith, e, n)) in
    sym (append-nil l.products.items)
    ∙ ap (λ ps. l.products.items ++ ps) (sym (ap (products_with t.alpha t.gamma l.flushes) all ∙ no_values t.alpha t.gamma l.flushes))
    ∙ l.invariant.items
