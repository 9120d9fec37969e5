use Rattle.std.proofs.Common.{◌∙◌, [], sym, ap}
use Rattle.sumcheck.specs.Rounds.{sum_claim}
use Rattle.sumcheck.specs.Summing.{adding}
use Rattle.channel_products.specs.Descent.{descending, leaves, row_vars}
use Rattle.channel_products.specs.DescentFields.{sums_from}
use Rattle.channel_products.proofs.product_walk.descend.Goals as goal

pub returns-then-below-eq0-clause-state : goal.returns-then-below-eq0-clause-state
returns-then-below-eq0-clause-state c low high claims =
    let t = c.args.layered.now.at in
    let n = row_vars t.flushed in
    let none = c.if-below-eq0.true in
    let first = c.next_rounds.ensures [] (sum_claim 4 n [] 0) (c.requires.later ∙ ap (sums_from n c.args.layer) none) in
    ap (λ r. leaves (adding t r)) first.1 ∙ ap (λ d. descending t.flushed t.alpha t.gamma c.args.layer d t.point c.args.value) (sym none)
