use Rattle.std.proofs.Common.{◌++◌, map, ap, refl, ◌∙◌}
use Rattle.channel_products.specs.Channels.{product_of}
use Rattle.channel_products.specs.Given.{table_of}
use Rattle.channel_products.specs.declared.balance_prover.BalanceProver.{BalanceProver}
use Rattle.channel_products.specs.declared.balance_walk.Stage.TheVariants.{Told}
use Rattle.channel_products.proofs.ProverSteps.{message_follows, message_values}
use Rattle.channel_products.proofs.balance_prover.BalanceProverHonest.message.Goals as goal

pub returns-clause-values : goal.returns-clause-values
returns-clause-values c = λ F s h w.
    let p : BalanceProver = c.args.self.now in
    let values = c.in_ok-values.ensures ∙ ap (map (product_of (table_of p.tables.now) p.alpha p.gamma)) c.as_slice-flushes.ensures in
    c.in_ok-extend_from_slice.ensures.items ∙ ap (λ v. c.args.out.now.items ++ v) (c.as_slice.ensures.value ∙ message_values p c.in_ok-values.values.items values F s h w)

pub returns-clause-state : goal.returns-clause-state
returns-clause-state c = λ F s h w.
    let p : BalanceProver = c.args.self.now in
    let values = c.in_ok-values.ensures ∙ ap (map (product_of (table_of p.tables.now) p.alpha p.gamma)) c.as_slice-flushes.ensures in
    message_follows p (record p { stage = Told; values = c.in_ok-values.values }) refl values F s h w
