use Rattle.std.proofs.Common.{◌≡◌, ◌∙◌, ◌^◌, ◌++◌, ◌∷◌, [], List, ℕ, map, sym, ap}
use Rattle.cube_laws.specs.Extension.{weights}
use Rattle.cube_laws.specs.Sums.{tabulate}
use Rattle.cube_mle.proofs.Doubling.{weights_are}
use Rattle.table_shape.specs.Lowering.{step}
use Rattle.channel_products.specs.Descent.{row_steps, row_vars, selector_list}
use Rattle.channel_products.specs.Given.{table_of}
use Rattle.channel_products.proofs.sum_tables.leaf_tables.Goals as goal

pub returns : goal.returns
returns c =
    let z = c.args.point.now in
    let f = c.args.flush.now in
    let values = table_of c.args.tables.now f.table in
    let first = c.in_ok-push.ensures.ok ∙ ap (λ (ls : List (List ℕ)). ls ++ c.from_vec.result ∷ []) c.new-lists.ensures in
    let second = c.in_ok-push-2.ensures.ok ∙ ap (λ (ls : List (List ℕ)). ls ++ c.from_vec-2.result ∷ []) first in
    let third = c.in_ok-push-3.ensures.ok ∙ ap (λ (ls : List (List ℕ)). ls ++ c.from_vec-3.result ∷ []) second in
    let eq : c.from_vec.result ≡ weights z = c.from_vec.ensures ∙ c.in_ok-weights.ensures ∙ sym (weights_are z) in
    let steps : c.from_vec-2.result ≡ row_steps f = c.from_vec-2.ensures ∙ c.in_ok-steps.ensures ∙ ap (λ n. tabulate n (step f.rows)) (c.power.ensures ∙ ap (λ n. 2 ^ n) c.requires.vars) in
    let selector : c.from_vec-3.result ≡ selector_list values (row_vars f) f.shape.selector = c.from_vec-3.ensures ∙ c.in_ok-selector.ensures ∙ ap (λ n. selector_list values n f.shape.selector) c.requires.vars in
    c.in_ok-push_columns.ensures ∙ (λ i. third i ++ map values (c.as_slice-columns.ensures i)) ∙ (λ i. eq i ∷ steps i ∷ selector i ∷ map values f.shape.columns)
