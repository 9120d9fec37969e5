use Rattle.std.proofs.Common.{◌≡◌, ◌∙◌, ◌-◌, ◌++◌, ◌∷◌, [], List, ℕ, take, drop, length, sym, ap}
use Rattle.std.proofs.lemmas.List.{take_rest}
use Rattle.cube_laws.specs.Extension.{weights}
use Rattle.cube_mle.proofs.Doubling.{weights_are}
use Rattle.channel_products.proofs.sum_tables.layer_tables.Goals as goal

pub returns : goal.returns
returns c =
    let z = c.args.point.now in
    let half = c.args.half in
    let below = c.args.below.now in
    let first = c.in_ok-push.ensures.ok ∙ ap (λ (ls : List (List ℕ)). ls ++ c.from_vec.result ∷ []) c.new-tables.ensures in
    let second = c.in_ok-push-2.ensures.ok ∙ ap (λ (ls : List (List ℕ)). ls ++ c.from_vec-2.result ∷ []) first in
    let third = c.in_ok-push-3.ensures.ok ∙ ap (λ (ls : List (List ℕ)). ls ++ c.from_vec-3.result ∷ []) second in
    let eq : c.from_vec.result ≡ weights z = c.from_vec.ensures ∙ c.in_ok-weights.ensures ∙ sym (weights_are z) in
    let low : c.from_vec-2.result ≡ take half below = c.from_vec-2.ensures ∙ c.in_ok-extend_from_slice.ensures.items ∙ ap (λ (v : List ℕ). v ++ take half below) c.new-low.ensures.items in
    let high : c.from_vec-3.result ≡ drop half below = c.from_vec-3.ensures ∙ c.in_ok-extend_from_slice-2.ensures.items ∙ ap (λ (v : List ℕ). v ++ take (length below - half) (drop half below)) c.new-high.ensures.items ∙ take_rest below half in
    third ∙ (λ i. eq i ∷ low i ∷ high i ∷ [])
